use Rattle.std.proofs.Common.{ℕ, ◌-◌, ap, ◌∙◌, map}
use Rattle.std.specs.Int.{div_ceil}
use Rattle.group_view.specs.Books.{group_of}
use Rattle.group_directory.specs.Committing.{places}
use Rattle.group_directory.proofs.CountLemmas.{stores_by_division}
use Rattle.group_directory.proofs.commit_room.stores_needed.Goals as goal

pub returns : goal.returns
returns c =
    c.div_ceil.ensures
    ∙ ap (λ (n : ℕ). div_ceil n c.args.group_rows) (c.saturating_sub.ensures ∙ ap (λ (free : ℕ). c.args.rows - free) c.free_places.ensures)
    ∙ stores_by_division c.args.group_rows (places c.args.group_rows (map group_of c.args.list.now.groups.items)) c.args.rows c.requires.rows
