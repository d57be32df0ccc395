use Rattle.std.proofs.Common.{◌∙◌, sym}
use Rattle.group_view.specs.Parts.{stored_versions}
use Rattle.batch_scan.proofs.Seen.{mine_by}
use Rattle.row_work.proofs.Stored.{found_read, none_read, own_not_read}
use Rattle.row_work.proofs.stores.position_of.Goals as goal

pub returns-then-is_some-clause-none : goal.returns-then-is_some-clause-none
returns-then-is_some-clause-none c = λ p is.
    own_not_read c.args.pinned.now c.args.key (stored_versions c.args.store.now) p (mine_by c.args.pinned.now.own c.args.key c.find.result c.find.ensures.place ∙ sym c.is_some.ensures ∙ c.if-is_some.true) is

pub returns-clause-found : goal.returns-clause-found
returns-clause-found c =
    found_read c.args.pinned.now c.args.key (stored_versions c.args.store.now) (mine_by c.args.pinned.now.own c.args.key c.find.result c.find.ensures.place ∙ sym c.is_some.ensures ∙ c.if-is_some.false) c.seen_from.result (rw c.buffer.ensures at c.seen_from.ensures.found)

pub returns-clause-none : goal.returns-clause-none
returns-clause-none c = none_read c.args.pinned.now c.args.key (stored_versions c.args.store.now) c.seen_from.result (rw c.buffer.ensures at c.seen_from.ensures.none)
