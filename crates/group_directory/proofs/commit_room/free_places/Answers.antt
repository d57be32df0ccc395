use Rattle.std.proofs.Common.{ℕ, sym, ap, subst, ◌∙◌, Option}
use Rattle.std.proofs.lemmas.List.Elements.{recursion_from_All}
use Rattle.group_view.specs.declared.groups.Group.{Group}
use Rattle.group_view.specs.Books.{content_of}
use Rattle.group_view.specs.Lists.{IsOpenAt}
use Rattle.group_directory.specs.Committing.{places_in}
use Rattle.group_directory.proofs.OpenLemmas.{IsShut, places-shut}
use Rattle.group_directory.proofs.ChangeLemmas.{places_here}
use Rattle.group_directory.proofs.commit_room.free_places.Goals as goal

pub returns-in-Some : goal.returns-in-Some
returns-in-Some c =
    c.places_in.ensures ∙ ap (λ (group : Group). places_in c.args.group_rows (content_of group.content)) (sym c.index-as_slice-at.is)
    ∙ sym (places_here c.args.list.now c.in-Some.at c.index-as_slice-at.result c.requires c.in-Some.is (rw c.as_slice.ensures at c.index-as_slice-at.is) c.args.group_rows)

pub returns-in-None : goal.returns-in-None
returns-in-None c =
    sym (places-shut c.args.group_rows c.args.list.now.groups.items (recursion_from_All IsShut c.args.list.now.groups.items (subst (λ (at : Option ℕ). IsOpenAt c.args.list.now.groups.items at) c.in-None.is c.requires.opened)))
