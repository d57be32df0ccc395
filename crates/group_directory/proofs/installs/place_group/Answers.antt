use Rattle.std.proofs.Common.{sym, ◌∙◌}
use Rattle.std.proofs.lemmas.List.Quantifiers.{position-Some}
use Rattle.group_book.specs.Turns.{is_fresh}
use Rattle.group_view.specs.declared.groups.Group.{Group}
use Rattle.group_view.specs.declared.groups.GroupContent.TheVariants.{Compressed}
use Rattle.group_view.specs.Books.{group_of}
use Rattle.group_directory.proofs.InstallLists.{found_alone, set_alone}
use Rattle.group_directory.proofs.installs.place_group.Goals as goal

pub unreachable-requires : goal.unreachable-requires
unreachable-requires c = found_alone (λ (group : Group). is_fresh c.args.fresh (group_of group)) c.args.groups.now c.requires (sym c.fresh_place.ensures ∙ c.in-None.is)

pub returns : goal.returns
returns c =
    let found = position-Some (λ (group : Group). is_fresh c.args.fresh (group_of group)) c.args.groups.now c.in-Some.place c.index-groups-place.result (sym c.fresh_place.ensures ∙ c.in-Some.is) in
    set_alone (λ (group : Group). is_fresh c.args.fresh (group_of group)) (λ (group : Group). record group { content = Compressed c.args.packed c.args.marks }) c.args.groups.now c.in-Some.place c.index-groups-place.result c.requires found.0 found.1
