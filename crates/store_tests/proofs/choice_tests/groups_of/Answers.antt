use Rattle.std.proofs.Common.{◌≡◌, ◌+◌, ◌++◌, ◌∷◌, [], List, false}
use Rattle.std.proofs.lemmas.List.Elements.{All-push, All-same}
use Rattle.group_view.specs.declared.groups.Group.{Group}
use Rattle.group_view.specs.Lists.{is_open, IsFittingContent}
use Rattle.store_tests.proofs.choice_tests.groups_of.Goals as goal

abbrev IsFit : Group → Type 0
IsFit group = IsFittingContent group.content × (is_open group.content ≡ false)

pub loop-place-preserved : goal.loop-place-preserved
loop-place-preserved g c =
    let group : Group = record { id = c.loop-place.place + 1; content = c.in_ok-content.content } in
    let groups : List Group = c.loop-place.groups.items in
    All-same IsFit c.push.new.self.items (groups ++ group ∷ []) c.in_ok-push.ensures.items (All-push IsFit groups group c.loop-place.invariant c.in_ok-content.ensures)
