use Rattle.std.proofs.Common.{◌≡◌, false}
use Rattle.std.specs.List.{All}
use Rattle.group_view.specs.declared.groups.Group.{Group}
use Rattle.group_view.specs.Lists.{is_open, IsFittingContent}
use Rattle.store_tests.proofs.choice_tests.groups_of.Given as goal

abbrev pub invariant-loop-place : goal.invariant-loop-place
invariant-loop-place g l = All (λ (group : Group). IsFittingContent group.content × (is_open group.content ≡ false)) l.groups.items
