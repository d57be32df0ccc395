use Rattle.std.proofs.Common.{◌≡◌, ℕ, take}
use Rattle.std.specs.List.{flat_map}
use Rattle.group_view.specs.Parts.{versions_in}
use Rattle.group_view.specs.Views.{buffer_of}
use Rattle.tuple_mover.specs.Spent.{spent_by}
use Rattle.tuple_mover.proofs.spent.spent.Given as goal

abbrev pub invariant-loop-place : goal.invariant-loop-place
invariant-loop-place l = l.spent.items ≡ spent_by l.claim.floor (buffer_of l.claim.view) (flat_map (λ (group : ℕ × _). versions_in group.1) (take l.place l.claim.view.groups))
