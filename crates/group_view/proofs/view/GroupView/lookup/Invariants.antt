use Rattle.std.proofs.Common.{◌≤◌}
use Rattle.std.specs.Prelude.{length}
use Rattle.group_view.specs.Views.{Shows}
use Rattle.group_view.specs.declared.view.Place.{Place}
use Rattle.group_view.proofs.view.GroupView.lookup.Given as goal

-- no group from this one on shows the key
abbrev pub invariant-loop-group : goal.invariant-loop-group
invariant-loop-group l = (l.group ≤ length l.self.groups) × ((place : Place) → l.group ≤ place.group → Shows l.self l.key l.s place → ⊥)

abbrev pub decreases-loop-group : goal.decreases-loop-group
decreases-loop-group l = l.group
