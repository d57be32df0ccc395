use Rattle.std.proofs.Common.{◌≡◌}
use Rattle.std.specs.List.{flat_map, All}
use Rattle.group_view.specs.Parts.{rowed_in, IsFitting}
use Rattle.desk_tests.proofs.Numbered.{numbered}
use Rattle.desk_tests.proofs.scan_workers_tests.groups_of.Given as goal

abbrev pub invariant-loop-key : goal.invariant-loop-key
invariant-loop-key l = (flat_map (λ group. rowed_in group.1) l.groups ≡ numbered l.key) × All (λ group. IsFitting group.1) l.groups
