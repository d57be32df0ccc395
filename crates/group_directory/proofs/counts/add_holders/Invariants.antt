use Rattle.std.proofs.Common.{◌≡◌, ℕ, ◌++◌, map, take}
use Rattle.group_view.specs.declared.parts.GroupPart.{GroupPart}
use Rattle.group_directory.proofs.counts.add_holders.Given as goal

abbrev pub invariant-loop-place : goal.invariant-loop-place
invariant-loop-place l = l.holders ≡ l.initial.holders ++ map (λ (part : ℕ × GroupPart). (part.0, l.held.0)) (take l.place l.held.1.view.groups)
