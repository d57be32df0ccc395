use Rattle.std.proofs.Common.{ℕ, ◌<◌, ◌≤◌}
use Rattle.std.specs.Prelude.{slice_index}
use Rattle.group_view.proofs.EndLemmas.{EndsAt}
use Rattle.group_view.proofs.ended.ends_version.Given as goal

abbrev pub invariant-loop-place : goal.invariant-loop-place
invariant-loop-place l = (i : ℕ) → l.initial.place ≤ i → i < l.place → EndsAt l.packed l.marks l.buffer.entries l.key l.end (slice_index l.packed.places i) → ⊥
