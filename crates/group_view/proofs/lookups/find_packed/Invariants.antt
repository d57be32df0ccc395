use Rattle.std.proofs.Common.{ℕ, ◌<◌, ◌≤◌}
use Rattle.std.specs.Prelude.{slice_index}
use Rattle.group_view.specs.Parts.{packed_versions}
use Rattle.group_view.specs.Views.{endings_of, ShowsAt}
use Rattle.group_view.proofs.lookups.find_packed.Given as goal

abbrev pub invariant-loop-place : goal.invariant-loop-place
invariant-loop-place l =
    (i : ℕ) → l.initial.place ≤ i → i < l.place → ShowsAt (endings_of l.buffer) l.fn.key l.s (packed_versions l.packed.key l.packed.rows l.marks) (slice_index l.packed.places i) → ⊥
