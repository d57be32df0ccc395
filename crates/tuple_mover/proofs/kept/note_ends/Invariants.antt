use Rattle.std.proofs.Common.{◌≡◌, ◌++◌, ℕ, List, map, take}
use Rattle.delete_bitmap.specs.Marks.{end_at}
use Rattle.group_view.specs.Parts.{Rowed, end_of_mark}
use Rattle.tuple_mover.specs.Kept.{placed_ends}
use Rattle.tuple_mover.proofs.kept.note_ends.Given as goal

abbrev pub invariant-loop-i : goal.invariant-loop-i
invariant-loop-i l =
    (rowed : List Rowed) → map (λ (version : Rowed). version.version.end) rowed ≡ map (λ (position : ℕ). end_of_mark (end_at l.marks position)) l.positions → l.ends.items ≡ l.initial.ends.items ++ placed_ends l.first (take l.i rowed)
