use Rattle.std.proofs.Common.{◌≡◌, ℕ, List, length, All}
use Rattle.std.specs.Vec.Iter.{into_iter_items}
use Rattle.batch_aggregate.specs.Standing.{Entry, entries_in, merged, IsBy}
use Rattle.batch_aggregate.proofs.entries.add_all.Given as goal

-- what is kept, with the groups that are left, is what was kept, with all
abbrev pub invariant-loop-cells : goal.invariant-loop-cells
invariant-loop-cells l = record {
  by : (columns : List ℕ) → IsBy columns l.initial.entries → IsBy columns l.entries;
  wide : (columns : List ℕ) → All (λ (e : Entry). length e.0 ≡ length columns) (entries_in l.fn.others) → All (λ (e : Entry). length e.0 ≡ length columns) (into_iter_items l.cells-iterator);
  all : (columns : List ℕ) → IsBy columns l.initial.entries → All (λ (e : Entry). length e.0 ≡ length columns) (entries_in l.fn.others)
      → merged (entries_in l.entries) (into_iter_items l.cells-iterator) ≡ merged (entries_in l.initial.entries) (entries_in l.fn.others);
}
