use Rattle.std.proofs.Common.{◌≡◌, ◌≤◌, ◌<◌, ◌⊎◌, ℕ, get_or}
use Rattle.column_segment.proofs.layout.greatest_of.Given as goal

abbrev pub invariant-loop-code : goal.invariant-loop-code
invariant-loop-code l = record {
  bound : (k : ℕ) → k < l.code-index → get_or l.codes k 0 ≤ l.greatest;
  reached : (l.greatest ≡ 0) ⊎ ((k : ℕ) × (k < l.code-index) × (get_or l.codes k 0 ≡ l.greatest));
}
