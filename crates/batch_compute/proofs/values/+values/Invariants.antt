use Rattle.std.proofs.Common.{◌≡◌, length}
use Rattle.cs_model.specs.Expressions.{product, sum}
use Rattle.batch_compute.proofs.Chains.{AreChainsFrom}
use Rattle.batch_compute.proofs.values.+values.Given as goal

-- what is computed so far and what is left make the whole
abbrev pub invariant-sums_on-loop-part : goal.invariant-sums_on-loop-part
invariant-sums_on-loop-part l = record {
  long : length l.totals.items ≡ length l.numbers;
  chains : AreChainsFrom sum l.numbers l.fn.left.items l.rest l.part-index l.totals.items;
}

abbrev pub invariant-products_on-loop-part : goal.invariant-products_on-loop-part
invariant-products_on-loop-part l = record {
  long : length l.totals.items ≡ length l.numbers;
  chains : AreChainsFrom product l.numbers l.fn.left.items l.rest l.part-index l.totals.items;
}
