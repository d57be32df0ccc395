use Rattle.std.proofs.Common.{slice_index, arith, pos}
use Rattle.std.specs.Prelude.{slice_index_or}
use Rattle.code_tallies.specs.Columns.{code_at}
use Rattle.code_tallies.proofs.Tallying.{sum-tally}
use Rattle.code_tallies.proofs.tabulate.sum_table.Goals as goal

pub sums_of-requires-clause-known : goal.sums_of-requires-clause-known
sums_of-requires-clause-known c = λ i within.
    let is = c.in-Some.ensures in
    is.known (code_at c.in-Some.column i) (is.most i (omega (arith, within, is.counted)))

pub returns-clause-sum : goal.returns-clause-sum
returns-clause-sum c =
    let table = c.in_ok-sums_of.field-0 in
    let is = c.in_ok-sums_of.ensures in
    record {
      long = λ k within. omega (arith, within, is.counts.long);
      tallies = λ k within.
          sum-tally c.args.packed.now c.args.place c.in-Some.column c.in-Some.ensures c.args.chosen.now c.requires.length k
          (slice_index table.counts.items k) (is.counts.each k within) (slice_index_or table.sums.items k (pos 0)) (is.sums.each k within);
    }

pub returns-clause-average : goal.returns-clause-average
returns-clause-average c =
    let table = c.in_ok-sums_of.field-0 in
    let is = c.in_ok-sums_of.ensures in
    record {
      long = λ k within. omega (arith, within, is.counts.long);
      tallies = λ k within.
          sum-tally c.args.packed.now c.args.place c.in-Some.column c.in-Some.ensures c.args.chosen.now c.requires.length k
          (slice_index table.counts.items k) (is.counts.each k within) (slice_index_or table.sums.items k (pos 0)) (is.sums.each k within);
    }
