use Rattle.std.proofs.Common.{slice_index, arith}
use Rattle.code_tallies.proofs.Tallying.{count-tally}
use Rattle.code_tallies.proofs.tabulate.count_table.Goals as goal

pub returns : goal.returns
returns c = record {
  long = λ k within. omega (arith, within, c.in_ok-counts_of.ensures.long);
  tallies = λ k within.
      count-tally c.args.packed.now c.args.place c.in-Some.column c.in-Some.ensures c.args.chosen.now c.requires.length k
      (slice_index c.in_ok-counts_of.field-0.items k) (c.in_ok-counts_of.ensures.each k within);
}
