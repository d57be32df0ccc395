use Rattle.std.proofs.Common.{slice_index, arith}
use Rattle.code_tallies.proofs.Bounds.{whole-greatest}
use Rattle.code_tallies.proofs.Tallying.{greatest-tally}
use Rattle.code_tallies.proofs.tabulate.greatest_table.Goals as goal

pub returns : goal.returns
returns c =
    let is = c.in_ok-counts.ensures in
    record {
      long = λ k within. (omega (arith, within, is.counts.long), c.in-Some.ensures.known);
      tallies = λ k within.
          greatest-tally c.args.packed.now c.args.place c.in-Some.column c.in-Some.ensures c.args.chosen.now c.requires.length k
          (slice_index c.in_ok-counts.counts.items k) (is.counts.each k within)
          c.codes_in_order.ensures.order (slice_index c.in_ok-counts.codes.items k) (is.greatest.each k within);
    }

pub returns-then-is_whole : goal.returns-then-is_whole
returns-then-is_whole c = record {
  long = λ k within. tt;
  tallies = λ k within.
      whole-greatest c.args.chosen.now c.if-is_whole.ensures.each c.if-is_whole.ensures.alone c.args.packed.now c.args.place c.requires.length k within
      c.in-Some.column.segment.now.greatest c.in-Some.ensures.kept.greatest_is;
}
