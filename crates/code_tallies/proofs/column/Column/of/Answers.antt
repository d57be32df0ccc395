use Rattle.std.proofs.Common.{arith}
use Rattle.code_tallies.proofs.First.{first-codes}
use Rattle.code_tallies.proofs.column.Column.of.Goals as goal

pub returns : goal.returns
returns c =
    let segment = c.segment-segment.result.now in
    record {
      counted = c.segment-segment.ensures.rows;
      kept = c.segment-segment.ensures.cells;
      each = c.segment-segment.ensures.each;
      most = λ i within. c.last_code-last.ensures.most i (omega (arith, within, c.segment-segment.ensures.rows));
      known = c.last_code-last.ensures.known;
      present = first-codes segment.body c.last_code-last.result c.codes_in_order.ensures.order c.last_code-last.ensures.known c.null_codes-first.result c.null_codes-first.ensures;
    }
