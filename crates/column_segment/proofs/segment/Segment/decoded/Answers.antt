use Rattle.std.proofs.Common.{◌≡◌, ◌+◌, ◌<◌, length, ◌∙◌, ap, arith}
use Rattle.std.proofs.lemmas.List.{length_push}
use Rattle.column_segment.specs.Bodies.{cell_in, cell_of_code}
use Rattle.column_segment.proofs.Kept.{pushed}
use Rattle.column_segment.proofs.segment.Segment.decoded.Goals as goal

pub loop-i-preserved : goal.loop-i-preserved
loop-i-preserved c =
    let low : c.loop-i.i < c.args.count = omega (arith, c.loop-i-test.true) in
    let value : c.in_ok-to_value.field-0 ≡ cell_in c.args.self.now.body (c.args.from + c.loop-i.i) =
    c.in_ok-to_value.ensures ∙ c.cell_of.ensures ∙ ap (cell_of_code c.args.self.now.body) (c.code_batch.ensures.codes c.loop-i.i low) in
    let long = c.loop-i.invariant.long in
    record {
      long = ap length c.in_ok-push.ensures.items ∙ length_push c.loop-i.all.items c.in_ok-to_value.field-0 ∙ ap (λ n. n + 1) long;
      cells = pushed c.loop-i.all.items _ c.in_ok-to_value.field-0 c.loop-i.i (λ k. cell_in c.args.self.now.body (c.args.from + k)) c.in_ok-push.ensures.items long value c.loop-i.invariant.cells;
    }
