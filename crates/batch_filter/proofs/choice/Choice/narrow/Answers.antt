use Rattle.std.proofs.Common.{◌∙◌, arith}
use Rattle.column_segment.specs.Bodies.{code_in}
use Rattle.batch_filter.specs.Codes.{takes}
use Rattle.batch_filter.proofs.SieveLemmas.{batch_more, batch_others}
use Rattle.batch_filter.proofs.choice.Choice.narrow.Goals as goal

pub loop-from-preserved : goal.loop-from-preserved
loop-from-preserved c =
    let before = c.loop-from.invariant in
    let next = c.narrow_next-from.ensures in
    let is = next.narrowed in record {
      same = is.0 ∙ before.same;
      within = omega (arith, is.0, next.within);
      done = batch_more (λ i. takes c.args.self.now (code_in c.args.segment.now.body i)) c.args.mask.now c.loop-from.mask c.narrow_next-from.new.mask c.loop-from.from c.narrow_next-from.result is before.done before.others;
      others = batch_others (λ i. takes c.args.self.now (code_in c.args.segment.now.body i)) c.args.mask.now c.loop-from.mask c.narrow_next-from.new.mask c.loop-from.from c.narrow_next-from.result is before.others;
    }
