use Rattle.std.proofs.Common.{arith, inl, inr, ◌≤◌, ◌+◌, ◌∙◌}
use Rattle.column_segment.proofs.Layouts.{stretch-more}
use Rattle.column_segment.proofs.segment.codes_of_runs.Goals as goal

pub loop-done-preserved : goal.loop-done-preserved
loop-done-preserved c =
    let run = c.run_at-code.ensures.run in
    let past = run.not_ended in
    let within : c.args.from + c.min-stop.result ≤ c.run_at-code.result.1 = omega (arith, c.min-stop.ensures, past) in
    record {
      within = omega (arith, c.min-stop.ensures);
      codes = stretch-more c.args.runs.now.codes c.args.runs.now.ends c.loop-done.out c.put_code.new.out c.args.from c.loop-done.done c.min-stop.result c.run_at-code.result.0 c.run_at-code.result.1 c.args.runs.now.in_order run within c.loop-done.invariant.codes c.put_code.ensures.put (λ i low. c.put_code.ensures.others i (inl low));
      others = λ i high. c.put_code.ensures.others i (inr (omega (arith, high, c.min-stop.ensures))) ∙ c.loop-done.invariant.others i high;
    }
