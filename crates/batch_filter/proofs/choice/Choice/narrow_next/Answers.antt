use Rattle.std.proofs.Common.{◌+◌, sym, ap, arith}
use Rattle.column_segment.specs.Bodies.{code_in}
use Rattle.batch_filter.specs.Codes.{takes}
use Rattle.batch_filter.proofs.SieveLemmas.{narrowed_at_alike}
use Rattle.batch_filter.proofs.choice.Choice.narrow_next.Goals as goal

pub returns-then-run-ge-LONG_RUN-clause-narrowed : goal.returns-then-run-ge-LONG_RUN-clause-narrowed
returns-then-run-ge-LONG_RUN-clause-narrowed c =
    let choice = c.args.self.now in
    let body = c.args.segment.now.body in
    narrowed_at_alike c.args.from _ (λ _. takes choice c.stretch-code.result.0) (λ i. takes choice (code_in body (c.args.from + i))) c.args.mask.now c.narrow_run.new.mask
    (λ i l. ap (takes choice) (sym (c.stretch-code.ensures.same (c.args.from + i) (omega arith) (omega arith))))
    c.narrow_run.ensures
