use Rattle.std.proofs.Common.{[], ◌∷◌, ap, ◌∙◌, arith}
use Rattle.history_gate.proofs.Numbers.{without-range}
use Rattle.history_gate.proofs.PassLaws.{has_one, keeps_round}
use Rattle.desk_tests.proofs.history_gate_tests.+threads.Goals as goal

pub threads-pass-requires-clause-reserve : goal.threads-pass-requires-clause-reserve
threads-pass-requires-clause-reserve g t c κs within = without-range c.args.number c.args.count _ _ (omega (arith, c.if-count-eq0.false)) c.requires.reserve c.split-pass.ensures.left.2

pub threads-pass-requires-in-Err-clause-reserve : goal.threads-pass-requires-in-Err-clause-reserve
threads-pass-requires-in-Err-clause-reserve g t c κs within = without-range c.args.number c.args.count _ _ (omega (arith, c.if-count-eq0.false)) c.requires.reserve c.split-pass.ensures.left.2

pub returns-after-rest-clause-numbers : goal.returns-after-rest-clause-numbers
returns-after-rest-clause-numbers g t c =
    keeps_round c.args.number c.args.pass c.split-pass.result.0 c.threads-pass.result.0 c.join-other.result.0 c.join.result c.split-pass.ensures.left.1 c.split-pass.ensures.left.2 c.threads-pass.ensures.numbers
    (has_one c.args.number c.join-other.result.0 (c.join-other.ensures.1 ∙ ap (λ home. home.number ∷ []) c.in-Ok.ensures.ok)) c.join.ensures.both.0 c.join.ensures.both.1

pub returns-after-rest-2-clause-numbers : goal.returns-after-rest-2-clause-numbers
returns-after-rest-2-clause-numbers g t c =
    keeps_round c.args.number c.args.pass c.split-pass.result.0 c.threads-pass-in-Err.result.0 c.work-other.result.0 c.join-in-Err.result c.split-pass.ensures.left.1 c.split-pass.ensures.left.2 c.threads-pass-in-Err.ensures.numbers
    (has_one c.args.number c.work-other.result.0 (c.work-other.ensures.1 ∙ ap (λ f. f.3 ∷ []) c.in-Err.ensures.err)) c.join-in-Err.ensures.both.0 c.join-in-Err.ensures.both.1
