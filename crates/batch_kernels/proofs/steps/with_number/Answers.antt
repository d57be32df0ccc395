use Rattle.std.proofs.Common.{◌+◌, ◌+ℤ◌, FitsSigned, w64, ◌∙◌, rules, arith}
use Rattle.std.specs.Int.{w128}
use Rattle.std.proofs.lemmas.Int.{ints, to_z-of_z}
use Rattle.batch_kernels.specs.Places.{IsSumOf}
use Rattle.batch_kernels.proofs.OneMore.{IsSumOf-inside}
use Rattle.batch_kernels.proofs.steps.with_number.Goals as goal

pub returns-clause-bound : goal.returns-clause-bound
returns-clause-bound c = λ n is.
    let part : FitsSigned w64 c.kept.result = search rules in
    let sum : FitsSigned w128 c.args.sum = c.ranges.sum in
    let all : IsSumOf (n + c.args.inside) (c.args.sum +ℤ c.kept.result)
    = IsSumOf-inside c.args.sum c.args.number c.kept.result c.args.inside n c.ranges.number c.requires.inside (λ one. c.kept.ensures.inside one ∙ to_z-of_z w64 c.args.number c.ranges.number) c.kept.ensures.outside is in
    (omega (arith, ints), omega (arith, ints))
