use Rattle.std.proofs.Common.{◌∙◌, ap, sym, Err, FitsSigned}
use Rattle.std.specs.Int.{w128}
use Rattle.std.proofs.lemmas.Int.{to_z-of_z}
use Rattle.cs_types.proofs.FitLemmas.{fit-wide}
use Rattle.cs_types.proofs.fit.fit_number.Goals as goal

pub returns-in-None : goal.returns-in-None
returns-in-None c =
    let range : FitsSigned w128 c.args.m = c.ranges.m in
    let wide = simp to_z-of_z at c.in-None.ensures in
    ap Err c.range_refusal-in-None.ensures
    ∙ sym (fit-wide c.args.kind c.args.m c.args.s c.scale.result c.requires c.scale.ensures wide)
