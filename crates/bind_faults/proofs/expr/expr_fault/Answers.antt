use Rattle.std.proofs.Common.{ap, sym, ◌∙◌}
use Rattle.bind_faults.specs.Least.{earlier, least}
use Rattle.bind_faults.specs.Values.{within_expr, setting_of, result_faults}
use Rattle.bind_faults.proofs.Leasts.{least_append}
use Rattle.bind_faults.proofs.expr.expr_fault.Goals as goal

pub returns : goal.returns
returns c =
    let setting = setting_of c.args.scope c.args.target c.args.expr.now in
    c.earlier.ensures
    ∙ ap (λ z. earlier z c.result_fault.result) (c.within_fault.ensures ∙ ap (λ z. least (within_expr c.args.schema.now z c.args.expr.now)) c.setting_of-setting.ensures)
    ∙ ap (earlier (least (within_expr c.args.schema.now setting c.args.expr.now))) c.result_fault.ensures
    ∙ sym (least_append (within_expr c.args.schema.now setting c.args.expr.now) (result_faults c.args.target c.args.expr.now))
