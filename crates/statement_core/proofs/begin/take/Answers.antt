use Rattle.std.proofs.Common.{◌≡◌, sym, ap, ◌∙◌, cond, is_none, true, Bool, rules}
use Rattle.cs_model.specs.Kinds.{is_of_table}
use Rattle.cs_model.specs.Steps.{pinned}
use Rattle.statement_core.specs.CoreState.{state_of}
use Rattle.statement_core.proofs.begin.take.Goals as goal

pub returns-clause-state : goal.returns-clause-state
returns-clause-state c = λ changes.
    let m = state_of changes c.args.held.now in
    let s = c.args.session in
    let on_table : is_of_table c.args.bound.now ≡ true = search rules in
    let short : c.is_none-short.result ≡ is_none c.pin-pinned.result = search rules in
    c.pin-pinned.ensures.state changes ∙ ap (pinned m s) (sym short) ∙ sym (ap (λ (t : Bool). cond t (pinned m s c.is_none-short.result) m) on_table)
