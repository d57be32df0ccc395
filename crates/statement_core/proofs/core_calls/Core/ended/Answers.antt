use Rattle.std.proofs.Common.{◌≡◌, ◌∙◌, subst, sym, arith}
use Rattle.std.proofs.lemmas.Bool.Decides.{nat_tests}
use Rattle.statement_core.specs.CoreValue.{CoreValue}
use Rattle.statement_core.specs.Ended.{HaveEnded}
use Rattle.statement_core.proofs.Going.{all_ended, none_goes}
use Rattle.statement_core.proofs.core_calls.Core.ended.Goals as goal

pub returns-clause-ended : goal.returns-clause-ended
returns-clause-ended c = λ yes.
    let inside = c.self.inside in
    let none : inside.unended ≡ 0 = grind (arith, nat_tests, yes) in
    subst (λ (v : CoreValue). HaveEnded v.log v.sessions) c.self.view_is (all_ended inside.sessions.items inside.log.items (sym c.self.invariant.1 ∙ none))

pub returns-clause-exactly : goal.returns-clause-exactly
returns-clause-exactly c = λ all.
    let inside = c.self.inside in
    let none : inside.unended ≡ 0 = c.self.invariant.1 ∙ none_goes inside.sessions.items inside.log.items (subst (λ (v : CoreValue). HaveEnded v.log v.sessions) (sym c.self.view_is) all) in
    grind (arith, nat_tests, none)
