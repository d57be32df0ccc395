use Rattle.std.proofs.Common.{◌∙◌, ◌≡◌, ◌≤◌, [], sym, subst, rules, arith, vec_capacity}
use Rattle.statement_core.specs.declared.core_state.CoreState.{CoreState}
use Rattle.statement_core.specs.declared.started.Terms.{Terms}
use Rattle.statement_core.specs.Cores.{IsCore}
use Rattle.statement_core.specs.Ended.{without_end}
use Rattle.statement_core.specs.NewTable.{IsNewTable}
use Rattle.statement_core.proofs.Going.{going_first}
use Rattle.statement_core.proofs.Keeping.{no_claims, core_new}
use Rattle.statement_core.proofs.core_calls.Core.new.Goals as goal

pub invariant_of-result : goal.invariant_of-result
invariant_of-result c =
    let made = c.in-Ok.terms.value in
    let held : CoreState = record { directory = c.in_ok-directory.directory; halves = c.in_ok-halves.halves; settings = c.in_ok-settings.settings } in
    let table = subst (λ (t : Terms). IsNewTable c.args.schema c.args.group_rows c.args.direct_rows c.in_ok-directory.directory t) (sym c.in-Ok.ensures.ok) c.in_ok-directory.ensures in
    let e : c.reserve.new.self.items ≡ [] = search rules in
    let room : 64 ≤ vec_capacity c.reserve.new.self = search (rules, arith) in
    let same : c.in_ok-sessions.sessions.items ≡ c.args.sessions.now = search rules in (
      subst (λ s. IsCore made held c.reserve.new.self.items (vec_capacity c.reserve.new.self) s) (sym same)
          (subst (λ l. IsCore made held l (vec_capacity c.reserve.new.self) c.args.sessions.now) (sym e)
          (core_new c.args.schema c.args.group_rows c.args.direct_rows held made (vec_capacity c.reserve.new.self) c.args.sessions.now table c.requires.table c.requires.sizes c.in_ok-halves.ensures c.in_ok-settings.ensures room c.requires.numbers c.requires.few c.requires.distinct)),
      sym (going_first c.args.sessions.now) ∙ sym (λ i. without_end (e i) (same i)),
    )

pub returns-clause-claims : goal.returns-clause-claims
returns-clause-claims c =
    let made = c.in-Ok.terms.value in
    let held : CoreState = record { directory = c.in_ok-directory.directory; halves = c.in_ok-halves.halves; settings = c.in_ok-settings.settings } in
    no_claims c.args.schema c.args.group_rows c.args.direct_rows held made
    (subst (λ (t : Terms). IsNewTable c.args.schema c.args.group_rows c.args.direct_rows c.in_ok-directory.directory t) (sym c.in-Ok.ensures.ok) c.in_ok-directory.ensures)
