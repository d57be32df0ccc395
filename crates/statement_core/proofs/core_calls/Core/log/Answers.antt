use Rattle.std.proofs.Common.{◌≡◌, [], subst}
use Rattle.cs_model.specs.State.{begin_of}
use Rattle.cs_model.specs.Steps.{Legal}
use Rattle.group_log.specs.Counted.{IsCounted}
use Rattle.group_log.specs.Followed.{ground_of, Followed}
use Rattle.group_log.specs.Reorganizing.{IsReorganized}
use Rattle.statement_core.specs.CoreValue.{CoreValue}
use Rattle.statement_core.specs.CoreState.{state_of, groups_of}
use Rattle.statement_core.specs.Turns.{HasAllClaims}
use Rattle.statement_core.proofs.Keeping.{core_legal}
use Rattle.statement_core.proofs.Turns.{all_claims, no_claims}
use Rattle.statement_core.proofs.core_calls.Core.log.Goals as goal

pub returns-clause-legal : goal.returns-clause-legal
returns-clause-legal c =
    let inside = c.self.inside in
    let i = c.self.invariant.0 in
    (state_of i.changes inside.held, subst (λ (v : CoreValue). Legal (begin_of v.schema) v.log (state_of i.changes inside.held)) c.self.view_is (core_legal inside.terms.value inside.held inside.log.items _ inside.sessions.items i))

pub returns-clause-followed : goal.returns-clause-followed
returns-clause-followed c =
    let inside = c.self.inside in
    let i = c.self.invariant.0 in
    (state_of i.changes inside.held, groups_of inside.held, subst (λ (v : CoreValue). Followed (ground_of v.schema v.sizes) v.log (state_of i.changes inside.held) (groups_of inside.held)) c.self.view_is i.followed)

pub returns-clause-counted : goal.returns-clause-counted
returns-clause-counted c =
    let i = c.self.invariant.0 in
    subst (λ (v : CoreValue). IsCounted (ground_of v.schema v.sizes) v.log) c.self.view_is i.counted

pub returns-clause-reorganized : goal.returns-clause-reorganized
returns-clause-reorganized c =
    let i = c.self.invariant.0 in
    subst (λ (v : CoreValue). IsReorganized (ground_of v.schema v.sizes) v.log) c.self.view_is i.reorganized

pub returns-clause-claims : goal.returns-clause-claims
returns-clause-claims c =
    let inside = c.self.inside in
    subst (λ (v : CoreValue). HasAllClaims (ground_of v.schema v.sizes) v.log v.claims) c.self.view_is (all_claims inside.terms.value inside.held inside.log.items _ inside.sessions.items c.self.invariant.0)

pub returns-clause-none : goal.returns-clause-none
returns-clause-none c =
    let inside = c.self.inside in
    subst (λ (v : CoreValue). v.log ≡ [] → v.claims ≡ []) c.self.view_is (no_claims inside.terms.value inside.held inside.log.items _ inside.sessions.items c.self.invariant.0)
