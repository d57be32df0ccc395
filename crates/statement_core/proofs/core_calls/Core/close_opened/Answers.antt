use Rattle.std.proofs.Common.{◌≡◌, ◌∙◌, None, refl, ap, sym, subst, arith, rules}
use Rattle.std.specs.Prelude.{length}
use Rattle.cs_model.specs.declared.entry.Entry.TheVariants.{Mover}
use Rattle.cs_model.specs.declared.work.Work.TheVariants.{Close}
use Rattle.log_laws.proofs.Room.{owed_at_most}
use Rattle.group_log.specs.Followed.{ground_of}
use Rattle.group_log.specs.Reorganizing.{HasNoneOpen}
use Rattle.statement_core.specs.CoreState.{groups_of}
use Rattle.statement_core.specs.CoreValue.{CoreValue}
use Rattle.statement_core.specs.Reorganizes.{IsClosing, HoldsAt}
use Rattle.statement_core.specs.Terms.{sizes_of}
use Rattle.statement_core.proofs.Closing.{none_open, none_closes}
use Rattle.statement_core.proofs.Going.{going_stays}
use Rattle.statement_core.proofs.Keeping.{core_same}
use Rattle.statement_core.proofs.Turns.{core_closed, free_in_book, moment}
use Rattle.statement_core.proofs.core_calls.Core.close_opened.Goals as goal

pub close_opened-closed-requires : goal.close_opened-closed-requires
close_opened-closed-requires c = let i = c.self.invariant.0 in record { stands = (i.changes, i.stands) }

pub invariant_of-self-in-Some : goal.invariant_of-self-in-Some
invariant_of-self-in-Some c =
    let inside = c.self.inside in
    let i = c.self.invariant.0 in
    let made = inside.terms.value in
    let old = inside.held in
    let new = c.close_opened-closed.new.held in
    let actor = c.args.actor in
    let id = c.in-Some.group in
    let gives = c.close_opened-closed.ensures in
    let none = free_in_book old.directory actor (rw (← c.self.view_is) at c.requires.free) in
    let most = owed_at_most inside.sessions.items inside.log.items in
    let few = i.few in
    let claims = ap length gives.claims in
    rw (c.push_reserved.ensures.items, c.in_ok-reserve.ensures.items) (
      core_closed made old inside.log.items _ inside.sessions.items i new _ actor id (rw (← c.self.view_is) at c.requires.may) none (sym gives.closed ∙ c.in-Some.is) gives.book (gives.stands i.changes i.stands) gives.sizes gives.schema
          (gives.state i.changes) (omega (arith, most, few, claims, c.len-claims.ensures, c.push_reserved.ensures.capacity, c.in_ok-reserve.ensures.ok)),
      c.self.invariant.1 ∙ sym (going_stays inside.sessions.items inside.log.items (Mover actor (Close id)) refl),
    )

pub invariant_of-self-in_default : goal.invariant_of-self-in_default
invariant_of-self-in_default c =
    let inside = c.self.inside in
    let i = c.self.invariant.0 in
    let old = inside.held in
    let new = c.close_opened-closed.new.held in
    let gives = c.close_opened-closed.ensures in
    let none : c.close_opened-closed.result ≡ None = search rules in
    let same = gives.book ∙ none_closes (groups_of old) (sym gives.closed ∙ none) in
    let most = owed_at_most inside.sessions.items inside.log.items in
    let few = i.few in
    let claims = ap length gives.claims in
    rw c.in_ok-reserve.ensures.items (
      core_same inside.terms.value old new inside.log.items _ _ inside.sessions.items i (gives.stands i.changes i.stands) gives.sizes gives.schema (gives.state i.changes) same
          (omega (arith, most, few, claims, c.len-claims.ensures, c.in_ok-reserve.ensures.ok)),
      c.self.invariant.1,
    )

pub returns-in_default-clause-closes : goal.returns-in_default-clause-closes
returns-in_default-clause-closes c =
    let inside = c.self.inside in
    let i = c.self.invariant.0 in
    let made = inside.terms.value in
    let old = inside.held in
    let gives = c.close_opened-closed.ensures in
    let none : c.close_opened-closed.result ≡ None = search rules in
    let sees : HoldsAt (ground_of made.schema.value (sizes_of made)) HasNoneOpen inside.log.items =
    record { moment = moment made old inside.log.items _ inside.sessions.items i; holds = none_open (groups_of old).groups (sym gives.closed ∙ none) } in
    subst (λ o. IsClosing (ground_of c.args.self.now.schema c.args.self.now.sizes) c.args.self.now.log c.args.actor o c.reserve.new.self.items) (sym none)
    (c.in_ok-reserve.ensures.items ∙ ap (λ (v : CoreValue). v.log) c.self.view_is, subst (λ (v : CoreValue). HoldsAt (ground_of v.schema v.sizes) HasNoneOpen v.log) c.self.view_is sees)
