use Rattle.std.proofs.Common.{◌∙◌, ◌++◌, ◌∷◌, [], List, ap, refl, sym, subst, arith, length, Option}
use Rattle.std.specs.Prelude.{IsSome}
use Rattle.cs_model.specs.declared.entry.Entry.TheVariants.{Mover}
use Rattle.cs_model.specs.declared.work.Actor.{Actor}
use Rattle.group_book.specs.Book as book
use Rattle.group_book.specs.Choices.{release_work}
use Rattle.group_log.specs.Followed.{ground_of}
use Rattle.group_view.specs.declared.claim.Claim.{Claim}
use Rattle.group_view.specs.Books.{choice_of, claim_of, book_of}
use Rattle.group_directory.specs.declared.directory.Directory.{Directory}
use Rattle.group_directory.specs.Installing.{held_by}
use Rattle.group_directory.specs.Laws.{sizes_of as directory_sizes}
use Rattle.statement_core.specs.declared.core_state.CoreState.{CoreState}
use Rattle.statement_core.specs.CoreValue.{CoreValue}
use Rattle.statement_core.specs.Movers.{IsOfWork}
use Rattle.statement_core.specs.Terms.{sizes_of}
use Rattle.statement_core.specs.Turns.{EndsBy}
use Rattle.statement_core.proofs.Going.{going_stays}
use Rattle.statement_core.proofs.Reorganizes.{release_may}
use Rattle.statement_core.proofs.Turns.{fewer_claims, state_listed, core_worked, held_found, held_in_book, held_release, held_work, works_release, turn_ended}
use Rattle.statement_core.proofs.core_calls.Core.release.Goals as goal

pub release_work-work-requires : goal.release_work-work-requires
release_work-work-requires c =
    let d = c.self.inside.held.directory in
    let i = c.self.invariant.0 in
    let kept = held_found (held_by c.args.actor d.list.claims.items) c.in-Some.claim.now c.in-Some.ensures in
    subst (λ (x : Claim). IsOfWork (choice_of x.choice)) kept.2 (held_work d i.changes i.stands c.args.actor kept.0 kept.1)

pub release-requires-clause-holds : goal.release-requires-clause-holds
release-requires-clause-holds c =
    let d = c.self.inside.held.directory in
    let i = c.self.invariant.0 in
    let kept = held_found (held_by c.args.actor d.list.claims.items) c.in-Some.claim.now c.in-Some.ensures in
    subst (λ (o : Option book.Claim). IsSome o) (sym (held_in_book d i.changes i.stands c.args.actor kept.0 kept.1)) refl

pub push_reserved-requires : goal.push_reserved-requires
push_reserved-requires c =
    let inside = c.self.inside in
    let i = c.self.invariant.0 in
    let claims = inside.held.directory.list.claims.items in
    let kept = held_found (held_by c.args.actor claims) c.in-Some.claim.now c.in-Some.ensures in
    let fewer = fewer_claims c.args.actor claims (subst (λ (o : Option (Actor × Claim)). IsSome o) (sym kept.1) refl) in
    let room = i.room in
    omega (arith, fewer, room, inside.log.ok.0)

pub invariant_of-self : goal.invariant_of-self
invariant_of-self c =
    let inside = c.self.inside in
    let i = c.self.invariant.0 in
    let j = i.stands in
    let old = inside.held in
    let d = c.release.new.self in
    let new : CoreState = record { directory = d; halves = old.halves; settings = old.settings } in
    let actor = c.args.actor in
    let w = c.release_work-work.result in
    let claims = old.directory.list.claims.items in
    let gives = c.release.ensures in
    let kept = held_found (held_by actor claims) c.in-Some.claim.now c.in-Some.ensures in
    let is_work = held_release old.directory i.changes j actor kept.0 kept.1 c.in-Some.claim.now w kept.2 c.release_work-work.ensures in
    let fewer = fewer_claims actor claims (subst (λ (o : Option (Actor × Claim)). IsSome o) (sym kept.1) refl) in
    let less = ap (λ (l : List (Actor × Claim)). length l) gives.claims in
    let room = i.room in
    let cap = c.push_reserved.ensures.capacity in
    rw c.push_reserved.ensures.items (
      core_worked inside.terms.value old inside.log.items _ inside.sessions.items i new _ actor w
          (release_may (ground_of inside.terms.value.schema.value (sizes_of inside.terms.value)) inside.log.items actor (choice_of kept.0.1.choice) (claim_of kept.0) w (rw (← c.self.view_is) at c.requires.may) is_work)
          (gives.stands i.changes j) (ap (λ (x : Directory). x.sizes) gives.rest) (ap (λ (x : Directory). x.schema) gives.rest)
          (state_listed i.changes old d gives.rest) (works_release old.directory i.changes j actor kept.0 kept.1 (directory_sizes old.directory) j.floor w (book_of d.list) is_work gives.book)
          (omega (arith, fewer, less, room, cap)),
      c.self.invariant.1 ∙ sym (going_stays inside.sessions.items inside.log.items (Mover actor w) refl),
    )

pub returns-clause-ends : goal.returns-clause-ends
returns-clause-ends c =
    let inside = c.self.inside in
    let i = c.self.invariant.0 in
    let j = i.stands in
    let old = inside.held in
    let actor = c.args.actor in
    let w = c.release_work-work.result in
    let claims = old.directory.list.claims.items in
    let kept = held_found (held_by actor claims) c.in-Some.claim.now c.in-Some.ensures in
    let is_work = held_release old.directory i.changes j actor kept.0 kept.1 c.in-Some.claim.now w kept.2 c.release_work-work.ensures in (
      Mover actor w ∷ [],
      c.push_reserved.ensures.items ∙ ap (λ (v : CoreValue). v.log ++ Mover actor w ∷ []) c.self.view_is,
      subst (λ (v : CoreValue). EndsBy release_work (ground_of v.schema v.sizes) v.log actor (Mover actor w ∷ [])) c.self.view_is (turn_ended inside.terms.value old inside.log.items _ inside.sessions.items i release_work actor kept.0 kept.1 w is_work),
    )
