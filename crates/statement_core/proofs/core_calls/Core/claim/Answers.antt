use Rattle.std.proofs.Common.{◌≡◌, ◌∙◌, ◌++◌, ◌∷◌, [], List, ap, sym, subst, arith, rules, None, Some, Option, refl}
use Rattle.std.proofs.lemmas.List.{append-nil}
use Rattle.cs_types.specs.declared.Schema.{Schema}
use Rattle.cs_types.specs.Schemas.{IsSchema}
use Rattle.cs_model.specs.declared.entry.Entry.{Entry}
use Rattle.cs_model.specs.declared.entry.Entry.TheVariants.{Mover}
use Rattle.cs_model.specs.declared.work.Actor.{Actor}
use Rattle.cs_model.specs.declared.work.Work.{Work}
use Rattle.log_laws.proofs.Room.{owed_at_most}
use Rattle.group_book.specs.Choices.{choice}
use Rattle.group_log.specs.Followed.{ground_of}
use Rattle.group_view.specs.declared.claim.Claim.{Claim}
use Rattle.group_directory.specs.Laws.{sizes_of as directory_sizes}
use Rattle.statement_core.specs.CoreValue.{CoreValue}
use Rattle.statement_core.specs.CoreState.{groups_of, claims_of}
use Rattle.statement_core.specs.Fit.{AreFitting}
use Rattle.statement_core.specs.Movers.{GivesTurn, IsFirstOf}
use Rattle.statement_core.specs.Terms.{sizes_of}
use Rattle.statement_core.specs.Turns.{TurnsTo}
use Rattle.statement_core.proofs.Going.{going_stays}
use Rattle.statement_core.proofs.Keeping.{core_same}
use Rattle.statement_core.proofs.Reorganizes.{begin_may, first_begins}
use Rattle.statement_core.proofs.Turns.{core_worked, first_none, first_works, free_in_book, turn_told, turned_claims}
use Rattle.statement_core.proofs.core_calls.Core.claim.Goals as goal
use Rattle.statement_core.proofs.core_calls.Core.claim.Goals.{in-Some, in_default}

pub claim-turned-requires-clause-none : goal.claim-turned-requires-clause-none
claim-turned-requires-clause-none c = free_in_book c.self.inside.held.directory c.args.actor (rw (← c.self.view_is) at c.requires.free)

pub invariant_of-self-in-Some : goal.invariant_of-self-in-Some
invariant_of-self-in-Some c =
    let inside = c.self.inside in
    let i = c.self.invariant.0 in
    let j = i.stands in
    let fits = i.fit in
    let made = inside.terms.value in
    let old = inside.held in
    let new = c.claim-turned.new.held in
    let actor = c.args.actor in
    let given = c.claim-turned.result.0 in
    let w = c.in-Some.work in
    let gives = c.claim-turned.ensures in
    let first = subst (λ (o : Option Work). IsFirstOf (choice j.floor old.directory.sizes.group_rows actor (groups_of old)) j.floor actor (groups_of old) given o (groups_of new)) c.in-Some.is (gives.first j.floor j.is_floor) in
    let none = free_in_book old.directory actor (rw (← c.self.view_is) at c.requires.free) in
    let most = owed_at_most inside.sessions.items inside.log.items in
    let few = i.few in
    let turned = gives.turned i.changes j (subst IsSchema (sym i.schema) i.table) (subst (λ (s : Schema). AreFitting s i.changes) (sym i.schema) fits.changes) in
    let more = turned_claims actor (claims_of old) (claims_of new) given turned in
    rw (c.push_reserved.ensures.items, c.in_ok-reserve.ensures.items) (
      core_worked made old inside.log.items _ inside.sessions.items i new _ actor w
          (begin_may (ground_of made.schema.value (sizes_of made)) inside.log.items actor w (rw (← c.self.view_is) at c.requires.may)
          (first_begins (choice j.floor old.directory.sizes.group_rows actor (groups_of old)) j.floor (groups_of old) given w first.0))
          (gives.stands i.changes j) gives.sizes gives.schema (gives.state i.changes)
          (first_works (directory_sizes old.directory) j.floor actor (groups_of old) (groups_of new) given w none first)
          (omega (arith, most, few, more, c.len-claims.ensures, c.push_reserved.ensures.capacity, c.in_ok-reserve.ensures.ok)),
      c.self.invariant.1 ∙ sym (going_stays inside.sessions.items inside.log.items (Mover actor w) refl),
    )

pub invariant_of-self-in_default : goal.invariant_of-self-in_default
invariant_of-self-in_default c =
    let inside = c.self.inside in
    let i = c.self.invariant.0 in
    let j = i.stands in
    let fits = i.fit in
    let made = inside.terms.value in
    let old = inside.held in
    let new = c.claim-turned.new.held in
    let actor = c.args.actor in
    let given = c.claim-turned.result.0 in
    let gives = c.claim-turned.ensures in
    let idle : c.claim-turned.result.1 ≡ None = search rules in
    let first = subst (λ (o : Option Work). IsFirstOf (choice j.floor old.directory.sizes.group_rows actor (groups_of old)) j.floor actor (groups_of old) given o (groups_of new)) idle (gives.first j.floor j.is_floor) in
    let same = first_none (directory_sizes old.directory) j.floor actor (groups_of old) (groups_of new) given first in
    let most = owed_at_most inside.sessions.items inside.log.items in
    let few = i.few in
    let turned = gives.turned i.changes j (subst IsSchema (sym i.schema) i.table) (subst (λ (s : Schema). AreFitting s i.changes) (sym i.schema) fits.changes) in
    let more = turned_claims actor (claims_of old) (claims_of new) given turned in
    rw c.in_ok-reserve.ensures.items (
      core_same made old new inside.log.items _ _ inside.sessions.items i (gives.stands i.changes j) gives.sizes gives.schema (gives.state i.changes) same (omega (arith, most, few, more, c.len-claims.ensures, c.in_ok-reserve.ensures.ok)),
      c.self.invariant.1,
    )

pub returns-clause-begins : goal.returns-clause-begins
returns-clause-begins c =
    let inside = c.self.inside in
    let i = c.self.invariant.0 in
    let j = i.stands in
    let made = inside.terms.value in
    let old = inside.held in
    let new = c.claim-turned.new.held in
    let actor = c.args.actor in
    let given = c.claim-turned.result.0 in
    let gives = c.claim-turned.ensures in
    let none = free_in_book old.directory actor (rw (← c.self.view_is) at c.requires.free) in
    let log_is = c.in_ok-reserve.ensures.items ∙ ap (λ (v : CoreValue). v.log) c.self.view_is in
    elim c.match-work.branch [
      | in-Some w ↦
          let first = subst (λ (o : Option Work). IsFirstOf (choice j.floor old.directory.sizes.group_rows actor (groups_of old)) j.floor actor (groups_of old) given o (groups_of new)) w.in-Some.is (gives.first j.floor j.is_floor) in (
            Mover actor w.in-Some.work ∷ [],
            ap (λ (v : CoreValue). v.log) w.self-is ∙ w.push_reserved.ensures.items ∙ ap (λ (l : List Entry). l ++ Mover actor w.in-Some.work ∷ []) log_is,
            subst (λ (v : CoreValue). TurnsTo (ground_of v.schema v.sizes) v.log actor given (Mover actor w.in-Some.work ∷ [])) c.self.view_is
                (turn_told made old inside.log.items _ inside.sessions.items i actor (groups_of new) given (Some w.in-Some.work) none first),
          )
      | in_default w ↦
          let idle : c.claim-turned.result.1 ≡ None = search rules in
          let first = subst (λ (o : Option Work). IsFirstOf (choice j.floor old.directory.sizes.group_rows actor (groups_of old)) j.floor actor (groups_of old) given o (groups_of new)) idle (gives.first j.floor j.is_floor) in (
            [],
            ap (λ (v : CoreValue). v.log) w.self-is ∙ log_is ∙ sym (append-nil c.args.self.now.log),
            subst (λ (v : CoreValue). TurnsTo (ground_of v.schema v.sizes) v.log actor given []) c.self.view_is (turn_told made old inside.log.items _ inside.sessions.items i actor (groups_of new) given None none first),
          )
    ]

pub returns-clause-turned : goal.returns-clause-turned
returns-clause-turned c =
    let inside = c.self.inside in
    let i = c.self.invariant.0 in
    let fits = i.fit in
    let actor = c.args.actor in
    let given = c.claim-turned.result.0 in
    let gives = c.claim-turned.ensures in
    let turned = gives.turned i.changes i.stands (subst IsSchema (sym i.schema) i.table) (subst (λ (s : Schema). AreFitting s i.changes) (sym i.schema) fits.changes) in
    let claims : c.match-work.self.claims ≡ claims_of c.claim-turned.new.held =
    elim c.match-work.branch [ in-Some w ↦ ap (λ (v : CoreValue). v.claims) w.self-is | in_default w ↦ ap (λ (v : CoreValue). v.claims) w.self-is ] in
    subst (λ (new : List (Actor × Claim)). GivesTurn actor c.args.self.now.claims new given) (sym claims)
    (subst (λ (v : CoreValue). GivesTurn actor v.claims (claims_of c.claim-turned.new.held) given) c.self.view_is turned)
