use Rattle.std.proofs.Common.{◌≡◌, List, Contains, ap, refl, sym, subst, arith}
use Rattle.std.specs.declared.alloc.Global.{Global}
use Rattle.std.specs.declared.sync.Arc.{Arc}
use Rattle.cs_types.specs.declared.Schema.{Schema}
use Rattle.cs_types.specs.Schemas.{IsSchema}
use Rattle.cs_model.specs.declared.work.Actor.{Actor}
use Rattle.group_view.specs.declared.claim.Claim.{Claim}
use Rattle.group_directory.specs.declared.directory.Directory.{Directory}
use Rattle.group_directory.specs.declared.movers.Claimed.TheVariants.{Lent}
use Rattle.group_directory.specs.Claimed.{IsSound}
use Rattle.statement_core.specs.Fit.{AreFitting}
use Rattle.statement_core.proofs.Turns.{lent_mendable, lent_first, settled_first, cleared_first, idle_first, short_first}
use Rattle.statement_core.proofs.movers.claim.Goals as goal

pub claim_work-work-requires : goal.claim_work-work-requires
claim_work-work-requires c =
    let j = c.requires.stands.1 in
    let taken = rw c.in-Ok-Lent.field-0-is at (c.in-Ok-Lent.ensures.taken j.floor j.is_floor) in
    let gives = taken.gives in
    rw gives.1 gives.0

pub returns-in-Ok-Lent-clause-first : goal.returns-in-Ok-Lent-clause-first
returns-in-Ok-Lent-clause-first c = λ floor is.
    let changes = c.requires.stands.0 in
    let j = c.requires.stands.1 in
    let taken = rw c.in-Ok-Lent.field-0-is at (c.in-Ok-Lent.ensures.taken floor is) in
    let sound = rw c.in-Ok-Lent.field-0-is at (c.in-Ok-Lent.ensures.sound changes j) in
    lent_first floor c.args.actor _ c.args.held.now.directory c.claim.new.self changes c.in-Ok-Lent.claim c.claim_work-work.result j taken sound c.claim_work-work.ensures

pub returns-in-Ok-Lent-clause-turned : goal.returns-in-Ok-Lent-clause-turned
returns-in-Ok-Lent-clause-turned c = λ changes j table fit.
    let old = c.args.held.now.directory in
    let d = c.claim.new.self in
    let taken = rw c.in-Ok-Lent.field-0-is at (c.in-Ok-Lent.ensures.taken j.floor j.is_floor) in
    let sound = rw c.in-Ok-Lent.field-0-is at (c.in-Ok-Lent.ensures.sound changes j) in
    let gives = taken.gives in
    let keeps = taken.claims in
    let there : Contains d.list.claims.items (c.args.actor, keeps.0) = subst (λ (claims : List (Actor × Claim)). Contains claims (c.args.actor, keeps.0)) (sym keeps.1) (0, omega arith, refl) in
    let same : d.schema ≡ old.schema = ap (λ (x : Directory). x.schema) c.claim.ensures.rest in (
      keeps.0,
      keeps.1,
      keeps.2,
      lent_mendable d changes c.args.actor keeps.0 c.in-Ok-Lent.claim (c.claim.ensures.stands changes j) there keeps.2 (subst (λ (s : Arc Schema Global). IsSchema s.value) (sym same) table)
          (subst (λ (s : Arc Schema Global). AreFitting s.value changes) (sym same) fit) (subst (λ (s : Arc Schema Global). IsSound s.value changes c.args.actor (Lent c.in-Ok-Lent.claim)) (sym same) sound) (rw gives.1 gives.0),
    )

pub returns-in-Ok-Settled-clause-first : goal.returns-in-Ok-Settled-clause-first
returns-in-Ok-Settled-clause-first c = λ floor is.
    settled_first floor c.args.actor _ c.args.held.now.directory c.claim.new.self c.in-Ok-Settled.ends (rw c.in-Ok-Settled.field-0-is at (c.in-Ok-Settled.ensures.taken floor is))

pub returns-in-Ok-Settled-clause-turned : goal.returns-in-Ok-Settled-clause-turned
returns-in-Ok-Settled-clause-turned c = λ changes j table fit. let taken = rw c.in-Ok-Settled.field-0-is at (c.in-Ok-Settled.ensures.taken j.floor j.is_floor) in taken.claims

pub returns-in-Ok-Cleared-clause-first : goal.returns-in-Ok-Cleared-clause-first
returns-in-Ok-Cleared-clause-first c = λ floor is.
    cleared_first floor c.args.actor _ c.args.held.now.directory c.claim.new.self c.in-Ok-Cleared.groups (rw c.in-Ok-Cleared.field-0-is at (c.in-Ok-Cleared.ensures.taken floor is))

pub returns-in-Ok-Cleared-clause-turned : goal.returns-in-Ok-Cleared-clause-turned
returns-in-Ok-Cleared-clause-turned c = λ changes j table fit. let taken = rw c.in-Ok-Cleared.field-0-is at (c.in-Ok-Cleared.ensures.taken j.floor j.is_floor) in taken.claims

pub returns-in-Ok-Nothing-clause-first : goal.returns-in-Ok-Nothing-clause-first
returns-in-Ok-Nothing-clause-first c = λ floor is. idle_first floor c.args.actor _ c.args.held.now.directory c.claim.new.self (rw c.in-Ok-Nothing.field-0-is at (c.in-Ok-Nothing.ensures.taken floor is))

pub returns-in-Ok-Nothing-clause-turned : goal.returns-in-Ok-Nothing-clause-turned
returns-in-Ok-Nothing-clause-turned c = λ changes j table fit. let taken = rw c.in-Ok-Nothing.field-0-is at (c.in-Ok-Nothing.ensures.taken j.floor j.is_floor) in taken.claims

pub returns-in-Err-clause-first : goal.returns-in-Err-clause-first
returns-in-Err-clause-first c = λ floor is. let same = c.in-Err.ensures.same in short_first floor c.args.actor _ c.args.held.now.directory c.claim.new.self (c.in-Err.ensures.busy floor is) same.book

pub returns-in-Err-clause-turned : goal.returns-in-Err-clause-turned
returns-in-Err-clause-turned c = λ changes j table fit. c.in-Err.ensures.claims
