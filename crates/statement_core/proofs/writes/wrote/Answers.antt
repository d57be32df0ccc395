use Rattle.std.proofs.Common.{◌≡◌, ◌<◌, ◌+◌, ◌^◌, ℕ, refl, sym, ap, subst, ◌∙◌, rules, true, false, None, Some, Result, Ok, Err}
use Rattle.std.specs.Prelude.{OnOk, OnErr, is_err}
use Rattle.cs_model.specs.declared.entry.Refusal.TheVariants.{Memory}
use Rattle.cs_model.specs.State.{State}
use Rattle.cs_model.specs.Steps.{refused}
use Rattle.txn_table.specs.Txns.{own_of, widened}
use Rattle.statement_core.specs.CoreState.{state_of}
use Rattle.write_set.specs.Writes.{write_keys}
use Rattle.statement_core.proofs.Ending.{ends_refused, ends_short}
use Rattle.statement_core.proofs.Stills.{same_then}
use Rattle.statement_core.proofs.Written.{Rising, keys_up, present_up, snap, has, judged_as, refused_reply, may_stage, staged_state, depth_explicit, depth_implicit, parcel_for, ends_explicit, ends_implicit}
use Rattle.statement_core.proofs.writes.wrote.Goals as goal

err_gives : {T E P : Type 0} (r : Result T E) → is_err r ≡ true → OnErr r P → P
err_gives (Ok x) e p = absurd (cc e)
err_gives (Err x) e p = p

ok_gives : {T E P : Type 0} (r : Result T E) → is_err r ≡ false → OnOk r P → P
ok_gives (Ok x) e p = p
ok_gives (Err x) e p = absurd (cc e)

pub obstacle-requires-clause-keys : goal.obstacle-requires-clause-keys
obstacle-requires-clause-keys c =
    let y = c.requires.may in
    let same : c.deref-2.result.now ≡ write_keys c.args.writes.items = c.deref-2.ensures.value ∙ c.in-Ok.ensures ∙ ap write_keys c.deref.ensures.value in
    subst Rising (sym same) (keys_up y.begin y.changes c.args.held.now c.args.session y.half c.args.writes.items c.args.present.items c.args.affected c.args.parcel y.is)

pub obstacle-requires-clause-present : goal.obstacle-requires-clause-present
obstacle-requires-clause-present c =
    let y = c.requires.may in
    subst Rising (sym c.deref-3.ensures.value) (present_up y.begin y.changes c.args.held.now c.args.session y.half c.args.writes.items c.args.present.items c.args.affected c.args.parcel y.is)

pub returns-in-Some : goal.returns-in-Some
returns-in-Some c = λ begin changes half w.
    let held = c.args.held.now in
    let s = c.args.session in
    let list = c.args.writes.items in
    let present = c.args.present.items in
    let n = c.args.affected in
    let p = c.args.parcel in
    let same : c.deref-2.result.now ≡ write_keys list = c.deref-2.ensures.value ∙ c.in-Ok.ensures ∙ ap write_keys c.deref.ensures.value in
    let judged = judged_as begin changes held s half list present n p w c.deref-2.result.now c.deref-3.result.now c.obstacle.result (Some c.in-Some.refusal) same c.deref-3.ensures.value c.in-Some.is
    (c.obstacle.ensures (state_of changes held) w.begun.snapshot w.stands refl (snap begin changes held s half list present n p w)) in
    let still = c.refuse-in-Some.ensures.still in
    ends_refused begin.schema changes held c.refuse-in-Some.new.held s half c.refuse-in-Some.result c.in-Some.refusal (still.stands changes w.stands) still.same w.found c.refuse-in-Some.ensures.reply
    (refused_reply begin changes held s half list present n p w c.in-Some.refusal judged) (c.refuse-in-Some.ensures.state changes)

pub returns-then-is_err : goal.returns-then-is_err
returns-then-is_err c = λ begin changes half w.
    let held = c.args.held.now in
    let s = c.args.session in
    let list = c.args.writes.items in
    let present = c.args.present.items in
    let n = c.args.affected in
    let p = c.args.parcel in
    let same : c.deref-2.result.now ≡ write_keys list = c.deref-2.ensures.value ∙ c.in-Ok.ensures ∙ ap write_keys c.deref.ensures.value in
    let none : c.obstacle.result ≡ None = search rules in
    let clear = judged_as begin changes held s half list present n p w c.deref-2.result.now c.deref-3.result.now c.obstacle.result None same c.deref-3.ensures.value none
    (c.obstacle.ensures (state_of changes held) w.begun.snapshot w.stands refl (snap begin changes held s half list present n p w)) in
    let j = c.stage.ensures.stands changes w.begun.snapshot w.stands (may_stage begin changes held s half list present n p w clear) in
    let failed : is_err c.stage.result ≡ true = search rules in
    let still = c.refuse-then-is_err.ensures.still in
    ends_short begin.schema changes held c.refuse-then-is_err.new.held s half c.refuse-then-is_err.result (still.stands changes j) (same_then held c.stage.new.held c.refuse-then-is_err.new.held c.stage.ensures.same still.same)
    c.refuse-then-is_err.ensures.reply (c.refuse-then-is_err.ensures.state changes ∙ ap (λ (x : State). refused x s Memory) (err_gives c.stage.result failed c.stage.ensures.err changes))

pub commit_with-requires-clause-within : goal.commit_with-requires-clause-within
commit_with-requires-clause-within c =
    let same = c.stage.ensures.same in
    record {
      seat = c.requires.within.seat;
      clock = subst (λ (n : ℕ). n + 1 < 2 ^ 64) (sym same.clock) c.requires.within.clock;
      next = subst (λ (n : ℕ). n + 1 < 2 ^ 64) (sym c.stage.ensures.next) c.requires.within.next;
    }

pub commit_with-requires-clause-stands : goal.commit_with-requires-clause-stands
commit_with-requires-clause-stands c =
    let y = c.requires.may in
    let w = y.is in
    let held = c.args.held.now in
    let s = c.args.session in
    let list = c.args.writes.items in
    let present = c.args.present.items in
    let n = c.args.affected in
    let p = c.args.parcel in
    let same : c.deref-2.result.now ≡ write_keys list = c.deref-2.ensures.value ∙ c.in-Ok.ensures ∙ ap write_keys c.deref.ensures.value in
    let none : c.obstacle.result ≡ None = search rules in
    let clear = judged_as y.begin y.changes held s y.half list present n p w c.deref-2.result.now c.deref-3.result.now c.obstacle.result None same c.deref-3.ensures.value none
    (c.obstacle.ensures (state_of y.changes held) w.begun.snapshot w.stands refl (snap y.begin y.changes held s y.half list present n p w)) in
    (y.changes, c.stage.ensures.stands y.changes w.begun.snapshot w.stands (may_stage y.begin y.changes held s y.half list present n p w clear))

pub commit_with-requires-clause-parcel : goal.commit_with-requires-clause-parcel
commit_with-requires-clause-parcel c =
    let y = c.requires.may in
    let w = y.is in
    let held = c.args.held.now in
    let s = c.args.session in
    let list = c.args.writes.items in
    let present = c.args.present.items in
    let n = c.args.affected in
    let p = c.args.parcel in
    let same : c.deref-2.result.now ≡ write_keys list = c.deref-2.ensures.value ∙ c.in-Ok.ensures ∙ ap write_keys c.deref.ensures.value in
    let none : c.obstacle.result ≡ None = search rules in
    let clear = judged_as y.begin y.changes held s y.half list present n p w c.deref-2.result.now c.deref-3.result.now c.obstacle.result None same c.deref-3.ensures.value none
    (c.obstacle.ensures (state_of y.changes held) w.begun.snapshot w.stands refl (snap y.begin y.changes held s y.half list present n p w)) in
    let done : is_err c.stage.result ≡ false = search rules in
    let own = ap own_of (ok_gives c.stage.result done c.stage.ensures.own) ∙ ap (λ o. own_of (widened list o)) (has y.begin y.changes held s y.half list present n p w) in
    parcel_for y.begin y.changes held s y.half list present n p w clear c.in-Some-parcel.parcel c.in-Some-parcel.is c.stage.new.held c.stage.ensures.same own

pub returns-in-Some-parcel : goal.returns-in-Some-parcel
returns-in-Some-parcel c = λ begin changes half w.
    let held = c.args.held.now in
    let s = c.args.session in
    let list = c.args.writes.items in
    let present = c.args.present.items in
    let n = c.args.affected in
    let p = c.args.parcel in
    let same : c.deref-2.result.now ≡ write_keys list = c.deref-2.ensures.value ∙ c.in-Ok.ensures ∙ ap write_keys c.deref.ensures.value in
    let none : c.obstacle.result ≡ None = search rules in
    let clear = judged_as begin changes held s half list present n p w c.deref-2.result.now c.deref-3.result.now c.obstacle.result None same c.deref-3.ensures.value none
    (c.obstacle.ensures (state_of changes held) w.begun.snapshot w.stands refl (snap begin changes held s half list present n p w)) in
    let j = c.stage.ensures.stands changes w.begun.snapshot w.stands (may_stage begin changes held s half list present n p w clear) in
    let done : is_err c.stage.result ≡ false = search rules in
    let own = ap own_of (ok_gives c.stage.result done c.stage.ensures.own) ∙ ap (λ o. own_of (widened list o)) (has begin changes held s half list present n p w) in
    let state = staged_state begin changes held s half list present n p w clear (state_of changes c.stage.new.held) (ok_gives c.stage.result done c.stage.ensures.ok changes) in
    ends_implicit begin changes held s half list present n p w clear c.stage.new.held c.commit_with.new.held c.commit_with.result c.stage.ensures.same j state own
    (depth_implicit begin changes held s half list present n p w clear c.in-Some-parcel.parcel c.in-Some-parcel.is) (c.commit_with.ensures changes j)

pub returns : goal.returns
returns c = λ begin changes half w.
    let held = c.args.held.now in
    let s = c.args.session in
    let list = c.args.writes.items in
    let present = c.args.present.items in
    let n = c.args.affected in
    let p = c.args.parcel in
    let same : c.deref-2.result.now ≡ write_keys list = c.deref-2.ensures.value ∙ c.in-Ok.ensures ∙ ap write_keys c.deref.ensures.value in
    let none : c.obstacle.result ≡ None = search rules in
    let clear = judged_as begin changes held s half list present n p w c.deref-2.result.now c.deref-3.result.now c.obstacle.result None same c.deref-3.ensures.value none
    (c.obstacle.ensures (state_of changes held) w.begun.snapshot w.stands refl (snap begin changes held s half list present n p w)) in
    let j = c.stage.ensures.stands changes w.begun.snapshot w.stands (may_stage begin changes held s half list present n p w clear) in
    let done : is_err c.stage.result ≡ false = search rules in
    let state = staged_state begin changes held s half list present n p w clear (state_of changes c.stage.new.held) (ok_gives c.stage.result done c.stage.ensures.ok changes) in
    ends_explicit begin changes held s half list present n p w clear c.stage.new.held _ c.stage.ensures.same j state refl (depth_explicit begin changes held s half list present n p w clear c.in-None.is)
