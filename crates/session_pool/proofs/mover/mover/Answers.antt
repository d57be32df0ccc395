use Rattle.std.proofs.Common.{◌∙◌, ◌+◌, ap, subst, refl, inl, inr}
use Rattle.std.specs.Prelude.{Some}
use Rattle.session_pool.specs.Sections.{LooksAt}
use Rattle.session_pool.proofs.Passes.{has_number, keeps_same, lends, lends_none, next_has, next_kept, next_holds, last_kept, last_free}
use Rattle.session_pool.proofs.mover.mover.Goals as goal

pub end_turn-next-requires-clause-number : goal.end_turn-next-requires-clause-number
end_turn-next-requires-clause-number g c κs within =
    let now = c.loop.pass.own in
    let next = c.look-next.result.0.own in
    let kept = c.loop.invariant in
    let has = has_number now (64 + c.args.mover) kept.2 in
    let same = keeps_same (64 + c.args.mover) now now refl in
    let adds = subst (λ looked. LooksAt c.args.mover looked now next) (c.in-Some-Ok.is ∙ ap Some c.in-Some-Ok.field-0-is) c.look-next.ensures.own in
    next_has c.args.mover now now next has same kept.3 c.in-Some-Ok.turned adds

pub end_turn-next-requires-clause-held : goal.end_turn-next-requires-clause-held
end_turn-next-requires-clause-held g c κs within =
    let now = c.loop.pass.own in
    let next = c.look-next.result.0.own in
    let kept = c.loop.invariant in
    let has = has_number now (64 + c.args.mover) kept.2 in
    let same = keeps_same (64 + c.args.mover) now now refl in
    let adds = subst (λ looked. LooksAt c.args.mover looked now next) (c.in-Some-Ok.is ∙ ap Some c.in-Some-Ok.field-0-is) c.look-next.ensures.own in
    next_holds c.args.mover now now next has same kept.3 c.in-Some-Ok.turned adds ∙ ap lends c.in-Lent.is

pub loop-preserved-then-not-installed : goal.loop-preserved-then-not-installed
loop-preserved-then-not-installed g c =
    let now = c.loop.pass.own in
    let next = c.look-next.result.0.own in
    let kept = c.loop.invariant in
    let has = has_number now (64 + c.args.mover) kept.2 in
    let same = keeps_same (64 + c.args.mover) now now refl in
    let adds = subst (λ looked. LooksAt c.args.mover looked now next) (c.in-Some-Ok.is ∙ ap Some c.in-Some-Ok.field-0-is) c.look-next.ensures.own in
    (c.end_turn-next.ensures.pass.0 ∙ (c.look-next.ensures.pass.0 ∙ kept.0), c.end_turn-next.ensures.pass.1 ∙ (c.look-next.ensures.pass.1 ∙ kept.1), (last_kept c.args.mover now now next has same kept.3 c.in-Some-Ok.turned adds c.end_turn-next.result.0.own c.end_turn-next.ensures.own).numbers ∙ kept.2, last_free c.args.mover now now next has same kept.3 c.in-Some-Ok.turned adds c.end_turn-next.result.0.own c.end_turn-next.ensures.own)

pub loop-preserved-else-not-installed : goal.loop-preserved-else-not-installed
loop-preserved-else-not-installed g c =
    let now = c.loop.pass.own in
    let next = c.look-next.result.0.own in
    let kept = c.loop.invariant in
    let has = has_number now (64 + c.args.mover) kept.2 in
    let same = keeps_same (64 + c.args.mover) now now refl in
    let adds = subst (λ looked. LooksAt c.args.mover looked now next) (c.in-Some-Ok.is ∙ ap Some c.in-Some-Ok.field-0-is) c.look-next.ensures.own in
    (c.end_turn-next.ensures.pass.0 ∙ (c.look-next.ensures.pass.0 ∙ kept.0), c.end_turn-next.ensures.pass.1 ∙ (c.look-next.ensures.pass.1 ∙ kept.1), (last_kept c.args.mover now now next has same kept.3 c.in-Some-Ok.turned adds c.end_turn-next.result.0.own c.end_turn-next.ensures.own).numbers ∙ kept.2, last_free c.args.mover now now next has same kept.3 c.in-Some-Ok.turned adds c.end_turn-next.result.0.own c.end_turn-next.ensures.own)

pub loop-preserved-in-Alone-1 : goal.loop-preserved-in-Alone-1
loop-preserved-in-Alone-1 g c =
    let now = c.loop.pass.own in
    let next = c.look-next.result.0.own in
    let kept = c.loop.invariant in
    let has = has_number now (64 + c.args.mover) kept.2 in
    let same = keeps_same (64 + c.args.mover) now now refl in
    let adds = subst (λ looked. LooksAt c.args.mover looked now next) (c.in-Some-Ok.is ∙ ap Some c.in-Some-Ok.field-0-is) c.look-next.ensures.own in
    (c.look-next.ensures.pass.0 ∙ kept.0, c.look-next.ensures.pass.1 ∙ kept.1, (next_kept c.args.mover now now next has same kept.3 c.in-Some-Ok.turned adds).numbers ∙ kept.2, next_holds c.args.mover now now next has same kept.3 c.in-Some-Ok.turned adds ∙ ap lends c.in-Alone.is)

pub loop-preserved-in-Short-1 : goal.loop-preserved-in-Short-1
loop-preserved-in-Short-1 g c =
    let now = c.loop.pass.own in
    let next = c.look-next.result.0.own in
    let kept = c.loop.invariant in
    let has = has_number now (64 + c.args.mover) kept.2 in
    let same = keeps_same (64 + c.args.mover) now now refl in
    let adds = subst (λ looked. LooksAt c.args.mover looked now next) (c.in-Some-Ok.is ∙ ap Some c.in-Some-Ok.field-0-is) c.look-next.ensures.own in
    (c.look-next.ensures.pass.0 ∙ kept.0, c.look-next.ensures.pass.1 ∙ kept.1, (next_kept c.args.mover now now next has same kept.3 c.in-Some-Ok.turned adds).numbers ∙ kept.2, next_holds c.args.mover now now next has same kept.3 c.in-Some-Ok.turned adds ∙ lends_none c.in-Some-Ok.turned (inl c.in-Short.is))

pub loop-preserved : goal.loop-preserved
loop-preserved g c =
    let now = c.loop.pass.own in
    let next = c.look-next.result.0.own in
    let kept = c.loop.invariant in
    let has = has_number now (64 + c.args.mover) kept.2 in
    let same = keeps_same (64 + c.args.mover) now now refl in
    let adds = subst (λ looked. LooksAt c.args.mover looked now next) (c.in-Some-Ok.is ∙ ap Some c.in-Some-Ok.field-0-is) c.look-next.ensures.own in
    (c.look-next.ensures.pass.0 ∙ kept.0, c.look-next.ensures.pass.1 ∙ kept.1, (next_kept c.args.mover now now next has same kept.3 c.in-Some-Ok.turned adds).numbers ∙ kept.2, next_holds c.args.mover now now next has same kept.3 c.in-Some-Ok.turned adds ∙ lends_none c.in-Some-Ok.turned (inr c.in-Idle.is))
