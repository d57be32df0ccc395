use Rattle.std.proofs.Common.{◌∙◌, ap, subst, IfOk}
use Rattle.session_pool.specs.Sections.{AddsTurn}
use Rattle.session_pool.proofs.Passes.{lends, lends_none, next_has, next_kept, next_holds, last_kept, last_free}
use Rattle.session_pool.proofs.mover.last_turns.Goals as goal

pub returns-in-Short-clause-numbers : goal.returns-in-Short-clause-numbers
returns-in-Short-clause-numbers g c =
    let first = c.args.pass.own in
    let now = c.loop.pass.own in
    let next = c.claim-next.result.0.own in
    let kept = c.loop.invariant in
    let adds = subst (λ r. IfOk r (λ turned. AddsTurn 1 turned now next)) c.in-Ok.is c.claim-next.ensures.own in
    (next_kept 1 first now next c.requires.number kept.2 kept.3 c.in-Ok.turned adds).numbers

pub returns-in-Short-clause-others : goal.returns-in-Short-clause-others
returns-in-Short-clause-others g c =
    let first = c.args.pass.own in
    let now = c.loop.pass.own in
    let next = c.claim-next.result.0.own in
    let kept = c.loop.invariant in
    let adds = subst (λ r. IfOk r (λ turned. AddsTurn 1 turned now next)) c.in-Ok.is c.claim-next.ensures.own in
    (next_kept 1 first now next c.requires.number kept.2 kept.3 c.in-Ok.turned adds).others

pub returns-in-Short-clause-free : goal.returns-in-Short-clause-free
returns-in-Short-clause-free g c =
    let first = c.args.pass.own in
    let now = c.loop.pass.own in
    let next = c.claim-next.result.0.own in
    let kept = c.loop.invariant in
    let adds = subst (λ r. IfOk r (λ turned. AddsTurn 1 turned now next)) c.in-Ok.is c.claim-next.ensures.own in
    next_holds 1 first now next c.requires.number kept.2 kept.3 c.in-Ok.turned adds ∙ lends_none c.in-Ok.turned c.in-Short.is

pub loop-preserved-in-Alone : goal.loop-preserved-in-Alone
loop-preserved-in-Alone g c =
    let first = c.args.pass.own in
    let now = c.loop.pass.own in
    let next = c.claim-next.result.0.own in
    let kept = c.loop.invariant in
    let adds = subst (λ r. IfOk r (λ turned. AddsTurn 1 turned now next)) c.in-Ok.is c.claim-next.ensures.own in
    (c.claim-next.ensures.pass.0 ∙ kept.0, c.claim-next.ensures.pass.1 ∙ kept.1, next_kept 1 first now next c.requires.number kept.2 kept.3 c.in-Ok.turned adds, next_holds 1 first now next c.requires.number kept.2 kept.3 c.in-Ok.turned adds ∙ ap lends c.in-Alone.is)

pub end_turn-next-requires-clause-number : goal.end_turn-next-requires-clause-number
end_turn-next-requires-clause-number g c κs within =
    let first = c.args.pass.own in
    let now = c.loop.pass.own in
    let next = c.claim-next.result.0.own in
    let kept = c.loop.invariant in
    let adds = subst (λ r. IfOk r (λ turned. AddsTurn 1 turned now next)) c.in-Ok.is c.claim-next.ensures.own in
    next_has 1 first now next c.requires.number kept.2 kept.3 c.in-Ok.turned adds

pub end_turn-next-requires-clause-held : goal.end_turn-next-requires-clause-held
end_turn-next-requires-clause-held g c κs within =
    let first = c.args.pass.own in
    let now = c.loop.pass.own in
    let next = c.claim-next.result.0.own in
    let kept = c.loop.invariant in
    let adds = subst (λ r. IfOk r (λ turned. AddsTurn 1 turned now next)) c.in-Ok.is c.claim-next.ensures.own in
    next_holds 1 first now next c.requires.number kept.2 kept.3 c.in-Ok.turned adds ∙ ap lends c.in-Lent.is

pub returns-then-not-installed-clause-numbers : goal.returns-then-not-installed-clause-numbers
returns-then-not-installed-clause-numbers g c =
    let first = c.args.pass.own in
    let now = c.loop.pass.own in
    let next = c.claim-next.result.0.own in
    let kept = c.loop.invariant in
    let adds = subst (λ r. IfOk r (λ turned. AddsTurn 1 turned now next)) c.in-Ok.is c.claim-next.ensures.own in
    (last_kept 1 first now next c.requires.number kept.2 kept.3 c.in-Ok.turned adds c.end_turn-next.result.0.own c.end_turn-next.ensures.own).numbers

pub returns-then-not-installed-clause-others : goal.returns-then-not-installed-clause-others
returns-then-not-installed-clause-others g c =
    let first = c.args.pass.own in
    let now = c.loop.pass.own in
    let next = c.claim-next.result.0.own in
    let kept = c.loop.invariant in
    let adds = subst (λ r. IfOk r (λ turned. AddsTurn 1 turned now next)) c.in-Ok.is c.claim-next.ensures.own in
    (last_kept 1 first now next c.requires.number kept.2 kept.3 c.in-Ok.turned adds c.end_turn-next.result.0.own c.end_turn-next.ensures.own).others

pub returns-then-not-installed-clause-free : goal.returns-then-not-installed-clause-free
returns-then-not-installed-clause-free g c =
    let first = c.args.pass.own in
    let now = c.loop.pass.own in
    let next = c.claim-next.result.0.own in
    let kept = c.loop.invariant in
    let adds = subst (λ r. IfOk r (λ turned. AddsTurn 1 turned now next)) c.in-Ok.is c.claim-next.ensures.own in
    last_free 1 first now next c.requires.number kept.2 kept.3 c.in-Ok.turned adds c.end_turn-next.result.0.own c.end_turn-next.ensures.own

pub loop-preserved : goal.loop-preserved
loop-preserved g c =
    let first = c.args.pass.own in
    let now = c.loop.pass.own in
    let next = c.claim-next.result.0.own in
    let kept = c.loop.invariant in
    let adds = subst (λ r. IfOk r (λ turned. AddsTurn 1 turned now next)) c.in-Ok.is c.claim-next.ensures.own in
    (c.end_turn-next.ensures.pass.0 ∙ (c.claim-next.ensures.pass.0 ∙ kept.0), c.end_turn-next.ensures.pass.1 ∙ (c.claim-next.ensures.pass.1 ∙ kept.1), last_kept 1 first now next c.requires.number kept.2 kept.3 c.in-Ok.turned adds c.end_turn-next.result.0.own c.end_turn-next.ensures.own, last_free 1 first now next c.requires.number kept.2 kept.3 c.in-Ok.turned adds c.end_turn-next.result.0.own c.end_turn-next.ensures.own)
