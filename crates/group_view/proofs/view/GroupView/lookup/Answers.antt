use Rattle.std.proofs.Common.{◌-◌, arith}
use Rattle.group_view.proofs.Finds.{Shows-in, hides_more, hides_past}
use Rattle.group_view.proofs.view.GroupView.lookup.Goals as goal

pub loop-group-init : goal.loop-group-init
loop-group-init c = (omega (arith, c.len-group.ensures), λ place past shown. hides_past c.args.self.now c.args.key c.args.s place (omega (arith, past, c.len-group.ensures)) shown)

pub returns-in-Some-clause-found : goal.returns-in-Some-clause-found
returns-in-Some-clause-found c =
    Shows-in c.args.self.now c.args.key c.args.s (c.loop-group.group - 1) c.in-Some.position c.at.result.now c.at.ensures.value (rw c.deref.ensures at c.in-Some.ensures.found)

pub loop-group-preserved : goal.loop-group-preserved
loop-group-preserved c =
    let some = c.loop-group-test.true in
    let most = c.loop-group.invariant.0 in
    (omega (arith, some, most), hides_more c.args.self.now c.args.key c.args.s (c.loop-group.group - 1) c.at.result.now c.at.ensures.value (λ place above shown. c.loop-group.invariant.1 place (omega (arith, some, above)) shown) (rw (c.in_default.is, c.deref.ensures) at c.find.ensures.none))

pub returns-clause-none : goal.returns-clause-none
returns-clause-none c = λ place shown. c.loop-group.invariant.1 place (let none = c.loop-group-test.false in omega (arith, none)) shown
