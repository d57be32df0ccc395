use Rattle.std.proofs.Common.{◌≤◌, length, sym, ◌∙◌, arith}
use Rattle.batch_aggregate.proofs.Joining.{none_joined, joined-more, joined-past, joined-all}
use Rattle.batch_aggregate.proofs.tally.join_all.Goals as goal
use Rattle.batch_aggregate.proofs.tally.join_all.Goals.{then-place-tallies+in_ok-join, else-place-tallies}

pub loop-place-preserved : goal.loop-place-preserved
loop-place-preserved c = elim c.if-place-tallies.branch [
  | then-place-tallies+in_ok-join w ↦
      w.tallies-is
      ∙ joined-more c.loop-place.place c.args.tallies.now c.args.others.now c.loop-place.tallies w.index-tallies-place.result w.index-others-place.result w.join.new.self
      w.if-place-tallies.true c.loop-place-test.true c.loop-place.invariant (sym w.index-others-place.is) w.in_ok-join.ensures
  | else-place-tallies w ↦
      w.tallies-is ∙ joined-past c.loop-place.place c.args.tallies.now c.args.others.now c.loop-place.tallies w.if-place-tallies.false c.loop-place.invariant
]

pub returns : goal.returns
returns c =
    let all : length c.args.others.now ≤ c.loop-place.place = omega (arith, c.loop-place-test.false) in
    c.loop-place.invariant ∙ joined-all c.loop-place.place c.args.tallies.now c.args.others.now all

pub loop-place-init : goal.loop-place-init
loop-place-init c = sym (none_joined c.args.tallies.now)
