use Rattle.history_gate.proofs.Ends.{shut, shut_value}
use Rattle.history_gate.proofs.gate.Gate.close.Goals as goal

pub unreachable-requires : goal.unreachable-requires
unreachable-requires g c =
    let t = shut g.V.Stands.number g.V.Stands.list c.self.inside.table.shared.key c.pass.inside.seat.id c.pass.inside.seat.me.0 c.pass.invariant.0 c.pass.invariant.1 _ _ _ _ c.pass.view_is c.self.view_is c.requires.all _ _ c.close_with-closed.ensures.values.2 c.take-taken.result c.take-taken.ensures.value in
    c.in_default.not-Some t.0 t.1

pub returns-clause-seen : goal.returns-clause-seen
returns-clause-seen g c =
    (shut_value g.V.Stands.number g.V.Stands.list c.self.inside.table.shared.key c.pass.inside.seat.id c.pass.inside.seat.me.0 c.pass.invariant.0 c.pass.invariant.1 _ _ _ _ c.pass.view_is c.self.view_is c.requires.all _ _ c.close_with-closed.ensures.values.2 c.take-taken.result c.take-taken.ensures.value c.in-Some.value c.in-Some.is).0

pub returns-clause-own : goal.returns-clause-own
returns-clause-own g c =
    (shut_value g.V.Stands.number g.V.Stands.list c.self.inside.table.shared.key c.pass.inside.seat.id c.pass.inside.seat.me.0 c.pass.invariant.0 c.pass.invariant.1 _ _ _ _ c.pass.view_is c.self.view_is c.requires.all _ _ c.close_with-closed.ensures.values.2 c.take-taken.result c.take-taken.ensures.value c.in-Some.value c.in-Some.is).1

pub returns-clause-others : goal.returns-clause-others
returns-clause-others g c =
    (shut_value g.V.Stands.number g.V.Stands.list c.self.inside.table.shared.key c.pass.inside.seat.id c.pass.inside.seat.me.0 c.pass.invariant.0 c.pass.invariant.1 _ _ _ _ c.pass.view_is c.self.view_is c.requires.all _ _ c.close_with-closed.ensures.values.2 c.take-taken.result c.take-taken.ensures.value c.in-Some.value c.in-Some.is).2

pub returns-clause-below : goal.returns-clause-below
returns-clause-below g c =
    (shut_value g.V.Stands.number g.V.Stands.list c.self.inside.table.shared.key c.pass.inside.seat.id c.pass.inside.seat.me.0 c.pass.invariant.0 c.pass.invariant.1 _ _ _ _ c.pass.view_is c.self.view_is c.requires.all _ _ c.close_with-closed.ensures.values.2 c.take-taken.result c.take-taken.ensures.value c.in-Some.value c.in-Some.is).3
