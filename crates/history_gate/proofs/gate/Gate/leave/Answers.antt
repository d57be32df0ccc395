use Rattle.std.proofs.Common.{ap, ◌∙◌}
use Rattle.history_gate.specs.Views.{recounted}
use Rattle.history_gate.proofs.Entries.{recounted_same, recounted_more, recounted_so}
use Rattle.history_gate.proofs.gate.Gate.leave.Goals as goal

pub returns-clause-none : goal.returns-clause-none
returns-clause-none g c = rw (← c.held.view_is, c.serve-served.ensures.after)
    (λ same. let own = c.held.inside.seat.me.0.own in ap (λ l. recounted g.V.Stands.number l own) same ∙ recounted_same g.V.Stands.number _ own c.held.invariant.3)

pub returns-clause-one : goal.returns-clause-one
returns-clause-one g c = rw (← c.held.view_is, c.serve-served.ensures.after)
    (λ e more. let own = c.held.inside.seat.me.0.own in ap (λ l. recounted g.V.Stands.number l own) more ∙ recounted_more g.V.Stands.number _ e own c.held.invariant.3)

pub returns-clause-told : goal.returns-clause-told
returns-clause-told g c = rw (c.serve-served.ensures.after) (recounted_so g.V.Stands.number _ c.held.inside.seat.me.0.own)
