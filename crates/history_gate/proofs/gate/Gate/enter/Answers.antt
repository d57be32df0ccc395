use Rattle.std.proofs.Common.{rules, ◌≡◌, ◌<◌, ℕ, length, List, ◌∷◌, Option, Some, None, sym, ap, ◌∙◌, subst}
use Rattle.atomic_table.specs.Table.{rest}
use Rattle.history_gate.specs.declared.rule.View.{View}
use Rattle.history_gate.specs.Views.{with_turn, with_ticket}
use Rattle.history_gate.specs.Histories.{Tells}
use Rattle.history_gate.specs.Passes.{found_at}
use Rattle.history_gate.proofs.gate.Gate.enter.Goals as goal

pub exchange-taken-requires : goal.exchange-taken-requires
exchange-taken-requires g c =
    let called = c.wait.ensures.turn in
    let S : Type 0 = List (ℕ × Option g.row.V.Denot) in
    let front : S → S = λ l. (0, Some called.0) ∷ l in
    let e : c.wait.new.seat.me.1 ≡ front c.draw-ticket.new.seat.me.1 = called.3 in
    (search rules, (Some called.0, e ∙ ap front (sym (ap rest e))))

pub invariant_of-result : goal.invariant_of-result
invariant_of-result g c =
    let called = c.wait.ensures.turn in
    let list = g.V.Stands.list in
    let S : Type 0 = List (ℕ × Option g.row.V.Denot) in
    let V : Type 0 = View g.row.V-Entry.Denot in
    let front : S → S = λ l. (0, Some called.0) ∷ l in
    let empty : S → S = λ l. (0, None) ∷ rest l in
    let e : c.wait.new.seat.me.1 ≡ front c.draw-ticket.new.seat.me.1 = called.3 in
    let drawn = c.draw-ticket.ensures.drawn in
    let out = c.exchange-taken.ensures.3 in
    let same : c.exchange-taken.new.seat.me.0 ≡ c.wait.new.seat.me.0 = ap (λ m. m.0) out in
    let whole : c.exchange-taken.new.seat.me.0 ≡ with_turn (with_ticket c.pass.inside.seat.me.0 drawn.0) (list called.0) = same ∙ (called.2 ∙ ap (λ (v : V). with_turn v (list called.0)) drawn.2) in
    let turn : c.exchange-taken.new.seat.me.0.turn ≡ Some (list called.0) = ap (λ (v : V). v.turn) whole in (
      (drawn.0, list called.0, ap (λ (v : V). v.ticket) whole, turn),
      ap (λ m. m.1) out ∙ (ap empty e ∙ ap (λ (l : S). (0, None) ∷ l) (drawn.3 ∙ c.pass.invariant.2)),
      subst (λ (v : V). 0 < length v.own) (sym whole) c.pass.invariant.3,
      subst (λ (z : List (ℕ × List g.row.V-Entry.Denot) × Option (List g.row.V-Entry.Denot)). Tells g.V.Stands.number z.0 (found_at z.1)) (λ i. ((sym same i).own, sym turn i)) called.4.own,
    )
