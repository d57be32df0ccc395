use Rattle.std.proofs.Common.{rules, ◌≡◌, ℕ, List, [], ◌∷◌, Some, None, sym, ap, ◌∙◌, subst}
use Rattle.atomic_table.specs.Table.{Me, rest}
use Rattle.history_gate.specs.Histories.{Grows, own_numbers}
use Rattle.history_gate.specs.Views.{after_turn}
use Rattle.history_gate.proofs.Keeps.{serving}
use Rattle.history_gate.proofs.steps.serve.Goals as goal

-- the slot that the seat holds has x now, and what the seat knows is as before
is_laid : {S V : Type 0} (before after : Me S V) (x y : S) → after ≡ (before.0, (0, x) ∷ rest before.1) → before.1 ≡ (0, y) ∷ [] → (after.0 ≡ before.0) × (after.1 ≡ (0, x) ∷ [])
is_laid {S} before after x y e held = let laid : List (ℕ × S) → List (ℕ × S) = λ l. (0, x) ∷ rest l in (ap (λ m. m.0) e, ap (λ m. m.1) e ∙ ap laid held)

pub fetch_add-requires : goal.fetch_add-requires
fetch_add-requires g c =
    let t = c.requires.turn in
    let laid = is_laid c.args.seat.now.me c.exchange-empty.new.seat.me (Some c.args.value) None c.exchange-empty.ensures.3 c.requires.table.2 in (
      search rules,
      search rules,
      serving _ _ _ _ _ _ t.0 t.1 c.args.value (ap (λ v. v.ticket) laid.0 ∙ t.2) (ap (λ v. v.turn) laid.0 ∙ t.3) laid.1
          (subst (λ v. Grows g.V.Stands.number (own_numbers v.own) t.1 (g.V.Stands.list c.args.value)) (sym laid.0) t.4),
    )

pub returns-clause-after : goal.returns-clause-after
returns-clause-after g c =
    let t = c.requires.turn in
    let laid = is_laid c.args.seat.now.me c.exchange-empty.new.seat.me (Some c.args.value) None c.exchange-empty.ensures.3 c.requires.table.2 in
    let told = c.fetch_add.ensures.2 t.0 t.1 c.args.value (ap (λ v. v.ticket) laid.0 ∙ t.2) (ap (λ v. v.turn) laid.0 ∙ t.3) laid.1 in
    λ i. ((told.0 ∙ ap (λ v. after_turn g.V.Stands.number v (g.V.Stands.list c.args.value)) laid.0) i, told.1 i)
