use Rattle.std.proofs.Common.{◌<◌, ◌++◌, ◌∷◌, [], ℕ, List, length, map, take, get_or, slice_index, sym, ◌∙◌, subst, arith}
use Rattle.std.proofs.lemmas.List.{map_more, length-map, length-take-le}
use Rattle.row_group.specs.Fields.{AreStamps}
use Rattle.row_group.proofs.StampLemmas.{stamps-push, stamps-skip}
use Rattle.row_group.proofs.pack.stamps_of.Goals as goal
use Rattle.row_group.proofs.pack.stamps_of.Goals.{then-begin-floor+in_ok-push, else-begin-floor}

pub loop-position-preserved : goal.loop-position-preserved
loop-position-preserved c =
    let k = c.loop-position.position in
    let order = c.args.order.now in
    let begins = c.args.begins.now in
    let before = map (slice_index begins) (take k order) in
    let begin = get_or begins (get_or order k 0) 0 in
    let there : k < length order = omega arith in
    let long = length-map (take k order) (slice_index begins) ∙ length-take-le k order (omega arith) in
    subst (λ (all : List ℕ). AreStamps all c.args.floor c.if-begin-floor.late) (sym (map_more (slice_index begins) order k 0 there))
    (elim c.if-begin-floor.branch [
      | then-begin-floor+in_ok-push w ↦
          let more = stamps-push before c.args.floor begin c.loop-position.late c.loop-position.invariant w.if-begin-floor.true in
          let Stamped : List (ℕ × ℕ) → Type 0 = AreStamps (before ++ begin ∷ []) c.args.floor in
          subst Stamped (sym (w.late-is ∙ w.in_ok-push.ensures.ok)) (subst (λ p. Stamped (c.loop-position.late ++ (p, begin) ∷ [])) long more)
      | else-begin-floor w ↦
          subst (AreStamps (before ++ begin ∷ []) c.args.floor) (sym w.late-is)
          (stamps-skip before c.args.floor begin c.loop-position.late c.loop-position.invariant w.if-begin-floor.false)
    ])
