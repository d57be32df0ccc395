-- Begins of their own, one position after another.
use Rattle.std.proofs.Common.{◌≡◌, ◌≢◌, ℕ, suc, ◌<◌, inl, inr, List, [], ◌∷◌, ◌++◌, length, map, get_or, slice_index, refl, sym, ◌∙◌, ap, subst, arith, cond, eqb, eq-eqb, Some, None}
use Rattle.std.specs.List.{All}
use Rattle.std.specs.Option.{unwrap_or}
use Rattle.std.proofs.lemmas.Bool.{cases_lt, ne_eqb}
use Rattle.std.proofs.lemmas.List.{length_push, get_or_append_left, get_or_push, get_or_default, get_or-map, length-map}
use Rattle.std.proofs.lemmas.List.Elements.{All-push}
use Rattle.std.proofs.lemmas.List.Quantifiers.{all_pairs_push}
use Rattle.row_group.specs.Fields.{stamp_in, begin_in, AreStamps}
use Rattle.column_segment.specs.Ranks.{ArePicked}
use Rattle.row_group.proofs.ShownLemmas.{stamp-none}

stamp-other : (late : List (ℕ × ℕ)) (entry : ℕ × ℕ) (position : ℕ) → entry.0 ≢ position → stamp_in (late ++ entry ∷ []) position ≡ stamp_in late position
stamp-other [] entry position other = ap (λ b. cond b (Some entry.1) None) (ne_eqb entry.0 position other)
stamp-other (first ∷ late) entry position other = ap (cond (eqb first.0 position) (Some first.1)) (stamp-other late entry position other)

stamp-own : (late : List (ℕ × ℕ)) (entry : ℕ × ℕ) → ((k : ℕ) (d : ℕ × ℕ) → k < length late → (get_or late k d).0 ≢ entry.0) → stamp_in (late ++ entry ∷ []) entry.0 ≡ Some entry.1
stamp-own [] entry before = ap (λ b. cond b (Some entry.1) None) (eq-eqb entry.0 entry.0 refl)
stamp-own (first ∷ late) entry before =
    ap (λ b. cond b (Some first.1) (stamp_in (late ++ entry ∷ []) entry.0)) (ne_eqb first.0 entry.0 (before 0 first (omega arith)))
    ∙ stamp-own late entry (λ k d l. before (suc k) d (omega arith))

wider : (begins : List ℕ) (floor begin : ℕ) (late : List (ℕ × ℕ)) → All (λ entry. (entry.0 < length begins) × (entry.1 ≢ floor)) late → All (λ entry. (entry.0 < length (begins ++ begin ∷ [])) × (entry.1 ≢ floor)) late
wider begins floor begin late own k d l = let (m, o) = own k d l in (omega (arith, m, length_push begins begin), o)

-- a begin that is not the floor stands in the list
pub stamps-push : (begins : List ℕ) (floor begin : ℕ) (late : List (ℕ × ℕ)) → AreStamps begins floor late → begin ≢ floor → AreStamps (begins ++ begin ∷ []) floor (late ++ (length begins, begin) ∷ [])
stamps-push begins floor begin late are other = record {
  rising = all_pairs_push (λ x y. x.0 < y.0) late (length begins, begin) are.rising (λ k d l. (are.own k d l).0);
  own = All-push (λ (entry : ℕ × ℕ). (entry.0 < length (begins ++ begin ∷ [])) × (entry.1 ≢ floor)) late (length begins, begin) (wider begins floor begin late are.own) (omega (arith, length_push begins begin), other);
  shown = λ position l. elim (cases_lt position (length begins)) [
    | inl before ↦
        ap (λ o. unwrap_or o floor) (stamp-other late (length begins, begin) position (λ same. absurd (omega (arith, before, same))))
        ∙ are.shown position before ∙ sym (get_or_append_left begins (begin ∷ []) 0 position before)
    | inr n ↦
        let at : length begins ≡ position = omega (arith, n, l, length_push begins begin) in
        subst (λ p. begin_in (late ++ (length begins, begin) ∷ []) floor p ≡ get_or (begins ++ begin ∷ []) p 0) at
        (ap (λ o. unwrap_or o floor) (stamp-own late (length begins, begin) (λ k d m same. let h = (are.own k d m).0 in absurd (omega (arith, h, same))))
        ∙ sym (get_or_push begins begin 0 (length begins) refl))
  ];
}

-- the floor itself does not
pub stamps-skip : (begins : List ℕ) (floor begin : ℕ) (late : List (ℕ × ℕ)) → AreStamps begins floor late → begin ≡ floor → AreStamps (begins ++ begin ∷ []) floor late
stamps-skip begins floor begin late are same = record {
  rising = are.rising;
  own = wider begins floor begin late are.own;
  shown = λ position l. elim (cases_lt position (length begins)) [
    | inl before ↦ are.shown position before ∙ sym (get_or_append_left begins (begin ∷ []) 0 position before)
    | inr n ↦
        let at : length begins ≡ position = omega (arith, n, l, length_push begins begin) in
        subst (λ p. begin_in late floor p ≡ get_or (begins ++ begin ∷ []) p 0) at
        (ap (λ o. unwrap_or o floor) (stamp-none late (length begins) (λ k d m equal. let h = (are.own k d m).0 in absurd (omega (arith, h, equal))))
        ∙ sym same ∙ sym (get_or_push begins begin 0 (length begins) refl))
  ];
}

-- begins at the places of an order
pub picked-map : (begins order : List ℕ) → All (λ place. place < length begins) order → ArePicked begins order (map (slice_index begins) order)
picked-map begins order within = (
  length-map order (slice_index begins),
  λ i d l. get_or-map (slice_index begins) order i 0 d l ∙ get_or_default begins (get_or order i 0) 0 d (within i 0 l),
)

-- where each begin is the floor, none stands in the list
pub stamps-none : (begins order : List ℕ) (floor : ℕ) → All (λ begin. begin ≡ floor) begins → All (λ place. place < length begins) order → AreStamps (map (slice_index begins) order) floor []
stamps-none begins order floor same within = record {
  rising = λ i j d l m. absurd (omega (arith, m));
  own = λ i d l. absurd (omega (arith, l));
  shown = λ position l.
      let there : position < length order = omega (arith, l, length-map order (slice_index begins)) in
      let place = get_or order position 0 in
      sym (get_or-map (slice_index begins) order position 0 0 there ∙ same place 0 (within position 0 there));
}
