-- Where the answer of a query without groups is the same for every order of the rows, rows that tie show the same.
use Rattle.std.proofs.Common.{◌≡◌, zero, suc, Bool, true, false, List, [], ◌∷◌, map, Contains, remove, sym, ap, ◌∙◌, inl, inr, true≢false, is_lt, le_of_suc-le-suc}
use Rattle.std.specs.Cmp.{IsStrictWeakOrder}
use Rattle.std.specs.Ordering.{ordering_reverse}
use Rattle.std.specs.List.Sorted.{IsPermutation}
use Rattle.std.proofs.lemmas.Bool.{cond-true, cond-false, cases_Bool}
use Rattle.std.proofs.lemmas.List.Sorted.{IsPermutation-trans, IsPermutation-cons, IsPermutation-remove, Contains-permutation}
use Rattle.cs_types.specs.declared.Schema.{Schema}
use Rattle.cs_types.specs.declared.Value.{Value}
use Rattle.cs_model.specs.declared.plan.Query.{Query}
use Rattle.cs_model.specs.Queries.{row_order, plain_answer}
use Rattle.cs_model.specs.Items.{row_item}
use Rattle.cs_model.specs.Order.{comes_before, put, in_order}
use Rattle.answer_laws.proofs.Orders.{before_by, row_total}
use Rattle.answer_laws.specs.Laws.{TiesShowOne}
use Rattle.answer_laws.proofs.Moves.{flipped}

at_front : {X : Type 0} (xs : List X) (x : X) → Contains xs x → (rest : List X) × IsPermutation xs (x ∷ rest)
at_front xs x (i, l, at) = (remove xs i, IsPermutation-remove xs i x l (sym at))

in_rest : {X : Type 0} (x y : X) (rest : List X) → Contains (x ∷ rest) y → (P : Type 0) → (x ≡ y → P) → (Contains rest y → P) → P
in_rest x y rest (zero, l, at) P here there = here at
in_rest x y rest (suc k, l, at) P here there = there (k, le_of_suc-le-suc l, at)

module _ {X Y : Type 0} (less : X → X → Bool) (o : IsStrictWeakOrder less) (f : X → Y) (x y : X) (no : less x y ≡ false) (nor : less y x ≡ false) where
  alike : (z : X) → less z x ≡ less z y
  alike z = elim (cases_Bool (less z y)) [
    | inl t ↦ elim (cases_Bool (less z x)) [
      | inl u ↦ u ∙ sym t
      | inr g ↦ absurd (true≢false (sym t ∙ o.chain z x y g no))
    ]
    | inr f ↦ o.chain z y x f nor ∙ sym f
  ]

  -- the two stand side by side
  shown_one : (zs : List X) → map f (put less x (put less y zs)) ≡ map f (put less y (put less x zs)) → f x ≡ f y
  shown_one [] h =
      let same : f x ∷ f y ∷ [] ≡ f y ∷ f x ∷ [] = sym (ap (map f) (cond-false _ _ _ nor)) ∙ h ∙ ap (map f) (cond-false _ _ _ no) in
      cc
  shown_one (z ∷ zs) h = elim (cases_Bool (less z y)) [
    | inl t ↦
        let u : less z x ≡ true = alike z ∙ t in
        let same : f z ∷ map f (put less x (put less y zs)) ≡ f z ∷ map f (put less y (put less x zs)) =
        sym (ap (λ l. map f (put less x l)) (cond-true _ _ _ t) ∙ ap (map f) (cond-true _ _ _ u)) ∙ h
        ∙ ap (λ l. map f (put less y l)) (cond-true _ _ _ u) ∙ ap (map f) (cond-true _ _ _ t) in
        shown_one zs (cc)
    | inr g ↦
        let w : less z x ≡ false = alike z ∙ g in
        let same : f x ∷ f y ∷ f z ∷ map f zs ≡ f y ∷ f x ∷ f z ∷ map f zs =
        sym (ap (λ l. map f (put less x l)) (cond-false _ _ _ g) ∙ ap (map f) (cond-false _ _ _ nor)) ∙ h
        ∙ ap (λ l. map f (put less y l)) (cond-false _ _ _ w) ∙ ap (map f) (cond-false _ _ _ no) in
        cc
  ]

pub ties_must_show_one : (schema : Schema) (query : Query) (rows : List (List Value)) → ((others : List (List Value)) → IsPermutation rows others → plain_answer schema query rows ≡ plain_answer schema query others) → TiesShowOne schema query rows
ties_must_show_one schema query rows same a b in_a in_b tie =
    let sorts = row_order schema query in
    let less = comes_before sorts in
    let shows = λ (row : List Value). map (row_item schema row) query.items in
    let one = at_front rows a in_a in
    in_rest a b one.0 (Contains-permutation rows (a ∷ one.0) b one.1 in_b) (shows a ≡ shows b)
    (λ e. ap shows e)
    (λ there.
    let two = at_front one.0 b there in
    let forth = IsPermutation-trans _ _ _ one.1 (IsPermutation-cons a _ _ two.1) in
    let back = IsPermutation-trans _ _ _ forth (flipped a b two.0) in
    shown_one less (before_by sorts (λ row. row)) shows a b (ap is_lt tie) (ap is_lt ((row_total sorts).antisymm b a ∙ ap ordering_reverse tie)) (in_order less two.0)
    (sym (same (a ∷ b ∷ two.0) forth) ∙ same (b ∷ a ∷ two.0) back))
