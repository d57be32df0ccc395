-- What a partial answer stands for where rows are left out that its filter does not keep, or come in another order.
use Rattle.std.proofs.Common.{◌≡◌, ◌++◌, ◌∷◌, List, false, inl, inr, sym, ap, subst, ◌∙◌}
use Rattle.std.specs.Prelude.{Option, None, Some, Result, Ok, Err, OnOk}
use Rattle.std.specs.List.{cons_option, filter_map}
use Rattle.std.specs.List.Sorted.{IsPermutation}
use Rattle.std.specs.Map.{values_of}
use Rattle.std.proofs.lemmas.Bool.{cases_Bool}
use Rattle.std.proofs.lemmas.List.Elements.{filter-append}
use Rattle.std.proofs.lemmas.List.Sorted.{IsPermutation-append_right, IsPermutation-cons, IsPermutation-map, IsPermutation-refl, IsPermutation-trans}
use Rattle.cs_types.specs.declared.Key.{Key}
use Rattle.cs_types.specs.declared.Schema.{Schema}
use Rattle.cs_types.specs.declared.Value.{Value}
use Rattle.cs_model.specs.declared.plan.Query.{Query}
use Rattle.cs_model.specs.Answers.{chosen}
use Rattle.cs_model.specs.Changes.{Table}
use Rattle.cs_model.specs.Queries.{keeps, kept}
use Rattle.batch_aggregate.specs.declared.partial.Partial.{Partial}
use Rattle.answer_laws.proofs.Moves.{by_moves, flipped}
use Rattle.batch_aggregate.specs.Standing.{Keeps, StandsFor}
use Rattle.batch_aggregate.proofs.Stands.{StandsFor_any_order}
use Rattle.row_work.proofs.NamedRows.{kept_values}

-- what is read of things in another order
filter_map_moved : {X Y : Type 0} (f : X → Option Y) (xs ys : List X) → IsPermutation xs ys → IsPermutation (filter_map f xs) (filter_map f ys)
filter_map_moved {X} {Y} f = by_moves (λ xs ys. IsPermutation (filter_map f xs) (filter_map f ys))
    (λ xs. IsPermutation-refl (filter_map f xs))
    (λ xs ys zs h k. IsPermutation-trans _ _ _ h k)
    (λ x xs ys h. under (f x) (filter_map f xs) (filter_map f ys) h)
    (λ x y xs. flip (f x) (f y) (filter_map f xs))
  where
    under : (o : Option Y) (us vs : List Y) → IsPermutation us vs → IsPermutation (cons_option o us) (cons_option o vs)
    under (Some y) us vs h = IsPermutation-cons y us vs h
    under None us vs h = h

    flip : (o p : Option Y) (us : List Y) → IsPermutation (cons_option o (cons_option p us)) (cons_option p (cons_option o us))
    flip (Some x) (Some y) us = flipped x y us
    flip (Some x) None us = IsPermutation-refl (x ∷ us)
    flip None (Some y) us = IsPermutation-refl (y ∷ us)
    flip None None us = IsPermutation-refl us

same_kept : (schema : Schema) (query : Query) (rows : List (List Value)) (a b : Table) → chosen schema query.filter a ≡ chosen schema query.filter b → kept schema query (rows ++ values_of a) ≡ kept schema query (rows ++ values_of b)
same_kept schema query rows a b same =
    filter-append (keeps schema query.filter) rows (values_of a)
    ∙ ap (λ l. kept schema query rows ++ l) (kept_values schema query a ∙ ap values_of same ∙ sym (kept_values schema query b))
    ∙ sym (filter-append (keeps schema query.filter) rows (values_of b))

-- rows of which the filter keeps the same may take each other's place
pub stands_as : (schema : Schema) (query : Query) (partial : Partial) (rows : List (List Value)) (a b : Table) → partial.schema.now ≡ schema → partial.query.now ≡ query → chosen schema query.filter a ≡ chosen schema query.filter b
    → StandsFor partial (rows ++ values_of a) → StandsFor partial (rows ++ values_of b)
stands_as schema query partial rows a b of_schema of_query same stands =
    let here : chosen partial.schema.now partial.query.now.filter a ≡ chosen partial.schema.now partial.query.now.filter b =
    (λ k. chosen (of_schema k) (let q : Query = of_query k in q.filter) a) ∙ same ∙ sym (λ k. chosen (of_schema k) (let q : Query = of_query k in q.filter) b) in
    subst (Keeps partial.query.now.grouped partial) (same_kept partial.schema.now partial.query.now rows a b here) stands

-- what is read in another order, where the query puts rows together
pub stands_listed : {X : Type 0} (partial : Partial) (rows : List (List Value)) (read : X → Option (Key × List Value)) (found listed : List X) → IsPermutation found listed → (partial.query.now.grouped ≡ false → found ≡ listed)
    → StandsFor partial (rows ++ values_of (filter_map read found)) → StandsFor partial (rows ++ values_of (filter_map read listed))
stands_listed partial rows read found listed moved plain stands = elim (cases_Bool partial.query.now.grouped) [
  | inl grouped ↦
      let there = filter_map_moved read found listed moved in
      StandsFor_any_order partial (rows ++ values_of (filter_map read found)) (rows ++ values_of (filter_map read listed)) grouped stands
      (IsPermutation-append_right rows _ _ (IsPermutation-map (λ (entry : Key × List Value). entry.1) _ _ there))
  | inr each ↦ subst (λ l. StandsFor partial (rows ++ values_of (filter_map read l))) (plain each) stands
]

pub on_ok : {X E A B : Type 0} (r : Result X E) → (A → B) → OnOk r A → OnOk r B
on_ok (Ok x) f a = f a
on_ok (Err e) f a = a
