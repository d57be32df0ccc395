-- Groups that take the tallies of further rows, found by their cells.
use Rattle.std.proofs.Common.{◌≡◌, ℕ, zero, suc, ◌<◌, Bool, true, false, List, [], ◌∷◌, length, map, map-id, get_or, slice_get, Option, None, Some, is_some, refl, sym, ap, ◌∙◌, arith, inl, inr, true≢false, Decides, zero-le, suc-le-suc}
use Rattle.std.specs.Cmp.Lexicographic.{pointwise}
use Rattle.std.specs.Map.{lookup, keys_of, values_of}
use Rattle.std.proofs.lemmas.Bool.{cond-true, cond-false, cases_Bool}
use Rattle.indexmap.specs.IndexMap.{insert_entry}
use Rattle.indexmap.specs.Layout.{set_value_at}
use Rattle.cs_types.specs.declared.Value.{Value}
use Rattle.cs_types.specs.contracts.ValuePartialEq.TheImpl.{eq-value}
use Rattle.cs_types.specs.Rows.{cell_at}
use Rattle.cs_model.specs.Groups.{same_cells}
use Rattle.batch_aggregate.specs.declared.tally.Tally.{Tally}
use Rattle.batch_aggregate.specs.Tallies.{all_joined}
use Rattle.batch_aggregate.specs.Standing.{Entry, entry_at, with_tallies}
use Rattle.answer_laws.proofs.Orders.{same_decides}
use Rattle.batch_aggregate.proofs.SameRows.{rows_decide, cells_decide}

one_answer : {P : Type 0} (r s : Bool) → Decides r P → Decides s P → r ≡ s
one_answer true true d e = refl
one_answer true false d e = sym (e.1 (d.0 refl))
one_answer false true d e = d.1 (e.0 refl)
one_answer false false d e = refl

-- groups are kept by keys, and a key has its cells
module _ {K : Type 0} (cells_at : K → List Value) (equal : K → K → Bool) (key : K) (same : (k : K) → same_cells (cells_at key) (cells_at k) ≡ equal key k) (tallies : List Tally) where
  abbrev told_at : K × List Tally → Entry
  told_at kept = (cells_at kept.0, kept.1)

  changed_at : (es : List (K × List Tally)) (i : ℕ) (d : K) (v w : List Tally)
      → (i < length (keys_of es)) × (equal key (get_or (keys_of es) i d) ≡ true) × ((k : ℕ) → k < i → equal key (get_or (keys_of es) k d) ≡ false)
      → slice_get (values_of es) i ≡ Some v → w ≡ all_joined v tallies → map told_at (set_value_at es i w) ≡ with_tallies (cells_at key) tallies (map told_at es)
  changed_at [] i d v w at there is = absurd (omega (arith, at.0))
  changed_at (e ∷ es) zero d v w at there is =
      let value : e.1 ≡ v = cc in
      ap (λ ts. (cells_at e.0, ts) ∷ map told_at es) (is ∙ ap (λ own. all_joined own tallies) (sym value)) ∙ sym (cond-true _ _ _ (same e.0 ∙ at.1))
  changed_at (e ∷ es) (suc i) d v w at there is =
      let less : i < length (keys_of es) = omega (arith, at.0) in
      ap (λ l. told_at e ∷ l) (changed_at es i d v w (less, at.1, λ k l. at.2 (suc k) (suc-le-suc l)) there is)
      ∙ sym (cond-false _ _ _ (same e.0 ∙ at.2 zero (suc-le-suc zero-le)))

  put_last : (es : List (K × List Tally)) → lookup (equal key) es ≡ None → map told_at (insert_entry equal es key tallies) ≡ with_tallies (cells_at key) tallies (map told_at es)
  put_last [] none = refl
  put_last (e ∷ es) none = elim (cases_Bool (equal key e.0)) [
    | inl t ↦ let there : Some e.1 ≡ None = sym (cond-true _ _ _ t) ∙ none in cc
    | inr f ↦
        ap (map told_at) (cond-false _ _ _ f)
        ∙ ap (λ l. told_at e ∷ l) (put_last es (sym (cond-false _ _ _ f) ∙ none))
        ∙ sym (cond-false _ _ _ (same e.0 ∙ f))
  ]

-- by the cells of several columns
row_same : (cells k : List Value) → same_cells cells k ≡ pointwise eq-value.it cells k
row_same cells k = one_answer (same_cells cells k) (pointwise eq-value.it cells k) (same_decides cells k) (rows_decide cells k)

module _ (cells : List Value) (tallies : List Tally) where
  pub changed_by_cells : (es : List Entry) (i : ℕ) (d : List Value) (v w : List Tally)
      → (i < length (keys_of es)) × (pointwise eq-value.it cells (get_or (keys_of es) i d) ≡ true) × ((k : ℕ) → k < i → pointwise eq-value.it cells (get_or (keys_of es) k d) ≡ false)
      → slice_get (values_of es) i ≡ Some v → w ≡ all_joined v tallies → set_value_at es i w ≡ with_tallies cells tallies es
  changed_by_cells es i d v w at there is =
      sym (map-id (set_value_at es i w)) ∙ changed_at (λ k. k) (pointwise eq-value.it) cells (row_same cells) tallies es i d v w at there is
      ∙ ap (with_tallies cells tallies) (map-id es)

  pub put_last_by_cells : (es : List Entry) → lookup (pointwise eq-value.it cells) es ≡ None → insert_entry (pointwise eq-value.it) es cells tallies ≡ with_tallies cells tallies es
  put_last_by_cells es none =
      sym (map-id (insert_entry (pointwise eq-value.it) es cells tallies)) ∙ put_last (λ k. k) (pointwise eq-value.it) cells (row_same cells) tallies es none
      ∙ ap (with_tallies cells tallies) (map-id es)

-- by the cell of one column
cell_same : (cell k : Value) → same_cells (cell ∷ []) (k ∷ []) ≡ eq-value.it cell k
cell_same cell k =
    let decides = cells_decide cell k in
    one_answer (same_cells (cell ∷ []) (k ∷ [])) (eq-value.it cell k) (same_decides (cell ∷ []) (k ∷ [])) (λ e. ap (λ v. v ∷ []) (decides.0 e), λ e. decides.1 (cc))

module _ (cell : Value) (tallies : List Tally) where
  pub changed_by_cell : (es : List (Value × List Tally)) (i : ℕ) (d : Value) (v w : List Tally)
      → (i < length (keys_of es)) × (eq-value.it cell (get_or (keys_of es) i d) ≡ true) × ((k : ℕ) → k < i → eq-value.it cell (get_or (keys_of es) k d) ≡ false)
      → slice_get (values_of es) i ≡ Some v → w ≡ all_joined v tallies → map entry_at (set_value_at es i w) ≡ with_tallies (cell ∷ []) tallies (map entry_at es)
  changed_by_cell = changed_at (λ k. k ∷ []) eq-value.it cell (cell_same cell) tallies

  pub put_last_by_cell : (es : List (Value × List Tally)) → lookup (eq-value.it cell) es ≡ None → map entry_at (insert_entry eq-value.it es cell tallies) ≡ with_tallies (cell ∷ []) tallies (map entry_at es)
  put_last_by_cell = put_last (λ k. k ∷ []) eq-value.it cell (cell_same cell) tallies

-- the cells of a group with one grouping column
pub one_cell : (cells : List Value) → length cells ≡ 1 → cells ≡ cell_at cells 0 ∷ []
one_cell [] e = absurd (omega arith)
one_cell (cell ∷ []) e = refl
one_cell (cell ∷ next ∷ cells) e = absurd (omega arith)

pub not_some : {X : Type 0} (o : Option X) → is_some o ≡ false → o ≡ None
not_some None e = refl
not_some (Some x) e = absurd (true≢false e)
