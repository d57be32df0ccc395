-- Rows that were chosen, in the order of their keys.
use Rattle.std.proofs.Common.{◌≡◌, ℕ, ◌<◌, ◌+◌, Bool, List, [], ◌∷◌, length, get_or, map, refl, sym, ap, ◌∙◌, subst, arith}
use Rattle.std.specs.Prelude.{Option, Some}
use Rattle.std.specs.Ordering.{eq_by_cmp, is_lt}
use Rattle.std.specs.Cmp.{IsStrictWeakOrder}
use Rattle.std.specs.Map.{keys_of}
use Rattle.std.specs.List.{Contains}
use Rattle.std.specs.List.Sorted.{IsPermutation, IsSortedByKey, IsStrictlySortedBy}
use Rattle.std.proofs.lemmas.Cmp.{eq_by_cmp_equiv}
use Rattle.std.proofs.lemmas.List.{get_or-map, length-map}
use Rattle.std.proofs.lemmas.List.Sorted.{Contains-permutation, IsPermutation-map, IsPermutation-sym, IsPermutation-trans, ranks_by}
use Rattle.std.proofs.lemmas.Map.Keys.{IsDistinct-from_sorted, Less-from_sorted}
use Rattle.std.proofs.lemmas.Map.Views.{lookup-from_Contains}
use Rattle.std.proofs.lemmas.Option.{same_Some}
use Rattle.cs_types.specs.declared.Key.{Key}
use Rattle.cs_types.specs.declared.Schema.{Schema}
use Rattle.cs_types.specs.declared.Value.{Value}
use Rattle.cs_types.specs.Keys.{key_cmp}
use Rattle.cs_types.proofs.KeyLemmas.{key_total, exact_key}
use Rattle.cs_model.specs.declared.pred.Pred.{Pred}
use Rattle.cs_model.specs.Queries.{keeps}
use Rattle.cs_model.specs.Answers.{chosen}
use Rattle.cs_model.specs.Changes.{Edit, Table}
use Rattle.write_set.proofs.Puts.{greater}
use Rattle.edit_laws.proofs.Tables.{Ascends, at}
use Rattle.answer_laws.proofs.Moves.{filter-moved}
use Rattle.answer_laws.proofs.Sorts.{TiedIsOne, in_order-moved}
use Rattle.answer_laws.proofs.Ties.{tied_equal}
use Rattle.batch_aggregate.proofs.Sorting.{is_in_order}
use Rattle.group_view.specs.declared.view.Pinned.{Pinned}
use Rattle.row_work.specs.declared.choose.Chosen.{Chosen}
use Rattle.row_work.specs.Reads.{read_by, rows_in}
use Rattle.row_work.specs.Sources.{chosen_edit, rows_as_edits}
use Rattle.row_work.proofs.Overlaid.{ascends_filter, read_ascends}

-- ---- lists in order

abbrev below : Edit → Edit → Bool
below a b = is_lt (key_cmp a.0 b.0)

ranked : IsStrictWeakOrder below
ranked = ranks_by key_total (λ (edit : Edit). edit.0)

row_at : (edits : List Edit) (edit : Edit) → Ascends edits → Contains edits edit → at edit.0 edits ≡ Some edit.1
row_at edits edit up inside =
    lookup-from_Contains {eq = eq_by_cmp key_cmp} (eq_by_cmp_equiv key_total) edit.0 edit.1 edits (IsDistinct-from_sorted key_cmp (keys_of edits) up) inside

tied_is_one : (xs ys : List Edit) → IsPermutation xs ys → Ascends ys → TiedIsOne below xs
tied_is_one xs ys moved up a b in_a in_b tied =
    let same : a.0 ≡ b.0 = exact_key a.0 b.0 (tied_equal {X = Key} key_cmp key_total a.0 b.0 tied) in
    let rows : Some a.1 ≡ Some b.1 =
    sym (row_at ys a up (Contains-permutation xs ys a moved in_a)) ∙ ap (λ (k : Key). at k ys) same ∙ row_at ys b up (Contains-permutation xs ys b moved in_b) in
    let row : a.1 ≡ b.1 = same_Some a.1 b.1 rows in
    λ i. (same i, row i)

rises : (edits : List Edit) → Ascends edits → IsSortedByKey (λ (edit : Edit). edit.0) key_cmp edits
rises edits up k d from inside =
    let first = λ (edit : Edit). edit.0 in
    let low = get_or-map first edits k d d.0 (omega (arith, inside)) in
    let high = get_or-map first edits (k + 1) d d.0 inside in
    let less = Less-from_sorted key_cmp (keys_of edits) k (k + 1) d.0 up (omega arith) (omega (arith, inside, length-map edits first)) in
    let turned = greater (get_or edits (k + 1) d).0 (get_or edits k d).0 (ap (λ (key : Key). key_cmp key (get_or edits (k + 1) d).0) (sym low) ∙ ap (key_cmp (get_or (keys_of edits) k d.0)) (sym high) ∙ less) in
    ap is_lt turned

-- a list in order is the list whose keys ascend, where it has its elements
pub one_order : (xs ys : List Edit) → IsPermutation xs ys → IsSortedByKey (λ (edit : Edit). edit.0) key_cmp xs → Ascends ys → xs ≡ ys
one_order xs ys moved sorted up =
    is_in_order below ranked xs xs sorted (λ x. refl) ∙ in_order-moved below ranked xs ys moved (tied_is_one xs ys moved up) ∙ sym (is_in_order below ranked ys ys (rises ys up) (λ x. refl))

-- ---- what was chosen

pub rows_ascend : (rows : Table) → Ascends rows → Ascends (rows_as_edits rows)
rows_ascend rows up = subst (IsStrictlySortedBy key_cmp) (sym (keys_are rows)) up
  where
    keys_are : (rows : Table) → keys_of (rows_as_edits rows) ≡ keys_of rows
    keys_are [] = refl
    keys_are (e ∷ rows) = ap (λ (keys : List Key). e.0 ∷ keys) (keys_are rows)

module _ (width : ℕ) (pinned : Pinned) where
  edits_sorted : (list : List Chosen) → IsSortedByKey (λ (one : Chosen). one.key) key_cmp list → IsSortedByKey (λ (edit : Edit). edit.0) key_cmp (map (chosen_edit width pinned) list)
  edits_sorted [] sorted k d from inside = absurd (omega (arith, inside))
  edits_sorted (x ∷ list) sorted k d from inside =
      let edit = chosen_edit width pinned in
      let there : k + 1 < length (x ∷ list) = omega (arith, inside, length-map (x ∷ list) edit) in
      let low = get_or-map edit (x ∷ list) k x d (omega (arith, there)) in
      let high = get_or-map edit (x ∷ list) (k + 1) x d there in
      ap (λ (e : Edit). is_lt (key_cmp e.0 (get_or (map edit (x ∷ list)) k d).0)) high ∙ ap (λ (e : Edit). is_lt (key_cmp (get_or (x ∷ list) (k + 1) x).key e.0)) low ∙ sorted k x from there

  -- what was chosen of the rows that are read, once it is sorted
  pub chosen_sorted : (schema : Schema) (condition : Option Pred) (list sorted : List Chosen) → IsPermutation (rows_in width pinned) (read_by width pinned)
      → map (chosen_edit width pinned) list ≡ rows_as_edits (chosen schema condition (rows_in width pinned)) → IsPermutation list sorted → IsSortedByKey (λ (one : Chosen). one.key) key_cmp sorted
      → map (chosen_edit width pinned) sorted ≡ rows_as_edits (chosen schema condition (read_by width pinned))
  chosen_sorted schema condition list sorted read is moved order =
      let keep = λ (entry : Key × List Value). keeps schema condition entry.1 in
      let edit = chosen_edit width pinned in
      let as_edit : Key × List Value → Edit = λ entry. (entry.0, Some entry.1) in
      let wanted = rows_as_edits (chosen schema condition (read_by width pinned)) in
      one_order (map edit sorted) wanted
      (IsPermutation-trans (map edit sorted) (map edit list) wanted
      (IsPermutation-sym (map edit list) (map edit sorted) (IsPermutation-map edit list sorted moved))
      (subst (λ (l : List Edit). IsPermutation l wanted) (sym is)
      (IsPermutation-map as_edit (chosen schema condition (rows_in width pinned)) (chosen schema condition (read_by width pinned)) (filter-moved keep (rows_in width pinned) (read_by width pinned) read))))
      (edits_sorted sorted order)
      (rows_ascend (chosen schema condition (read_by width pinned)) (ascends_filter keep (read_by width pinned) (read_ascends width pinned)))
