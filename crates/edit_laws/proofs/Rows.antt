-- What holds of each write holds of each row that is there.
use Rattle.std.proofs.Common.{◌≡◌, ℕ, suc, ◌⊎◌, inl, inr, List, [], ◌∷◌, map, refl, subst, cond, Bool, true, false, All, Contains, arith}
use Rattle.std.specs.Prelude.{Option, None, Some, nat_le}
use Rattle.std.specs.declared.cmp.Ordering.{Ordering}
use Rattle.std.specs.declared.cmp.Ordering.TheVariants.{Less, Equal, Greater}
use Rattle.std.specs.Ordering.{match_ordering}
use Rattle.std.specs.BTreeMap.{is_at, insert_entry}
use Rattle.std.specs.Map.{remove_entry}
use Rattle.std.proofs.lemmas.List.Elements.{All-nil, All-cons, All-map, All-filter, All-contains_itself}
use Rattle.cs_types.specs.declared.Key.{Key}
use Rattle.cs_types.specs.declared.Value.{Value}
use Rattle.cs_types.specs.Keys.{key_cmp}
use Rattle.cs_model.specs.Changes.{Edit, Table, Change, edited, edited_by, laid, until, table}
use Rattle.cs_types.proofs.KeyLemmas.{exact_key}

-- an entry as the edit that makes it
abbrev pub Holds : (Edit → Type 0) → Key × List Value → Type 0
Holds Q entry = Q (entry.0, Some entry.1)

module _ (Q : Edit → Type 0) where
  put_at : (k : Key) (v : List Value) (e : Key × List Value) (t : Table) (r : Ordering) → key_cmp k e.0 ≡ r → All (Holds Q) (e ∷ t) → Q (k, Some v) → All (Holds Q) (insert_entry key_cmp t k v)
      → All (Holds Q) (match_ordering r ((k, v) ∷ e ∷ t) ((e.0, v) ∷ t) (e ∷ insert_entry key_cmp t k v))
  put_at k v e t Less h all q rest = All-cons (Holds Q) (k, v) (e ∷ t) q all
  put_at k v e t Equal h all q rest =
      All-cons (Holds Q) (e.0, v) t (subst (λ (key : Key). Q (key, Some v)) (exact_key k e.0 h) q) (λ i d lt. all (suc i) d (omega arith))
  put_at k v e t Greater h all q rest = All-cons (Holds Q) e (insert_entry key_cmp t k v) (all 0 e (omega arith)) rest

  put_all : (k : Key) (v : List Value) (t : Table) → All (Holds Q) t → Q (k, Some v) → All (Holds Q) (insert_entry key_cmp t k v)
  put_all k v [] all q = All-cons (Holds Q) (k, v) [] q all
  put_all k v (e ∷ t) all q = put_at k v e t (key_cmp k e.0) refl all q (put_all k v t (λ i d lt. all (suc i) d (omega arith)) q)

  take_at : (k : Key) (e : Key × List Value) (t : Table) (b : Bool) → All (Holds Q) (e ∷ t) → All (Holds Q) (remove_entry (is_at (key_cmp k)) t) → All (Holds Q) (cond b t (e ∷ remove_entry (is_at (key_cmp k)) t))
  take_at k e t true all rest = λ i d lt. all (suc i) d (omega arith)
  take_at k e t false all rest = All-cons (Holds Q) e (remove_entry (is_at (key_cmp k)) t) (all 0 e (omega arith)) rest

  take_all : (k : Key) (t : Table) → All (Holds Q) t → All (Holds Q) (remove_entry (is_at (key_cmp k)) t)
  take_all k [] all = all
  take_all k (e ∷ t) all = take_at k e t (is_at (key_cmp k) e.0) all (take_all k t (λ i d lt. all (suc i) d (omega arith)))

  edited_all : (t : Table) (key : Key) (row : Option (List Value)) → All (Holds Q) t → Q (key, row) → All (Holds Q) (edited_by t key row)
  edited_all t key (Some row) all q = put_all key row t all q
  edited_all t key None all q = take_all key t all

  pub laid_all : (t : Table) (edits : List Edit) → All (Holds Q) t → All Q edits → All (Holds Q) (laid t edits)
  laid_all t [] all each = all
  laid_all t (edit ∷ edits) all each = laid_all (edited t edit) edits (edited_all t edit.0 edit.1 all (each 0 edit (omega arith))) (λ i d lt. each (suc i) d (omega arith))

  pub table_all : (changes : List Change) (s : ℕ) → All (λ (change : Change). Q change.edit) changes → All (Holds Q) (table changes s)
  table_all changes s all =
      laid_all [] (map (λ (change : Change). change.edit) (until s changes)) (All-nil (Holds Q))
      (All-map Q (λ (change : Change). change.edit) (until s changes) (All-filter (λ (change : Change). nat_le change.commit s) (λ (change : Change). Q change.edit) changes all))

-- ---- where each row comes from

pub each_of_changes : (changes : List Change) (s : ℕ) → All (Holds (Contains (map (λ (change : Change). change.edit) (until s changes)))) (table changes s)
each_of_changes changes s =
    let edits = map (λ (change : Change). change.edit) (until s changes) in
    laid_all (Contains edits) [] edits (All-nil (Holds (Contains edits))) (All-contains_itself edits)

-- a row is one of the table or one of the edits
abbrev IsOfEither : Table → List Edit → Key → Option (List Value) → Type 0
IsOfEither t edits key None = Contains edits (key, None)
IsOfEither t edits key (Some row) = Contains t (key, row) ⊎ Contains edits (key, Some row)

of_edits : (t : Table) (edits : List Edit) (key : Key) (row : Option (List Value)) → Contains edits (key, row) → IsOfEither t edits key row
of_edits t edits key None there = there
of_edits t edits key (Some row) there = inr there

pub each_of_either : (t : Table) (edits : List Edit) → All (λ (entry : Key × List Value). Contains t entry ⊎ Contains edits (entry.0, Some entry.1)) (laid t edits)
each_of_either t edits =
    laid_all (λ (edit : Edit). IsOfEither t edits edit.0 edit.1) t edits (λ i d lt. inl (All-contains_itself t i d lt)) (λ i d lt. of_edits t edits _ _ (All-contains_itself edits i d lt))
