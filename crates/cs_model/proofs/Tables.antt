-- The table of a snapshot, by each key's last change.
use Rattle.std.proofs.Common.{◌≡◌, ℕ, List, [], ◌∷◌, map, refl, sym, ap, ◌∙◌, cond, Bool, true, false, fold}
use Rattle.std.specs.Prelude.{Option, None, Some}
use Rattle.std.specs.declared.cmp.Ordering.{Ordering}
use Rattle.std.specs.declared.cmp.Ordering.TheVariants.{Less, Equal, Greater}
use Rattle.std.specs.Ordering.{is_eq, eq_by_cmp, match_ordering, ordering_reverse}
use Rattle.std.specs.Cmp.{Equal-is}
use Rattle.std.specs.BTreeMap.{insert_entry, is_at}
use Rattle.std.specs.Map.{keys_of, lookup, remove_entry}
use Rattle.std.specs.List.{AllByRecursion}
use Rattle.std.specs.List.Sorted.{IsStrictlySortedBy}
use Rattle.std.proofs.lemmas.Cmp.{eq_by_cmp_equiv}
use Rattle.std.proofs.lemmas.Map.{lookup-remove_entry}
use Rattle.std.proofs.lemmas.Map.Keys.{IsDistinct-from_sorted}
use Rattle.cs_types.specs.declared.Key.{Key}
use Rattle.cs_types.specs.declared.Value.{Value}
use Rattle.cs_types.specs.Keys.{key_cmp, same_key}
use Rattle.cs_types.proofs.KeyLemmas.{key_total}
use Rattle.cs_model.specs.Changes.{Edit, Table, Change, edited_by, edited, laid, until, table, last_change, made}

-- ---- the order of keys

turned : (a b : Key) → key_cmp a b ≡ ordering_reverse (key_cmp b a)
turned a b = key_total.antisymm a b

alike : (a b c : Key) → key_cmp a b ≡ Equal → key_cmp a c ≡ key_cmp b c
alike a b c e = key_total.congr a b c e

above_turned : (a b : Key) → key_cmp a b ≡ Greater → key_cmp b a ≡ Less
above_turned a b e = turned b a ∙ ap ordering_reverse e

equal_turned : (a b : Key) → key_cmp a b ≡ Equal → key_cmp b a ≡ Equal
equal_turned a b e = turned b a ∙ ap ordering_reverse e

-- ---- one key put in

module _ (key k : Key) (v : List Value) where
  put_at : (e : Key × List Value) (es : Table) (r : Ordering) → key_cmp k e.0 ≡ r
      → (lookup (is_at (key_cmp key)) (insert_entry key_cmp es k v) ≡ cond (same_key key k) (Some v) (lookup (is_at (key_cmp key)) es))
      → lookup (is_at (key_cmp key)) (match_ordering r ((k, v) ∷ e ∷ es) ((e.0, v) ∷ es) (e ∷ insert_entry key_cmp es k v)) ≡ cond (same_key key k) (Some v) (lookup (is_at (key_cmp key)) (e ∷ es))
  put_at e es Less h rest = refl
  put_at e es Equal h rest = at (same_key key e.0) (same_key key k) refl (ap is_eq (turned key e.0 ∙ ap ordering_reverse (sym (alike k e.0 key h)) ∙ sym (turned key k)))
    where
      at : (t u : Bool) → same_key key e.0 ≡ t → t ≡ u → cond t (Some v) (lookup (is_at (key_cmp key)) es) ≡ cond u (Some v) (cond t (Some e.1) (lookup (is_at (key_cmp key)) es))
      at true true s e = refl
      at true false s e = absurd (cc)
      at false true s e = absurd (cc)
      at false false s e = refl
  put_at e es Greater h rest = at (same_key key e.0) (same_key key k) refl refl
    where
      at : (t u : Bool) → same_key key e.0 ≡ t → same_key key k ≡ u
          → cond t (Some e.1) (lookup (is_at (key_cmp key)) (insert_entry key_cmp es k v)) ≡ cond u (Some v) (cond t (Some e.1) (lookup (is_at (key_cmp key)) es))
      at true true s p = absurd (cc (h, alike k key e.0 (equal_turned key k ((Equal-is (key_cmp key k)).0 p)), (Equal-is (key_cmp key e.0)).0 s))
      at true false s p = refl
      at false u s p = rest ∙ ap (λ x. cond x (Some v) (lookup (is_at (key_cmp key)) es)) p

  put_is : (es : Table) → lookup (is_at (key_cmp key)) (insert_entry key_cmp es k v) ≡ cond (same_key key k) (Some v) (lookup (is_at (key_cmp key)) es)
  put_is [] = refl
  put_is (e ∷ es) = put_at e es (key_cmp k e.0) refl (put_is es)

-- ---- one key taken away

take_is : (key k : Key) (es : Table) → IsStrictlySortedBy key_cmp (keys_of es) → lookup (is_at (key_cmp key)) (remove_entry (is_at (key_cmp k)) es) ≡ cond (same_key k key) None (lookup (is_at (key_cmp key)) es)
take_is key k es sorted =
    lookup-remove_entry {eq = eq_by_cmp key_cmp} (eq_by_cmp_equiv key_total) (is_at (key_cmp k)) (λ x y at. ap is_eq (alike k x y ((Equal-is (key_cmp k x)).0 at))) key es
    (IsDistinct-from_sorted key_cmp (keys_of es) sorted)

pub edited_is : (key k : Key) (row : Option (List Value)) (es : Table) → IsStrictlySortedBy key_cmp (keys_of es) → lookup (is_at (key_cmp key)) (edited_by es k row) ≡ cond (same_key key k) row (lookup (is_at (key_cmp key)) es)
edited_is key k (Some row) es sorted = put_is key k row es
edited_is key k None es sorted = take_is key k es sorted ∙ ap (λ t. cond t None (lookup (is_at (key_cmp key)) es)) ((eq_by_cmp_equiv key_total).symm k key)

-- ---- the keys ascend

abbrev Below : Key → Key → Type 0
Below a b = key_cmp a b ≡ Less

all_put : {X : Type 0} (P : Key → Type 0) (k : Key) (v : X) (es : List (Key × X)) → AllByRecursion P (keys_of es) → P k → AllByRecursion P (keys_of (insert_entry key_cmp es k v))
all_put P k v [] all p = (p, tt)
all_put P k v (e ∷ es) all p = at (all_put P k v es all.1 p) (key_cmp k e.0)
  where
    at : AllByRecursion P (keys_of (insert_entry key_cmp es k v)) → (r : Ordering) → AllByRecursion P (keys_of (match_ordering r ((k, v) ∷ e ∷ es) ((e.0, v) ∷ es) (e ∷ insert_entry key_cmp es k v)))
    at rest Less = (p, all)
    at rest Equal = all
    at rest Greater = (all.0, rest)

all_take : (P : Key → Type 0) (k : Key) (es : Table) → AllByRecursion P (keys_of es) → AllByRecursion P (keys_of (remove_entry (is_at (key_cmp k)) es))
all_take P k [] all = tt
all_take P k (e ∷ es) all = at (all_take P k es all.1) (is_at (key_cmp k) e.0)
  where
    at : AllByRecursion P (keys_of (remove_entry (is_at (key_cmp k)) es)) → (t : Bool) → AllByRecursion P (keys_of (cond t es (e ∷ remove_entry (is_at (key_cmp k)) es)))
    at rest true = all.1
    at rest false = (all.0, rest)

all_below : (a b : Key) (ks : List Key) → Below a b → AllByRecursion (Below b) ks → AllByRecursion (Below a) ks
all_below a b [] below all = tt
all_below a b (k ∷ ks) below all = (key_total.trans a b k below all.0, all_below a b ks below all.1)

-- a value put at a key keeps the keys ascending
pub sorted_put : {X : Type 0} (k : Key) (v : X) (es : List (Key × X)) → IsStrictlySortedBy key_cmp (keys_of es) → IsStrictlySortedBy key_cmp (keys_of (insert_entry key_cmp es k v))
unfolding IsStrictlySortedBy
sorted_put k v [] sorted = (tt, tt)
sorted_put k v (e ∷ es) sorted = at (sorted_put k v es sorted.1) (key_cmp k e.0) refl
  where
    at : IsStrictlySortedBy key_cmp (keys_of (insert_entry key_cmp es k v)) → (r : Ordering) → key_cmp k e.0 ≡ r → IsStrictlySortedBy key_cmp (keys_of (match_ordering r ((k, v) ∷ e ∷ es) ((e.0, v) ∷ es) (e ∷ insert_entry key_cmp es k v)))
    at rest Less h = ((h, all_below k e.0 (keys_of es) h sorted.0), sorted)
    at rest Equal h = sorted
    at rest Greater h = (all_put (Below e.0) k v es sorted.0 (above_turned k e.0 h), rest)

sorted_take : (k : Key) (es : Table) → IsStrictlySortedBy key_cmp (keys_of es) → IsStrictlySortedBy key_cmp (keys_of (remove_entry (is_at (key_cmp k)) es))
unfolding IsStrictlySortedBy
sorted_take k [] sorted = sorted
sorted_take k (e ∷ es) sorted = at (sorted_take k es sorted.1) (is_at (key_cmp k) e.0)
  where
    at : IsStrictlySortedBy key_cmp (keys_of (remove_entry (is_at (key_cmp k)) es)) → (t : Bool) → IsStrictlySortedBy key_cmp (keys_of (cond t es (e ∷ remove_entry (is_at (key_cmp k)) es)))
    at rest true = sorted.1
    at rest false = (all_take (Below e.0) k es sorted.0, rest)

sorted_edit : (k : Key) (row : Option (List Value)) (es : Table) → IsStrictlySortedBy key_cmp (keys_of es) → IsStrictlySortedBy key_cmp (keys_of (edited_by es k row))
sorted_edit k (Some row) es sorted = sorted_put k row es sorted
sorted_edit k None es sorted = sorted_take k es sorted

pub sorted_none : IsStrictlySortedBy key_cmp []
unfolding IsStrictlySortedBy
sorted_none = tt

sorted_laid : (t : Table) (edits : List Edit) → IsStrictlySortedBy key_cmp (keys_of t) → IsStrictlySortedBy key_cmp (keys_of (laid t edits))
sorted_laid t [] sorted = sorted
sorted_laid t (edit ∷ edits) sorted = sorted_laid (edited t edit) edits (sorted_edit edit.0 edit.1 t sorted)

pub table_ascends : (changes : List Change) (s : ℕ) → IsStrictlySortedBy key_cmp (keys_of (table changes s))
table_ascends changes s = sorted_laid [] (map (λ (change : Change). change.edit) (until s changes)) sorted_none

-- ---- each key's last change

laid_by : (key : Key) (changes : List Change) (t : Table) (last : Option Change) → IsStrictlySortedBy key_cmp (keys_of t) → lookup (is_at (key_cmp key)) t ≡ made last
    → lookup (is_at (key_cmp key)) (laid t (map (λ (change : Change). change.edit) changes)) ≡ made (fold (λ found (change : Change). cond (same_key key change.edit.0) (Some change) found) last changes)
laid_by key [] t last sorted e = e
laid_by key (change ∷ changes) t last sorted e =
    laid_by key changes (edited t change.edit) (cond (same_key key change.edit.0) (Some change) last) (sorted_edit change.edit.0 change.edit.1 t sorted)
    (edited_is key change.edit.0 change.edit.1 t sorted ∙ at (same_key key change.edit.0))
  where
    at : (t' : Bool) → cond t' change.edit.1 (lookup (is_at (key_cmp key)) t) ≡ made (cond t' (Some change) last)
    at true = refl
    at false = e

pub row_is : (changes : List Change) (s : ℕ) (key : Key) → lookup (is_at (key_cmp key)) (table changes s) ≡ made (last_change key s changes)
row_is changes s key = laid_by key (until s changes) [] None sorted_none refl
