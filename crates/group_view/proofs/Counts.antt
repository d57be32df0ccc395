-- Counts of keys, and rows that are laid over a table one by one.
use Rattle.std.proofs.Common.{◌≡◌, ℕ, ◌≤◌, ◌+◌, Bool, true, false, ◌&&◌, cond, List, [], ◌∷◌, ◌++◌, map, filter, refl, ap, arith}
use Rattle.std.specs.declared.cmp.Ordering.{Ordering}
use Rattle.std.specs.declared.cmp.Ordering.TheVariants.{Less, Equal, Greater}
use Rattle.std.specs.Ordering.{match_ordering, is_eq}
use Rattle.std.specs.BTreeMap.{insert_entry}
use Rattle.std.specs.List.{AllByRecursion}
use Rattle.std.specs.List.Sorted.{IsPermutation}
use Rattle.std.proofs.lemmas.List.Sorted.{IsPermutation-append_right, IsPermutation-cons, IsPermutation-middle, IsPermutation-refl, IsPermutation-sym, IsPermutation-trans}
use Rattle.cs_types.specs.declared.Key.{Key}
use Rattle.cs_types.specs.declared.Value.{Value}
use Rattle.cs_types.specs.Keys.{key_cmp, same_key}
use Rattle.cs_model.specs.Changes.{Table, edited, laid}
use Rattle.group_book.specs.Book.{how_many}
use Rattle.group_book.proofs.Keys.{key_itself}
use Rattle.group_book.proofs.Move.{how_many-permutation}
use Rattle.group_view.specs.Parts.{Rowed}
use Rattle.group_view.specs.Views.{shown_edit}
use Rattle.group_view.specs.Laws.{shown_row}

and_true : (t : Bool) → (t && true) ≡ t
and_true true = refl
and_true false = refl

and_false : (t : Bool) → (t && false) ≡ false
and_false true = refl
and_false false = refl

-- a count over what a test keeps
pub how_many-filter : {X : Type 0} (p q : X → Bool) (xs : List X) → how_many p (filter q xs) ≡ how_many (λ x. p x && q x) xs
how_many-filter p q [] = refl
how_many-filter p q (x ∷ xs) = step (q x) (how_many-filter p q xs)
  where
    step : (t : Bool) → how_many p (filter q xs) ≡ how_many (λ y. p y && q y) xs → how_many p (cond t (x ∷ filter q xs) (filter q xs)) ≡ cond (p x && t) 1 0 + how_many (λ y. p y && q y) xs
    step true rest = rw (and_true (p x), rest) refl
    step false rest = rw (and_false (p x), rest) (omega arith)

pub recursion-map : {X Y : Type 0} (P : Y → Type 0) (f : X → Y) (xs : List X) → AllByRecursion P (map f xs) → AllByRecursion (λ x. P (f x)) xs
recursion-map P f [] all = tt
recursion-map P f (x ∷ xs) all = (all.0, recursion-map P f xs all.1)

-- ---- rows laid over a table

abbrev pub in_table : Key → Table → ℕ
in_table key rows = how_many (λ (entry : Key × List Value). same_key key entry.0) rows

module _ (key : Key) (row : List Value) where
  put_step : (entry : Key × List Value) (rows : Table) (order : Ordering) → key_cmp key entry.0 ≡ order → cond (is_eq order) 1 0 + in_table key rows ≡ 0
      → (in_table key rows ≡ 0 → IsPermutation ((key, row) ∷ rows) (insert_entry key_cmp rows key row))
      → IsPermutation ((key, row) ∷ entry ∷ rows) (match_ordering order ((key, row) ∷ entry ∷ rows) ((entry.0, row) ∷ rows) (entry ∷ insert_entry key_cmp rows key row))
  put_step entry rows Less is none rest = IsPermutation-refl ((key, row) ∷ entry ∷ rows)
  put_step entry rows Equal is none rest = absurd (omega (arith, none))
  put_step entry rows Greater is none rest =
      IsPermutation-trans ((key, row) ∷ entry ∷ rows) (entry ∷ (key, row) ∷ rows) (entry ∷ insert_entry key_cmp rows key row)
      (IsPermutation-sym (entry ∷ (key, row) ∷ rows) ((key, row) ∷ entry ∷ rows) (IsPermutation-middle (entry ∷ []) (key, row) rows))
      (IsPermutation-cons entry ((key, row) ∷ rows) (insert_entry key_cmp rows key row) (rest (omega (arith, none))))

  -- a row of a key that is not there comes in at its place
  put_in : (rows : Table) → in_table key rows ≡ 0 → IsPermutation ((key, row) ∷ rows) (insert_entry key_cmp rows key row)
  put_in [] none = IsPermutation-refl ((key, row) ∷ [])
  put_in (entry ∷ rows) none = put_step entry rows (key_cmp key entry.0) refl none (put_in rows)

abbrev pub in_versions : Key → List Rowed → ℕ
in_versions key versions = how_many (λ (rowed : Rowed). same_key key rowed.version.key) versions

-- rows of keys that differ, and that the table has not, come in each at its place
pub laid_in : (width : ℕ) (versions : List Rowed) (rows : Table) → ((key : Key) → in_versions key versions + in_table key rows ≤ 1) → IsPermutation (map (shown_row width) versions ++ rows) (laid rows (map (shown_edit width) versions))
laid_in width [] rows once = IsPermutation-refl rows
laid_in width (x ∷ versions) rows once =
    let here = shown_row width x in
    let put = edited rows (shown_edit width x) in
    let one : Bool → ℕ = λ t. cond t 1 0 in
    let own = ap one (key_itself x.version.key) in
    let moved : IsPermutation (here ∷ rows) put = put_in here.0 here.1 rows (omega (arith, once x.version.key, own)) in
    IsPermutation-trans (here ∷ (map (shown_row width) versions ++ rows)) (map (shown_row width) versions ++ (here ∷ rows)) (laid put (map (shown_edit width) versions))
    (IsPermutation-sym (map (shown_row width) versions ++ (here ∷ rows)) (here ∷ (map (shown_row width) versions ++ rows)) (IsPermutation-middle (map (shown_row width) versions) here rows))
    (IsPermutation-trans (map (shown_row width) versions ++ (here ∷ rows)) (map (shown_row width) versions ++ put) (laid put (map (shown_edit width) versions))
    (IsPermutation-append_right (map (shown_row width) versions) (here ∷ rows) put moved)
    (laid_in width versions put (λ key.
    let before = once key in
    let same = how_many-permutation (λ (entry : Key × List Value). same_key key entry.0) (here ∷ rows) put moved in
    omega (arith, before, same))))
