-- Two partial answers in one, and the rows of the groups.
use Rattle.std.proofs.Common.{◌≡◌, ℕ, List, [], ◌∷◌, ◌++◌, append_assoc, append-nil, length, map, refl, sym, ap, subst, ◌∙◌, inl, inr, All}
use Rattle.std.specs.List.Sorted.{IsPermutation}
use Rattle.std.proofs.lemmas.Bool.{cond-true, cond-false, cases_Bool}
use Rattle.std.proofs.lemmas.List.{length-map}
use Rattle.std.proofs.lemmas.List.Elements.{All-nil, All-cons, All-head, All-tail, All-push, All-map}
use Rattle.std.proofs.lemmas.List.Sorted.{IsPermutation-refl, IsPermutation-trans, IsPermutation-sym, IsPermutation-cons, IsPermutation-append_left, IsPermutation-append_right, IsPermutation-append_comm, IsPermutation-middle, IsPermutation-to_front, All-permutation}
use Rattle.cs_types.specs.declared.Value.{Value}
use Rattle.cs_types.specs.Rows.{cell_at}
use Rattle.cs_model.specs.declared.plan.Query.{Query}
use Rattle.cs_model.specs.Groups.{Group, cells_of, same_cells, groups_of}
use Rattle.answer_laws.proofs.Gathered.{same-is}
use Rattle.answer_laws.proofs.Moves.{by_moves, flipped}
use Rattle.batch_aggregate.specs.Tallies.{tally_of}
use Rattle.batch_aggregate.specs.Standing.{Entry, entry_of, entries_of, with_tallies, merged}
use Rattle.batch_aggregate.proofs.Gathered.{with_group, groups-more}
use Rattle.batch_aggregate.proofs.Bags.{AllHave, bag-further, entries-moved}

-- what a function makes of a list, in another order, it makes of the list in another order
mapped_back : {X Y : Type 0} (f : X → Y) (gs : List X) (fs : List Y) → IsPermutation (map f gs) fs → (hs : List X) × IsPermutation gs hs × (map f hs ≡ fs)
mapped_back {X} {Y} f gs fs moved =
    by_moves (λ us vs. (gs : List X) → map f gs ≡ us → (hs : List X) × IsPermutation gs hs × (map f hs ≡ vs))
    (λ us gs e. (gs, IsPermutation-refl gs, e))
    (λ us vs ws h k gs e. let a = h gs e in let b = k a.0 a.2 in (b.0, IsPermutation-trans _ _ _ a.1 b.1, b.2))
    (λ x us vs h gs e. under x us vs h gs e)
    (λ x y us gs e. flip x y us gs e)
    (map f gs) fs moved gs refl
  where
    under : (x : Y) (us vs : List Y) → ((gs : List X) → map f gs ≡ us → (hs : List X) × IsPermutation gs hs × (map f hs ≡ vs)) → (gs : List X) → map f gs ≡ x ∷ us → (hs : List X) × IsPermutation gs hs × (map f hs ≡ x ∷ vs)
    under x us vs h [] e = cc
    under x us vs h (g ∷ gs) e =
        let a = h gs (cc) in
        let first : f g ≡ x = cc in
        (g ∷ a.0, IsPermutation-cons g gs a.0 a.1, ap (λ v. v ∷ map f a.0) first ∙ ap (λ l. x ∷ l) a.2)

    flip : (x y : Y) (us : List Y) (gs : List X) → map f gs ≡ x ∷ y ∷ us → (hs : List X) × IsPermutation gs hs × (map f hs ≡ y ∷ x ∷ us)
    flip x y us [] e = cc
    flip x y us (g ∷ []) e = cc
    flip x y us (g ∷ h ∷ gs) e =
        let first : f g ≡ x = cc in
        let second : f h ≡ y = cc in
        let rest : map f gs ≡ us = cc in
        (h ∷ g ∷ gs, flipped g h gs, ap (λ v. v ∷ f g ∷ map f gs) second ∙ ap (λ v. y ∷ v ∷ map f gs) first ∙ ap (λ l. y ∷ x ∷ l) rest)

-- the rows of groups, one group after another
abbrev rows_in : List Group → List (List Value)
rows_in [] = []
rows_in (g ∷ gs) = g.1 ++ rows_in gs

-- what holds of no rows, and with one row more, holds of all rows
by_rows : (P : List (List Value) → Type 0) → P [] → ((rows : List (List Value)) (row : List Value) → P rows → P (rows ++ row ∷ [])) → (rows : List (List Value)) → P rows
by_rows P none more rows = go [] rows none
  where
    go : (done rest : List (List Value)) → P done → P (done ++ rest)
    go done [] h = subst P (sym (append-nil done)) h
    go done (row ∷ rest) h = subst P (append_assoc done (row ∷ []) rest) (go (done ++ row ∷ []) rest (more done row h))

rows-with : (cells row : List Value) (gs : List Group) → IsPermutation (row ∷ rows_in gs) (rows_in (with_group cells row gs))
rows-with cells row [] = IsPermutation-refl (row ∷ [])
rows-with cells row (g ∷ gs) = elim (cases_Bool (same_cells cells g.0)) [
  | inl t ↦
      subst (λ l. IsPermutation (row ∷ rows_in (g ∷ gs)) (rows_in l)) (sym (cond-true _ _ _ t))
      (subst (IsPermutation (row ∷ rows_in (g ∷ gs))) (sym (append_assoc g.1 (row ∷ []) (rows_in gs))) (IsPermutation-sym _ _ (IsPermutation-middle g.1 row (rows_in gs))))
  | inr f ↦
      subst (λ l. IsPermutation (row ∷ rows_in (g ∷ gs)) (rows_in l)) (sym (cond-false _ _ _ f))
      (IsPermutation-trans _ _ _ (IsPermutation-sym _ _ (IsPermutation-middle g.1 row (rows_in gs))) (IsPermutation-append_right g.1 _ _ (rows-with cells row gs)))
]

-- the rows, group by group, are the rows in another order
regrouped : (columns : List ℕ) (rows : List (List Value)) → IsPermutation rows (rows_in (groups_of columns rows))
regrouped columns = by_rows (λ rows. IsPermutation rows (rows_in (groups_of columns rows))) (none columns)
    (λ rows row h. subst (λ gs. IsPermutation (rows ++ row ∷ []) (rows_in gs)) (sym (groups-more columns rows row))
    (IsPermutation-trans _ _ _ (IsPermutation-to_front rows row) (IsPermutation-trans _ _ _ (IsPermutation-cons row _ _ h) (rows-with (cells_of columns row) row (groups_of columns rows)))))
  where
    none : (columns : List ℕ) → IsPermutation [] (rows_in (groups_of columns []))
    none [] = IsPermutation-refl []
    none (column ∷ columns) = IsPermutation-refl []

rows_in-moved : (gs hs : List Group) → IsPermutation gs hs → IsPermutation (rows_in gs) (rows_in hs)
rows_in-moved = by_moves (λ gs hs. IsPermutation (rows_in gs) (rows_in hs))
    (λ gs. IsPermutation-refl (rows_in gs))
    (λ gs hs ks a b. IsPermutation-trans _ _ _ a b)
    (λ g gs hs a. IsPermutation-append_right g.1 _ _ a)
    (λ g h gs.
    subst (IsPermutation (g.1 ++ (h.1 ++ rows_in gs))) (append_assoc h.1 g.1 (rows_in gs))
    (subst (λ l. IsPermutation l ((h.1 ++ g.1) ++ rows_in gs)) (append_assoc g.1 h.1 (rows_in gs)) (IsPermutation-append_left (rows_in gs) _ _ (IsPermutation-append_comm g.1 h.1))))

-- the rows of a group have its cells; without rows there is only the group of a query without grouping columns
abbrev pub IsGroup : List ℕ → Group → Type 0
IsGroup columns g = AllHave columns g.0 g.1 × (g.1 ≡ [] → (columns ≡ []) × (g.0 ≡ []))

not_none : (rows : List (List Value)) (row : List Value) → rows ++ row ∷ [] ≡ [] → ⊥
not_none [] row e = cc
not_none (r ∷ rows) row e = cc

module _ (columns : List ℕ) where
  abbrev Has : List Value → List Value → Type 0
  Has cells row = cells_of columns row ≡ cells

  are_with : (row : List Value) (gs : List Group) → All (IsGroup columns) gs → All (IsGroup columns) (with_group (cells_of columns row) row gs)
  are_with row [] all = All-cons (IsGroup columns) _ [] (All-cons (Has (cells_of columns row)) row [] refl (All-nil (Has (cells_of columns row))), λ e. absurd (not_none [] row e)) (All-nil (IsGroup columns))
  are_with row (g ∷ gs) all = elim (cases_Bool (same_cells (cells_of columns row) g.0)) [
    | inl t ↦ subst (All (IsGroup columns)) (sym (cond-true _ _ _ t))
        (All-cons (IsGroup columns) _ gs (All-push (Has g.0) g.1 row (All-head (IsGroup columns) g gs all).0 (same-is (cells_of columns row) g.0 t), λ e. absurd (not_none g.1 row e)) (All-tail (IsGroup columns) g gs all))
    | inr f ↦ subst (All (IsGroup columns)) (sym (cond-false _ _ _ f)) (All-cons (IsGroup columns) g _ (All-head (IsGroup columns) g gs all) (are_with row gs (All-tail (IsGroup columns) g gs all)))
  ]

are_groups : (columns : List ℕ) (rows : List (List Value)) → All (IsGroup columns) (groups_of columns rows)
are_groups columns = by_rows (λ rows. All (IsGroup columns) (groups_of columns rows)) (none columns)
    (λ rows row h. subst (All (IsGroup columns)) (sym (groups-more columns rows row)) (are_with columns row (groups_of columns rows) h))
  where
    none : (columns : List ℕ) → All (IsGroup columns) (groups_of columns [])
    none [] = All-cons (IsGroup []) _ [] (All-nil (λ row. cells_of [] row ≡ []), λ e. (refl, refl)) (All-nil (IsGroup []))
    none (column ∷ columns) = All-nil (IsGroup (column ∷ columns))

pub as_wide : (columns : List ℕ) (g : Group) → IsGroup columns g → length g.0 ≡ length columns
as_wide columns (cells, []) group = ap length (group.1 refl).1 ∙ sym (ap length (group.1 refl).0)
as_wide columns (cells, row ∷ rows) group =
    sym (ap length (All-head (λ row. cells_of columns row ≡ cells) row rows group.0)) ∙ length-map columns (cell_at row)

-- the cells of an entry are as many as the grouping columns
pub entries-wide : (query : Query) (rows : List (List Value)) (entries : List Entry) → IsPermutation (entries_of query rows) entries → All (λ (e : Entry). length e.0 ≡ length query.groups) entries
entries-wide query rows entries moved =
    All-permutation (λ (e : Entry). length e.0 ≡ length query.groups) (entries_of query rows) entries moved
    (All-map (λ (e : Entry). length e.0 ≡ length query.groups) (entry_of query.items) (groups_of query.groups rows)
    (λ k d l. as_wide query.groups _ (are_groups query.groups rows k d l)))

module _ (query : Query) where
  -- groups that come in one after another
  bag-groups : (gs : List Group) (rows : List (List Value)) (entries : List Entry) → All (IsGroup query.groups) gs → IsPermutation (entries_of query rows) entries
      → IsPermutation (entries_of query (rows ++ rows_in gs)) (merged entries (map (entry_of query.items) gs))
  bag-groups [] rows entries all moved = subst (λ l. IsPermutation (entries_of query l) entries) (sym (append-nil rows)) moved
  bag-groups (g ∷ gs) rows entries all moved =
      let one = All-head (IsGroup query.groups) g gs all in
      subst (λ l. IsPermutation (entries_of query l) (merged entries (map (entry_of query.items) (g ∷ gs)))) (append_assoc rows g.1 (rows_in gs))
      (bag-groups gs (rows ++ g.1) (with_tallies g.0 (map (tally_of g.1) query.items) entries) (All-tail (IsGroup query.groups) g gs all) (bag-further query g.0 rows g.1 entries one.0 one.1 moved))

  -- the entries of two lists of rows, each in any order, make the entries of both
  pub bag-merged : (xs ys : List (List Value)) (es fs : List Entry) → IsPermutation (entries_of query xs) es → IsPermutation (entries_of query ys) fs → IsPermutation (entries_of query (xs ++ ys)) (merged es fs)
  bag-merged xs ys es fs left right =
      let gs = groups_of query.groups ys in
      let (hs, moved, is) = mapped_back (entry_of query.items) gs fs right in
      let good = All-permutation (IsGroup query.groups) gs hs moved (are_groups query.groups ys) in
      let same = IsPermutation-trans _ _ _ (regrouped query.groups ys) (rows_in-moved gs hs moved) in
      IsPermutation-trans _ _ _ (entries-moved query (xs ++ ys) (xs ++ rows_in hs) (IsPermutation-append_right xs _ _ same))
      (subst (λ l. IsPermutation (entries_of query (xs ++ rows_in hs)) (merged es l)) is (bag-groups hs xs es good left))
