-- One more row in the groups.
use Rattle.std.proofs.Common.{◌≡◌, ℕ, append-nil, Bool, true, false, cond, ◌||◌, List, [], ◌∷◌, ◌++◌, map, filter, fold, refl, sym, ap, subst, ◌∙◌, inl, inr, true≢false}
use Rattle.std.specs.List.{list_any}
use Rattle.std.proofs.lemmas.Bool.{cond-true, cond-false, cases_Bool}
use Rattle.std.proofs.lemmas.List.{map-append}
use Rattle.std.proofs.lemmas.List.Elements.{filter-append}
use Rattle.std.proofs.lemmas.List.Folds.{list_any-append}
use Rattle.std.proofs.lemmas.List.Sums.{fold_push}
use Rattle.cs_types.specs.declared.Value.{Value}
use Rattle.cs_model.specs.Groups.{Group, cells_of, same_cells, each_once, gathered, groups_of}
use Rattle.answer_laws.proofs.Gathered.{same-is, same-itself, same-turned, with_cells, any-with, or-end, having, group_at}

-- the groups with one more row, which has these cells
abbrev pub with_group : List Value → List Value → List Group → List Group
with_group cells row [] = (cells, row ∷ []) ∷ []
with_group cells row (g ∷ gs) = cond (same_cells cells g.0) ((g.0, g.1 ++ row ∷ []) ∷ gs) (g ∷ with_group cells row gs)

-- no list of cells is there twice
abbrev pub Once : List (List Value) → Type 0
Once [] = Unit {0}
Once (k ∷ ks) = (list_any (same_cells k) ks ≡ false) × Once ks

pub or_false : (a b : Bool) → (a || b) ≡ false → (a ≡ false) × (b ≡ false)
or_false false b h = (refl, h)
or_false true b h = absurd (true≢false h)

pub both_false : (a b : Bool) → a ≡ false → b ≡ false → (a || b) ≡ false
both_false a b h g = cc

Once-push : (ks : List (List Value)) (k : List Value) → Once ks → list_any (same_cells k) ks ≡ false → Once (ks ++ k ∷ [])
Once-push [] k o n = (refl, tt)
Once-push (j ∷ ks) k o n =
    let parts = or_false (same_cells k j) (list_any (same_cells k) ks) n in (
      list_any-append (same_cells j) ks (k ∷ []) ∙ both_false _ _ o.0 (both_false (same_cells j k) false (same-turned k j false parts.0) refl),
      Once-push ks k o.1 parts.1,
    )

Once-with : (ks : List (List Value)) (k : List Value) → Once ks → Once (with_cells ks k)
Once-with ks k o = elim (cases_Bool (list_any (same_cells k) ks)) [
  | inl t ↦ subst Once (sym (cond-true _ _ _ t)) o
  | inr f ↦ subst Once (sym (cond-false _ _ _ f)) (Once-push ks k o f)
]

pub Once-fold : (found xs : List (List Value)) → Once found → Once (fold with_cells found xs)
Once-fold found [] o = o
Once-fold found (x ∷ xs) o = Once-fold (with_cells found x) xs (Once-with found x o)

-- each list of cells is found among those that are there once
any-fold : (k : List Value) (found xs : List (List Value)) → list_any (same_cells k) (fold with_cells found xs) ≡ (list_any (same_cells k) found || list_any (same_cells k) xs)
any-fold k found [] = sym (or-end (list_any (same_cells k) found))
any-fold k found (x ∷ xs) = any-fold k (with_cells found x) xs ∙ any-with k found x (list_any (same_cells k) xs)

module _ (columns : List ℕ) where
  none_having : (k : List Value) (rows : List (List Value)) → list_any (same_cells k) (map (cells_of columns) rows) ≡ false → filter (having columns k) rows ≡ []
  none_having k [] n = refl
  none_having k (row ∷ rows) n =
      let parts = or_false (same_cells k (cells_of columns row)) (list_any (same_cells k) (map (cells_of columns) rows)) n in
      cond-false _ _ _ (same-turned k (cells_of columns row) false parts.0) ∙ none_having k rows parts.1

  module _ (rows : List (List Value)) (row : List Value) where
    one_more : (k : List Value) → same_cells (cells_of columns row) k ≡ true → filter (having columns k) (rows ++ row ∷ []) ≡ filter (having columns k) rows ++ row ∷ []
    one_more k t = filter-append (having columns k) rows (row ∷ []) ∙ ap (λ l. filter (having columns k) rows ++ l) (cond-true _ _ _ t)

    no_more : (k : List Value) → same_cells (cells_of columns row) k ≡ false → filter (having columns k) (rows ++ row ∷ []) ≡ filter (having columns k) rows
    no_more k f = filter-append (having columns k) rows (row ∷ []) ∙ ap (λ l. filter (having columns k) rows ++ l) (cond-false _ _ _ f) ∙ append-nil (filter (having columns k) rows)

    same_groups : (ks : List (List Value)) → list_any (same_cells (cells_of columns row)) ks ≡ false → map (group_at columns (rows ++ row ∷ [])) ks ≡ map (group_at columns rows) ks
    same_groups [] n = refl
    same_groups (k ∷ ks) n =
        let parts = or_false (same_cells (cells_of columns row) k) (list_any (same_cells (cells_of columns row)) ks) n in
        ap (λ rs. (k, rs) ∷ map (group_at columns (rows ++ row ∷ [])) ks) (no_more k parts.0) ∙ ap (λ gs. group_at columns rows k ∷ gs) (same_groups ks parts.1)

    to_known : (ks : List (List Value)) → Once ks → list_any (same_cells (cells_of columns row)) ks ≡ true → map (group_at columns (rows ++ row ∷ [])) ks ≡ with_group (cells_of columns row) row (map (group_at columns rows) ks)
    to_known [] o h = absurd (true≢false (sym h))
    to_known (k ∷ ks) o h = elim (cases_Bool (same_cells (cells_of columns row) k)) [
      | inl t ↦
          ap (λ rs. (k, rs) ∷ map (group_at columns (rows ++ row ∷ [])) ks) (one_more k t)
          ∙ ap (λ gs. (k, filter (having columns k) rows ++ row ∷ []) ∷ gs) (same_groups ks (subst (λ y. list_any (same_cells y) ks ≡ false) (sym (same-is (cells_of columns row) k t)) o.0))
          ∙ sym (cond-true _ _ _ t)
      | inr f ↦
          ap (λ rs. (k, rs) ∷ map (group_at columns (rows ++ row ∷ [])) ks) (no_more k f)
          ∙ ap (λ gs. group_at columns rows k ∷ gs) (to_known ks o.1 (subst (λ b. (b || list_any (same_cells (cells_of columns row)) ks) ≡ true) f h))
          ∙ sym (cond-false _ _ _ f)
    ]

    to_new : (ks : List (List Value)) → list_any (same_cells (cells_of columns row)) ks ≡ false → filter (having columns (cells_of columns row)) rows ≡ [] → map (group_at columns (rows ++ row ∷ [])) (ks ++ cells_of columns row ∷ []) ≡ with_group (cells_of columns row) row (map (group_at columns rows) ks)
    to_new [] n e = ap (λ rs. (cells_of columns row, rs) ∷ []) (one_more (cells_of columns row) (same-itself (cells_of columns row)) ∙ ap (λ rs. rs ++ row ∷ []) e)
    to_new (k ∷ ks) n e =
        let parts = or_false (same_cells (cells_of columns row) k) (list_any (same_cells (cells_of columns row)) ks) n in
        ap (λ rs. (k, rs) ∷ map (group_at columns (rows ++ row ∷ [])) (ks ++ cells_of columns row ∷ [])) (no_more k parts.0)
        ∙ ap (λ gs. group_at columns rows k ∷ gs) (to_new ks parts.1 e)
        ∙ sym (cond-false _ _ _ parts.0)

    gathered-more : gathered columns (rows ++ row ∷ []) ≡ with_group (cells_of columns row) row (gathered columns rows)
    gathered-more =
        let before = each_once (map (cells_of columns) rows) in
        let after : each_once (map (cells_of columns) (rows ++ row ∷ [])) ≡ with_cells before (cells_of columns row) =
        ap each_once (map-append (cells_of columns) rows (row ∷ [])) ∙ fold_push with_cells [] (map (cells_of columns) rows) (cells_of columns row) in
        ap (map (group_at columns (rows ++ row ∷ []))) after
        ∙ elim (cases_Bool (list_any (same_cells (cells_of columns row)) before)) [
          | inl t ↦ ap (map (group_at columns (rows ++ row ∷ []))) (cond-true _ _ _ t) ∙ to_known before (Once-fold [] (map (cells_of columns) rows) tt) t
          | inr f ↦
              ap (map (group_at columns (rows ++ row ∷ []))) (cond-false _ _ _ f)
              ∙ to_new before f (none_having (cells_of columns row) rows (sym (any-fold (cells_of columns row) [] (map (cells_of columns) rows)) ∙ f))
        ]

-- the groups of one more row
pub groups-more : (columns : List ℕ) (rows : List (List Value)) (row : List Value) → groups_of columns (rows ++ row ∷ []) ≡ with_group (cells_of columns row) row (groups_of columns rows)
groups-more [] rows row = refl
groups-more (column ∷ columns) rows row = gathered-more (column ∷ columns) rows row
