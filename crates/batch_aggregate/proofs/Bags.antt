-- Entries in any order, and further rows of one group in them.
use Rattle.std.proofs.Common.{◌≡◌, ℕ, Bool, true, false, cond, List, [], ◌∷◌, ◌++◌, append_assoc, append-nil, map, map-id, All, refl, sym, ap, subst, ◌∙◌, inl, inr, true≢false}
use Rattle.std.specs.List.{list_any}
use Rattle.std.specs.List.Sorted.{IsPermutation}
use Rattle.std.proofs.lemmas.Bool.{cond-true, cond-false, cases_Bool}
use Rattle.std.proofs.lemmas.List.Elements.{All-head, All-tail}
use Rattle.std.proofs.lemmas.List.Sorted.{IsPermutation-refl, IsPermutation-trans, IsPermutation-cons, IsPermutation-map, list_any-IsPermutation}
use Rattle.cs_types.specs.declared.Schema.{Schema}
use Rattle.cs_types.specs.declared.Value.{Value}
use Rattle.cs_model.specs.declared.plan.Item.{Item}
use Rattle.cs_model.specs.declared.plan.Query.{Query}
use Rattle.cs_model.specs.Queries.{group_order, answer_rows, grouped_answer}
use Rattle.cs_model.specs.Groups.{Group, cells_of, same_cells, each_once, gathered, groups_of}
use Rattle.cs_model.specs.Order.{comes_before}
use Rattle.answer_laws.proofs.Answered.{told_tied, map-map}
use Rattle.answer_laws.proofs.Gathered.{same-is, same-itself, same-turned, group_at}
use Rattle.answer_laws.proofs.Moves.{by_permuted, flipped}
use Rattle.answer_laws.proofs.Once.{told, groups-moved}
use Rattle.answer_laws.proofs.Orders.{before_by}
use Rattle.answer_laws.proofs.Sorts.{in_order-moved}
use Rattle.batch_aggregate.specs.declared.tally.Tally.{Tally}
use Rattle.batch_aggregate.specs.Tallies.{tally_of, all_joined}
use Rattle.batch_aggregate.specs.Standing.{Entry, entry_of, entries_of, with_tallies, entry_row, answer_of}
use Rattle.batch_aggregate.proofs.Gathered.{Once, Once-fold, with_group, groups-more, or_false, both_false}
use Rattle.batch_aggregate.proofs.ShownLemmas.{entries-shown}
use Rattle.batch_aggregate.proofs.TallyLemmas.{tallies-append, tallies-moved}

-- ---- the answer from entries in any order

abbrev tallied : Query → Group → List Tally
tallied query g = map (tally_of g.1) query.items

pub entries-moved : (query : Query) (xs ys : List (List Value)) → IsPermutation xs ys → IsPermutation (entries_of query xs) (entries_of query ys)
entries-moved query = groups-moved (tallied query) (λ cells xs ys moved. tallies-moved xs ys moved query.items) query.groups

pub bag-shown : (schema : Schema) (query : Query) (rows : List (List Value)) (entries : List Entry) → IsPermutation (entries_of query rows) entries → answer_of schema query entries ≡ grouped_answer schema query rows
bag-shown schema query rows entries moved =
    ap (λ l. answer_rows 1 (map (entry_row schema query) l))
    (sym (in_order-moved (λ a b. comes_before (group_order query) a.0 b.0) (before_by (group_order query) (λ e. e.0)) (entries_of query rows) entries moved (told_tied (tallied query) query.order query.groups rows)))
    ∙ entries-shown schema query rows

-- ---- no cells twice

Once-moved : (ks js : List (List Value)) → IsPermutation ks js → Once ks → Once js
Once-moved = by_permuted (λ ks js. Once ks → Once js)
    (λ ks o. o)
    (λ ks js ls a b h k o. k (h o))
    (λ x ks js a h o. (sym (list_any-IsPermutation (same_cells x) ks js a) ∙ o.0, h o.1))
    (λ x y ks o.
    let parts = or_false (same_cells x y) (list_any (same_cells x) ks) o.0 in
    (both_false _ _ (same-turned x y false parts.0) o.1.0, (parts.1, o.1.1)))

abbrev cells_in : List Entry → List (List Value)
cells_in es = map (λ (e : Entry). e.0) es

Once-entries : (query : Query) (rows : List (List Value)) → Once (cells_in (entries_of query rows))
Once-entries query rows = go query.groups
  where
    go : (columns : List ℕ) → Once (cells_in (map (told (tallied query)) (groups_of columns rows)))
    go [] = (refl, tt)
    go (column ∷ columns) =
        let all = column ∷ columns in
        let ks = each_once (map (cells_of all) rows) in
        subst Once
        (sym (map-map (λ (e : Entry). e.0) (told (tallied query)) (λ (g : Group). g.0) (λ g. refl) (gathered all rows) ∙ map-map (λ (g : Group). g.0) (group_at all rows) (λ k. k) (λ k. refl) ks ∙ map-id ks))
        (Once-fold [] (map (cells_of all) rows) tt)

module _ (cells : List Value) (tallies : List Tally) where
  abbrev taken : List Entry → List Entry
  taken = with_tallies cells tallies

  -- an entry that has the cells or has not, before others that are as they were or have taken the tallies
  abbrev first_or : Bool → Entry → List Entry → List Entry → List Entry
  first_or b e es changed = cond b ((e.0, all_joined e.1 tallies) ∷ es) (e ∷ changed)

  under : (b : Bool) (e : Entry) (us vs : List Entry) → IsPermutation us vs → IsPermutation (taken us) (taken vs) → IsPermutation (first_or b e us (taken us)) (first_or b e vs (taken vs))
  under true e us vs a h = IsPermutation-cons (e.0, all_joined e.1 tallies) us vs a
  under false e us vs a h = IsPermutation-cons e (taken us) (taken vs) h

  flip : (b c : Bool) (d e : Entry) (us : List Entry) → (b ≡ true → c ≡ true → ⊥)
      → IsPermutation (first_or b d (e ∷ us) (first_or c e us (taken us))) (first_or c e (d ∷ us) (first_or b d us (taken us)))
  flip true true d e us apart = absurd (apart refl refl)
  flip true false d e us apart = flipped (d.0, all_joined d.1 tallies) e us
  flip false true d e us apart = flipped d (e.0, all_joined e.1 tallies) us
  flip false false d e us apart = flipped d e (taken us)

  taken-moved : (es fs : List Entry) → IsPermutation es fs → Once (cells_in es) → IsPermutation (taken es) (taken fs)
  taken-moved = by_permuted (λ es fs. Once (cells_in es) → IsPermutation (taken es) (taken fs))
      (λ es o. IsPermutation-refl (taken es))
      (λ es fs gs a b h k o. IsPermutation-trans _ _ _ (h o) (k (Once-moved _ _ (IsPermutation-map (λ (e : Entry). e.0) es fs a) o)))
      (λ e es fs a h o. under (same_cells cells e.0) e es fs a (h o.1))
      (λ d e es o. flip (same_cells cells d.0) (same_cells cells e.0) d e es (λ t u.
      let parts = or_false (same_cells d.0 e.0) (list_any (same_cells d.0) (cells_in es)) o.0 in
      true≢false (sym (subst (λ k. same_cells k e.0 ≡ true) (same-is cells d.0 t) u) ∙ parts.0)))

-- ---- further rows of one group

-- the groups with further rows, which have these cells
abbrev with_rows : List Value → List (List Value) → List Group → List Group
with_rows cells more [] = (cells, more) ∷ []
with_rows cells more (g ∷ gs) = cond (same_cells cells g.0) ((g.0, g.1 ++ more) ∷ gs) (g ∷ with_rows cells more gs)

one_row : (cells row : List Value) (gs : List Group) → with_group cells row gs ≡ with_rows cells (row ∷ []) gs
one_row cells row [] = refl
one_row cells row (g ∷ gs) = ap (λ l. cond (same_cells cells g.0) ((g.0, g.1 ++ row ∷ []) ∷ gs) (g ∷ l)) (one_row cells row gs)

rows_after : (cells : List Value) (us vs : List (List Value)) (gs : List Group) → with_rows cells vs (with_rows cells us gs) ≡ with_rows cells (us ++ vs) gs
rows_after cells us vs [] = cond-true _ _ _ (same-itself cells)
rows_after cells us vs (g ∷ gs) = elim (cases_Bool (same_cells cells g.0)) [
  | inl t ↦
      ap (with_rows cells vs) (cond-true _ _ _ t) ∙ cond-true _ _ _ t ∙ ap (λ rs. (g.0, rs) ∷ gs) (append_assoc g.1 us vs)
      ∙ sym (cond-true _ _ _ t)
  | inr f ↦
      ap (with_rows cells vs) (cond-false _ _ _ f) ∙ cond-false _ _ _ f ∙ ap (λ l. g ∷ l) (rows_after cells us vs gs)
      ∙ sym (cond-false _ _ _ f)
]

-- all these rows have these cells
abbrev pub AllHave : List ℕ → List Value → List (List Value) → Type 0
AllHave columns cells = All (λ row. cells_of columns row ≡ cells)

module _ (columns : List ℕ) (cells : List Value) where
  abbrev Has : List Value → Type 0
  Has row = cells_of columns row ≡ cells

  one_further : (rows : List (List Value)) (row : List Value) → Has row → groups_of columns (rows ++ row ∷ []) ≡ with_rows cells (row ∷ []) (groups_of columns rows)
  one_further rows row has =
      groups-more columns rows row ∙ ap (λ k. with_group k row (groups_of columns rows)) has ∙ one_row cells row (groups_of columns rows)

  groups-further : (rows : List (List Value)) (row : List Value) (more : List (List Value)) → All Has (row ∷ more)
      → groups_of columns (rows ++ row ∷ more) ≡ with_rows cells (row ∷ more) (groups_of columns rows)
  groups-further rows row [] have = one_further rows row (All-head Has row [] have)
  groups-further rows row (next ∷ more) have =
      ap (groups_of columns) (sym (append_assoc rows (row ∷ []) (next ∷ more)))
      ∙ groups-further (rows ++ row ∷ []) next more (All-tail Has row (next ∷ more) have)
      ∙ ap (with_rows cells (next ∷ more)) (one_further rows row (All-head Has row (next ∷ more) have))
      ∙ rows_after cells (row ∷ []) (next ∷ more) (groups_of columns rows)

-- their entries have the tallies of those rows
entries-with_rows : (items : List Item) (cells : List Value) (more : List (List Value)) (gs : List Group) → map (entry_of items) (with_rows cells more gs) ≡ with_tallies cells (map (tally_of more) items) (map (entry_of items) gs)
entries-with_rows items cells more [] = refl
entries-with_rows items cells more (g ∷ gs) = elim (cases_Bool (same_cells cells g.0)) [
  | inl t ↦
      ap (map (entry_of items)) (cond-true _ _ _ t) ∙ ap (λ ts. (g.0, ts) ∷ map (entry_of items) gs) (sym (tallies-append g.1 more items))
      ∙ sym (cond-true _ _ _ t)
  | inr f ↦
      ap (map (entry_of items)) (cond-false _ _ _ f) ∙ ap (λ es. entry_of items g ∷ es) (entries-with_rows items cells more gs)
      ∙ sym (cond-false _ _ _ f)
]

entries-further : (query : Query) (cells : List Value) (rows more : List (List Value)) → AllHave query.groups cells more → (more ≡ [] → (query.groups ≡ []) × (cells ≡ []))
    → with_tallies cells (map (tally_of more) query.items) (entries_of query rows) ≡ entries_of query (rows ++ more)
entries-further query cells rows (row ∷ more) have some =
    sym (ap (map (entry_of query.items)) (groups-further query.groups cells rows row more have) ∙ entries-with_rows query.items cells (row ∷ more) (groups_of query.groups rows))
entries-further query cells rows [] have some =
    sym (entries-with_rows query.items cells [] (groups_of query.groups rows))
    ∙ ap (map (entry_of query.items)) (none query.groups (some refl).0 ∙ ap (groups_of query.groups) (sym (append-nil rows)))
  where
    none : (columns : List ℕ) → columns ≡ [] → with_rows cells [] (groups_of columns rows) ≡ groups_of columns rows
    none [] e = cond-true _ _ _ (subst (λ k. same_cells k [] ≡ true) (sym (some refl).1) (same-itself [])) ∙ ap (λ rs. ([], rs) ∷ []) (append-nil rows)
    none (column ∷ columns) e = cc

-- so in any order of the entries
pub bag-further : (query : Query) (cells : List Value) (rows more : List (List Value)) (entries : List Entry) → AllHave query.groups cells more → (more ≡ [] → (query.groups ≡ []) × (cells ≡ []))
    → IsPermutation (entries_of query rows) entries → IsPermutation (entries_of query (rows ++ more)) (with_tallies cells (map (tally_of more) query.items) entries)
bag-further query cells rows more entries have some moved =
    subst (λ l. IsPermutation l (with_tallies cells (map (tally_of more) query.items) entries)) (entries-further query cells rows more have some)
    (taken-moved cells (map (tally_of more) query.items) (entries_of query rows) entries moved (Once-entries query rows))
