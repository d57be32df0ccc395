-- Own writes laid over a table, and the rows that are read beside them.
use Rattle.std.proofs.Common.{◌≡◌, ℕ, Bool, true, false, not, ◌&&◌, ◌||◌, cond, List, [], ◌∷◌, ◌++◌, map, filter, refl, sym, ap, ◌∙◌, subst}
use Rattle.std.specs.Prelude.{Option, None, Some}
use Rattle.std.specs.declared.cmp.Ordering.{Ordering}
use Rattle.std.specs.declared.cmp.Ordering.TheVariants.{Less, Equal, Greater}
use Rattle.std.specs.Ordering.{is_eq, match_ordering, ordering_reverse}
use Rattle.std.specs.BTreeMap.{is_at, insert_entry}
use Rattle.std.specs.Map.{keys_of, remove_entry}
use Rattle.std.specs.Option.{option_map}
use Rattle.std.specs.List.{All, AllByRecursion, cons_option, filter_map}
use Rattle.std.specs.List.Sorted.{IsPermutation, IsStrictlySortedBy}
use Rattle.std.proofs.lemmas.List.{append-nil}
use Rattle.std.proofs.lemmas.List.Elements.{recursion_from_All}
use Rattle.std.proofs.lemmas.List.Sorted.{IsPermutation-cons, IsPermutation-middle, IsPermutation-refl, IsPermutation-sym, IsPermutation-trans}
use Rattle.cs_types.specs.declared.Key.{Key}
use Rattle.cs_types.specs.declared.Schema.{Schema}
use Rattle.cs_types.specs.declared.Value.{Value}
use Rattle.cs_types.specs.Keys.{key_cmp, same_key}
use Rattle.cs_types.proofs.KeyLemmas.{key_total, exact_key, one_key}
use Rattle.cs_model.specs.Changes.{Edit, Table, edited_by, edited, laid}
use Rattle.cs_model.specs.Held.{IsFit, IsFitTable}
use Rattle.cs_model.proofs.Tables.{sorted_put}
use Rattle.write_set.specs.declared.write.Write.{Write}
use Rattle.write_set.specs.Writes.{Ascend}
use Rattle.write_set.proofs.Puts.{head, tail}
use Rattle.edit_laws.specs.Edits.{edits_of, writes_key}
use Rattle.edit_laws.proofs.Rows.{laid_all}
use Rattle.edit_laws.proofs.Tables.{Ascends, laid_ascends}
use Rattle.answer_laws.proofs.Moves.{filter-moved}
use Rattle.group_view.specs.declared.view.Pinned.{Pinned}
use Rattle.group_view.specs.Parts.{Rowed}
use Rattle.group_view.specs.Views.{is_shown, rowed_of, shown, shown_edit, shown_table}
use Rattle.group_view.specs.Laws.{shown_row}
use Rattle.group_view.proofs.Tables.{shown_permuted}
use Rattle.row_work.specs.Reads.{own_row, read_by, read_row, rows_in, shown_by, HasSnapshot}

-- ---- keys

pub reversed : (o : Ordering) → is_eq (ordering_reverse o) ≡ is_eq o
reversed Less = refl
reversed Equal = refl
reversed Greater = refl

pub same_sym : (a b : Key) → same_key a b ≡ same_key b a
same_sym a b = ap is_eq (key_total.antisymm a b) ∙ reversed (key_cmp b a)

-- ---- tables that ascend

above_filter : {X : Type 0} (key : Key) (q : Key × X → Bool) (es : List (Key × X)) → AllByRecursion (λ y. key_cmp key y ≡ Less) (keys_of es) → AllByRecursion (λ y. key_cmp key y ≡ Less) (keys_of (filter q es))
above_filter key q [] all = tt
above_filter {X} key q (e ∷ es) all = step (q e) (above_filter key q es all.1)
  where
    step : (t : Bool) → AllByRecursion (λ y. key_cmp key y ≡ Less) (keys_of (filter q es)) → AllByRecursion (λ y. key_cmp key y ≡ Less) (keys_of (cond t (e ∷ filter q es) (filter q es)))
    step true rest = (all.0, rest)
    step false rest = rest

by_kept : {X : Type 0} (t : Bool) (e : Key × X) (es : List (Key × X)) → AllByRecursion (λ y. key_cmp e.0 y ≡ Less) (keys_of es) → Ascends es → Ascends (cond t (e ∷ es) es)
unfolding IsStrictlySortedBy
by_kept true e es above up = (above, up)
by_kept false e es above up = up

-- what a test keeps of entries whose keys ascend
pub ascends_filter : {X : Type 0} (q : Key × X → Bool) (es : List (Key × X)) → Ascends es → Ascends (filter q es)
unfolding IsStrictlySortedBy
ascends_filter q [] up = tt
ascends_filter {X} q (e ∷ es) up = by_kept (q e) e (filter q es) (above_filter e.0 q es up.0) (ascends_filter q es up.1)

head_above : (e : Key × List Value) (es : Table) → Ascends (e ∷ es) → AllByRecursion (λ y. key_cmp e.0 y ≡ Less) (keys_of es)
unfolding IsStrictlySortedBy
head_above e es up = up.0

tail_ascends : (e : Key × List Value) (es : Table) → Ascends (e ∷ es) → Ascends es
unfolding IsStrictlySortedBy
tail_ascends e es up = up.1

pub above_trans : (a b : Key) (keys : List Key) → key_cmp a b ≡ Less → AllByRecursion (λ y. key_cmp b y ≡ Less) keys → AllByRecursion (λ y. key_cmp a y ≡ Less) keys
above_trans a b [] below all = tt
above_trans a b (key ∷ keys) below all = (key_total.trans a b key below all.0, above_trans a b keys below all.1)

laid_both : (t : Table) (edits more : List Edit) → laid (laid t edits) more ≡ laid t (edits ++ more)
laid_both t [] more = refl
laid_both t (edit ∷ edits) more = laid_both (edited t edit) edits more

-- ---- one write laid over a table

-- rows of other keys
abbrev other : Key → Key × List Value → Bool
other key entry = not (same_key key entry.0)

all_other : (key : Key) (es : Table) → AllByRecursion (λ y. key_cmp key y ≡ Less) (keys_of es) → filter (other key) es ≡ es
all_other key [] all = refl
all_other key (e ∷ es) all = rw all.0 (ap (λ (l : Table). e ∷ l) (all_other key es all.1))

removed : (key : Key) (es : Table) → Ascends es → filter (other key) es ≡ remove_entry (is_at (key_cmp key)) es
removed key [] up = refl
removed key (e ∷ es) up = step (same_key key e.0) refl (removed key es (tail_ascends e es up))
  where
    step : (t : Bool) → same_key key e.0 ≡ t → filter (other key) es ≡ remove_entry (is_at (key_cmp key)) es → cond (not t) (e ∷ filter (other key) es) (filter (other key) es) ≡ cond t es (e ∷ remove_entry (is_at (key_cmp key)) es)
    step true is rest = all_other key es (subst (λ (k : Key). AllByRecursion (λ y. key_cmp k y ≡ Less) (keys_of es)) (sym (one_key key e.0 is)) (head_above e es up))
    step false is rest = ap (λ (l : Table). e ∷ l) rest

put_over : (key : Key) (row : List Value) (es : Table) → Ascends es → IsPermutation ((key, row) ∷ filter (other key) es) (insert_entry key_cmp es key row)
put_over key row [] up = IsPermutation-refl ((key, row) ∷ [])
put_over key row (e ∷ es) up = step (key_cmp key e.0) refl (put_over key row es (tail_ascends e es up))
  where
    step : (o : Ordering) → key_cmp key e.0 ≡ o → IsPermutation ((key, row) ∷ filter (other key) es) (insert_entry key_cmp es key row)
        → IsPermutation ((key, row) ∷ cond (not (is_eq o)) (e ∷ filter (other key) es) (filter (other key) es)) (match_ordering o ((key, row) ∷ e ∷ es) ((e.0, row) ∷ es) (e ∷ insert_entry key_cmp es key row))
    step Less is more =
        let rest = all_other key es (above_trans key e.0 (keys_of es) is (head_above e es up)) in
        subst (λ (l : Table). IsPermutation ((key, row) ∷ e ∷ l) ((key, row) ∷ e ∷ es)) (sym rest) (IsPermutation-refl ((key, row) ∷ e ∷ es))
    step Equal is more =
        let same : key ≡ e.0 = exact_key key e.0 is in
        let rest = all_other key es (subst (λ (k : Key). AllByRecursion (λ y. key_cmp k y ≡ Less) (keys_of es)) (sym same) (head_above e es up)) in
        subst (λ (l : Table). IsPermutation ((key, row) ∷ l) ((e.0, row) ∷ es)) (sym rest)
        (subst (λ (k : Key). IsPermutation ((key, row) ∷ es) ((k, row) ∷ es)) same (IsPermutation-refl ((key, row) ∷ es)))
    step Greater is more =
        IsPermutation-trans ((key, row) ∷ e ∷ filter (other key) es) (e ∷ (key, row) ∷ filter (other key) es) (e ∷ insert_entry key_cmp es key row)
        (IsPermutation-sym (e ∷ (key, row) ∷ filter (other key) es) ((key, row) ∷ e ∷ filter (other key) es) (IsPermutation-middle (e ∷ []) (key, row) (filter (other key) es)))
        (IsPermutation-cons e ((key, row) ∷ filter (other key) es) (insert_entry key_cmp es key row) more)

removed_ascends : (key : Key) (es : Table) → Ascends es → Ascends (remove_entry (is_at (key_cmp key)) es)
removed_ascends key es up = subst (λ (l : Table). Ascends l) (removed key es up) (ascends_filter (other key) es up)

-- ---- all of them

-- rows of keys that are not among the own writes
abbrev pub beside : List Write → Key × List Value → Bool
beside own entry = not (writes_key own entry.0)

all_beside : (rows : Table) → filter (beside []) rows ≡ rows
all_beside [] = refl
all_beside (e ∷ rows) = ap (λ (l : Table). e ∷ l) (all_beside rows)

beside_more : (w : Write) (ws : List Write) (rows : Table) → filter (beside ws) (filter (other w.key) rows) ≡ filter (beside (w ∷ ws)) rows
beside_more w ws [] = refl
beside_more w ws (e ∷ rows) = step (same_key e.0 w.key) (same_sym w.key e.0) (beside_more w ws rows)
  where
    step : (t : Bool) → same_key w.key e.0 ≡ t → filter (beside ws) (filter (other w.key) rows) ≡ filter (beside (w ∷ ws)) rows
        → filter (beside ws) (cond (not (same_key w.key e.0)) (e ∷ filter (other w.key) rows) (filter (other w.key) rows)) ≡ cond (not (t || writes_key ws e.0)) (e ∷ filter (beside (w ∷ ws)) rows) (filter (beside (w ∷ ws)) rows)
    step true is rest = rw is rest
    step false is rest = rw is (ap (λ (l : Table). cond (not (writes_key ws e.0)) (e ∷ l) l) rest)

none_of : (key : Key) (ws : List Write) → AllByRecursion (λ (w : Write). key_cmp key w.key ≡ Less) ws → writes_key ws key ≡ false
none_of key [] all = refl
none_of key (w ∷ ws) all = rw all.0 (none_of key ws all.1)

-- the rows beside the own writes, and those of the own writes, are the rows of the table with the own writes laid over it
pub overlaid : (own : List Write) (t rows : Table) → Ascends t → Ascend own → IsPermutation rows t → IsPermutation (filter (beside own) rows ++ filter_map own_row own) (laid t (edits_of own))
overlaid [] t rows up order moved = subst (λ (l : Table). IsPermutation l t) (sym (append-nil (filter (beside []) rows) ∙ all_beside rows)) moved
overlaid (w ∷ ws) t rows up order moved = step w.row (λ after left up_after moved_after. overlaid ws after left up_after (tail w ws order) moved_after)
  where
    kept : IsPermutation (filter (other w.key) rows) (filter (other w.key) t)
    kept = filter-moved (other w.key) rows t moved

    alone : writes_key ws w.key ≡ false
    alone = none_of w.key ws (recursion_from_All (λ (v : Write). key_cmp w.key v.key ≡ Less) ws (head w ws order))

    step : (o : Option (List Value)) → ((after left : Table) → Ascends after → IsPermutation left after → IsPermutation (filter (beside ws) left ++ filter_map own_row ws) (laid after (edits_of ws)))
        → IsPermutation (filter (beside (w ∷ ws)) rows ++ cons_option (option_map (λ (row : List Value). (w.key, row)) o) (filter_map own_row ws)) (laid (edited_by t w.key o) (edits_of ws))
    step None further =
        subst (λ (l : Table). IsPermutation (l ++ filter_map own_row ws) (laid (remove_entry (is_at (key_cmp w.key)) t) (edits_of ws))) (beside_more w ws rows)
        (further (remove_entry (is_at (key_cmp w.key)) t) (filter (other w.key) rows) (removed_ascends w.key t up)
        (subst (IsPermutation (filter (other w.key) rows)) (removed w.key t up) kept))
    step (Some row) further =
        let entry : Key × List Value = (w.key, row) in
        let put = insert_entry key_cmp t w.key row in
        let rest = filter (beside (w ∷ ws)) rows in
        let more = further put (entry ∷ filter (other w.key) rows) (sorted_put w.key row t up)
        (IsPermutation-trans (entry ∷ filter (other w.key) rows) (entry ∷ filter (other w.key) t) put (IsPermutation-cons entry (filter (other w.key) rows) (filter (other w.key) t) kept) (put_over w.key row t up)) in
        IsPermutation-trans (rest ++ entry ∷ filter_map own_row ws) (entry ∷ (rest ++ filter_map own_row ws)) (laid put (edits_of ws))
        (IsPermutation-middle rest entry (filter_map own_row ws))
        (subst (λ (l : Table). IsPermutation (entry ∷ (l ++ filter_map own_row ws)) (laid put (edits_of ws))) (beside_more w ws rows) (rw alone at more))

-- ---- what a statement reads

read_kept : (width : ℕ) (pinned : Pinned) (versions : List Rowed) → filter_map (read_row width pinned) versions ≡ filter (beside pinned.own) (map (shown_row width) (filter (is_shown pinned.view pinned.snapshot) versions))
read_kept width pinned [] = refl
read_kept width pinned (x ∷ versions) = step (is_shown pinned.view pinned.snapshot x) (writes_key pinned.own x.version.key) refl (read_kept width pinned versions)
  where
    step : (t u : Bool) → writes_key pinned.own x.version.key ≡ u → filter_map (read_row width pinned) versions ≡ filter (beside pinned.own) (map (shown_row width) (filter (is_shown pinned.view pinned.snapshot) versions))
        → cons_option (cond (t && not u) (Some (shown_row width x)) None) (filter_map (read_row width pinned) versions)
        ≡ filter (beside pinned.own) (map (shown_row width) (cond t (x ∷ filter (is_shown pinned.view pinned.snapshot) versions) (filter (is_shown pinned.view pinned.snapshot) versions)))
    step false u is rest = rest
    step true true is rest = rw is rest
    step true false is rest = rw is (ap (λ (l : Table). shown_row width x ∷ l) rest)

-- the rows that are read are those of the table that the statement reads, in some order
pub rows_are_read : (width : ℕ) (pinned : Pinned) → HasSnapshot pinned → Ascend pinned.own → IsPermutation (rows_in width pinned) (read_by width pinned)
rows_are_read width pinned has order =
    let view = pinned.view in
    let s = pinned.snapshot in
    subst (λ (l : Table). IsPermutation (l ++ filter_map own_row pinned.own) (read_by width pinned)) (sym (read_kept width pinned (rowed_of view)))
    (overlaid pinned.own (shown_table width view s) (map (shown_row width) (shown view s)) (laid_ascends (map (shown_edit width) (shown view s))) order (shown_permuted width view s has.view has.from_floor has.to_clock))

pub shown_ascends : (width : ℕ) (pinned : Pinned) → Ascends (shown_by width pinned)
shown_ascends width pinned = laid_ascends (map (shown_edit width) (shown pinned.view pinned.snapshot))

pub read_ascends : (width : ℕ) (pinned : Pinned) → Ascends (read_by width pinned)
read_ascends width pinned =
    let edits = map (shown_edit width) (shown pinned.view pinned.snapshot) in
    subst (λ (l : Table). Ascends l) (sym (laid_both [] edits (edits_of pinned.own))) (laid_ascends (edits ++ edits_of pinned.own))

pub read_fits : (schema : Schema) (pinned : Pinned) (n : ℕ) → IsFitTable schema (shown_by n pinned) → All (IsFit schema) (edits_of pinned.own) → IsFitTable schema (read_by n pinned)
read_fits schema pinned n fit own_fit = laid_all (IsFit schema) (shown_by n pinned) (edits_of pinned.own) fit own_fit
