-- Tables: what edits make of them, and when two of them are one.
use Rattle.std.proofs.Common.{◌≡◌, List, [], ◌∷◌, ◌++◌, map, refl, sym, ap, ◌∙◌, subst, cond, Bool, true, false, ◌||◌}
use Rattle.std.specs.Prelude.{Option, None, Some, unwrap_or, is_some}
use Rattle.std.specs.List.{list_any, AllByRecursion}
use Rattle.std.specs.Ordering.{match_ordering, ordering_reverse, eq_by_cmp, is_eq}
use Rattle.std.specs.declared.cmp.Ordering.{Ordering}
use Rattle.std.specs.declared.cmp.Ordering.TheVariants.{Less, Equal, Greater}
use Rattle.std.specs.BTreeMap.{is_at, insert_entry}
use Rattle.std.specs.Map.{keys_of, lookup}
use Rattle.std.specs.List.Sorted.{IsStrictlySortedBy}
use Rattle.std.proofs.lemmas.Cmp.{eq_by_cmp_equiv, tied_itself}
use Rattle.std.proofs.lemmas.List.{append-nil, append_assoc}
use Rattle.std.proofs.lemmas.Map.{lookup-none}
use Rattle.std.proofs.lemmas.Map.Entries.{none_past_head, none_below_head}
use Rattle.std.proofs.lemmas.Map.Keys.{sorted_tail, IsDistinct-from_sorted}
use Rattle.std.proofs.lemmas.Option.{none-some, same_Some}
use Rattle.cs_types.specs.declared.Key.{Key}
use Rattle.cs_types.specs.declared.Value.{Value}
use Rattle.cs_types.specs.Keys.{key_cmp, same_key}
use Rattle.cs_model.specs.Changes.{Edit, Table, Change, edited, laid, until}
use Rattle.cs_model.specs.Steps.{numbered}
use Rattle.cs_model.proofs.Tables.{table_ascends, edited_is}
use Rattle.cs_types.proofs.KeyLemmas.{key_total, exact_key, one_key}

abbrev pub Ascends : {X : Type 0} → List (Key × X) → Type 0
Ascends es = IsStrictlySortedBy key_cmp (keys_of es)

abbrev pub at : {X : Type 0} → Key → List (Key × X) → Option X
at key es = lookup (is_at (key_cmp key)) es

-- ---- tables ascend

laid_more : (t : Table) (edits : List Edit) (edit : Edit) → laid t (edits ++ edit ∷ []) ≡ edited (laid t edits) edit
laid_more t [] edit = refl
laid_more t (e ∷ edits) edit = laid_more (edited t e) edits edit

all_until : (edits : List Edit) → until 0 (numbered 0 0 edits) ≡ numbered 0 0 edits
all_until [] = refl
all_until (edit ∷ edits) = ap (λ xs. record { commit = 0; txn = 0; edit = edit } ∷ xs) (all_until edits)

edits_of_numbered : (edits : List Edit) → map (λ (change : Change). change.edit) (numbered 0 0 edits) ≡ edits
edits_of_numbered [] = refl
edits_of_numbered (edit ∷ edits) = ap (λ xs. edit ∷ xs) (edits_of_numbered edits)

-- edits laid over the empty table are a table of changes
pub laid_ascends : (edits : List Edit) → Ascends (laid [] edits)
laid_ascends edits =
    subst (λ (t : Table). Ascends t) (ap (λ xs. laid [] (map (λ (change : Change). change.edit) xs)) (all_until edits) ∙ ap (laid []) (edits_of_numbered edits)) (table_ascends (numbered 0 0 edits) 0)

-- the rows of a table as edits
abbrev as_edits : Table → List Edit
as_edits t = map (λ (e : Key × List Value). (e.0, Some e.1)) t

first_below : (key : Key) (es : Table) (x : Key × List Value) (t : Table) → AllByRecursion (λ k. key_cmp key k ≡ Less) (keys_of (es ++ x ∷ t)) → key_cmp key x.0 ≡ Less
first_below key [] x t all = all.0
first_below key (e ∷ es) x t all = first_below key es x t all.1

put_last : (es : Table) (x : Key × List Value) (t : Table) → Ascends (es ++ x ∷ t) → insert_entry key_cmp es x.0 x.1 ≡ es ++ x ∷ []
unfolding IsStrictlySortedBy
put_last [] x t sorted = refl
put_last (e ∷ es) x t sorted =
    ap (λ r. match_ordering r ((x.0, x.1) ∷ e ∷ es) ((e.0, x.1) ∷ es) (e ∷ insert_entry key_cmp es x.0 x.1)) (key_total.antisymm x.0 e.0 ∙ ap ordering_reverse (first_below e.0 es x t sorted.0))
    ∙ ap (λ ys. e ∷ ys) (put_last es x t sorted.1)

rows_laid : (front t : Table) → Ascends (front ++ t) → laid front (as_edits t) ≡ front ++ t
rows_laid front [] sorted = sym (append-nil front)
rows_laid front (x ∷ t) sorted =
    ap (λ es. laid es (as_edits t)) (put_last front x t sorted) ∙ rows_laid (front ++ x ∷ []) t (subst (λ (es : Table). Ascends es) (sym (append_assoc front (x ∷ []) t)) sorted)
    ∙ append_assoc front (x ∷ []) t

-- an edit keeps the order
edited_ascends : (t : Table) (edit : Edit) → Ascends t → Ascends (edited t edit)
edited_ascends t edit sorted =
    subst (λ (es : Table). Ascends es) (laid_more [] (as_edits t) edit ∙ ap (λ es. edited es edit) (rows_laid [] t sorted)) (laid_ascends (as_edits t ++ edit ∷ []))

-- ---- a key in a table with edits laid over it

edited_key : (key : Key) (t : Table) (edit : Edit) → Ascends t → at key (edited t edit) ≡ cond (same_key key edit.0) edit.1 (at key t)
edited_key key t edit sorted = edited_is key edit.0 edit.1 t sorted

-- no later key is one that the first is
past : {X : Type 0} (q : Key) (e : Key × X) (es : List (Key × X)) → Ascends (e ∷ es) → same_key q e.0 ≡ true → at q es ≡ None
past q e es up s =
    lookup-none (is_at (key_cmp q)) es (none_past_head {eq = eq_by_cmp key_cmp} (eq_by_cmp_equiv key_total) q e es (IsDistinct-from_sorted key_cmp (keys_of (e ∷ es)) up) s)

pub laid_is : (key : Key) (edits : List Edit) (t : Table) → Ascends t → Ascends edits → at key (laid t edits) ≡ unwrap_or (at key edits) (at key t)
laid_is key [] t sorted apart = refl
laid_is key (edit ∷ edits) t sorted apart =
    laid_is key edits (edited t edit) (edited_ascends t edit sorted) (sorted_tail key_cmp edit.0 (keys_of edits) apart)
    ∙ ap (unwrap_or (at key edits)) (edited_key key t edit sorted) ∙ by (same_key key edit.0) refl
  where
    by : (b : Bool) → same_key key edit.0 ≡ b → unwrap_or (at key edits) (cond b edit.1 (at key t)) ≡ unwrap_or (cond b (Some edit.1) (at key edits)) (at key t)
    by true e = ap (λ o. unwrap_or o edit.1) (past key edit edits apart e)
    by false e = refl

-- ---- the rows of a table at a list of keys

module _ (t : Table) where
  abbrev onto : Key → Option (List Value) → List Edit → List Edit
  onto key None rest = rest
  onto key (Some row) rest = (key, Some row) ∷ rest

  -- the rows at these keys, as edits
  abbrev pub rows_of : List Key → List Edit
  rows_of [] = []
  rows_of (key ∷ keys) = onto key (at key t) (rows_of keys)

  -- a row of the table put in keeps what is right, and makes it right at its key
  put_right : (q key : Key) (row : List Value) (es : Table) → Ascends es → at key t ≡ Some row → at q es ≡ at q t → at q (edited es (key, Some row)) ≡ at q t
  put_right q key row es sorted e h = edited_key q es (key, Some row) sorted ∙ by (same_key q key) refl
    where
      by : (b : Bool) → same_key q key ≡ b → cond b (Some row) (at q es) ≡ at q t
      by true s = sym e ∙ ap (λ k. at k t) (sym (one_key q key s))
      by false s = h

  put_here : (q key : Key) (row : List Value) (es : Table) → Ascends es → at key t ≡ Some row → same_key q key ≡ true → at q (edited es (key, Some row)) ≡ at q t
  put_here q key row es sorted e s =
      edited_key q es (key, Some row) sorted ∙ ap (λ b. cond b (Some row) (at q es)) s ∙ sym e ∙ ap (λ k. at k t) (sym (one_key q key s))

  put_apart : (q key : Key) (row : List Value) (es : Table) → Ascends es → same_key q key ≡ false → at q es ≡ None → at q (edited es (key, Some row)) ≡ None
  put_apart q key row es sorted s h = edited_key q es (key, Some row) sorted ∙ ap (λ b. cond b (Some row) (at q es)) s ∙ h

  right_at : (q key : Key) (keys : List Key) (es : Table) (o : Option (List Value)) → at key t ≡ o → Ascends es → at q es ≡ at q t
      → ((es : Table) → Ascends es → at q es ≡ at q t → at q (laid es (rows_of keys)) ≡ at q t) → at q (laid es (onto key o (rows_of keys))) ≡ at q t
  right_at q key keys es None e sorted h rest = rest es sorted h
  right_at q key keys es (Some row) e sorted h rest = rest (edited es (key, Some row)) (edited_ascends es (key, Some row) sorted) (put_right q key row es sorted e h)

  stays_right : (q : Key) (keys : List Key) (es : Table) → Ascends es → at q es ≡ at q t → at q (laid es (rows_of keys)) ≡ at q t
  stays_right q [] es sorted h = h
  stays_right q (key ∷ keys) es sorted h = right_at q key keys es (at key t) refl sorted h (stays_right q keys)

  comes_at : (q key : Key) (keys : List Key) (es : Table) (b : Bool) (o : Option (List Value)) → same_key q key ≡ b → at key t ≡ o → Ascends es → (b || list_any (same_key q) keys) ≡ true → at q es ≡ None
      → ((es : Table) → Ascends es → list_any (same_key q) keys ≡ true → at q es ≡ None → at q (laid es (rows_of keys)) ≡ at q t) → at q (laid es (onto key o (rows_of keys))) ≡ at q t
  comes_at q key keys es true None s e sorted has h rest = stays_right q keys es sorted (h ∙ sym e ∙ ap (λ k. at k t) (sym (one_key q key s)))
  comes_at q key keys es true (Some row) s e sorted has h rest = stays_right q keys (edited es (key, Some row)) (edited_ascends es (key, Some row) sorted) (put_here q key row es sorted e s)
  comes_at q key keys es false None s e sorted has h rest = rest es sorted has h
  comes_at q key keys es false (Some row) s e sorted has h rest = rest (edited es (key, Some row)) (edited_ascends es (key, Some row) sorted) has (put_apart q key row es sorted s h)

  comes_right : (q : Key) (keys : List Key) (es : Table) → Ascends es → list_any (same_key q) keys ≡ true → at q es ≡ None → at q (laid es (rows_of keys)) ≡ at q t
  comes_right q [] es sorted has h = absurd (cc)
  comes_right q (key ∷ keys) es sorted has h = comes_at q key keys es (same_key q key) (at key t) refl refl sorted has h (comes_right q keys)

  -- where each key of the table is listed, its rows at the list are the table's
  pub all_right : (keys : List Key) → ((q : Key) → list_any (same_key q) keys ≡ false → at q t ≡ None) → (q : Key) → at q (laid [] (rows_of keys)) ≡ at q t
  all_right keys none q = by (list_any (same_key q) keys) refl
    where
      by : (b : Bool) → list_any (same_key q) keys ≡ b → at q (laid [] (rows_of keys)) ≡ at q t
      by true e = comes_right q keys [] (laid_ascends []) e refl
      by false e = stays_right q keys [] (laid_ascends []) (sym (none q e))

-- two tables with the same rows are one
here : (e : Key × List Value) (es : Table) → at e.0 (e ∷ es) ≡ Some e.1
here e es = ap (λ r. cond (is_eq r) (Some e.1) (at e.0 es)) (tied_itself key_total e.0)

below : (q : Key) (e : Key × List Value) (es : Table) → Ascends (e ∷ es) → key_cmp q e.0 ≡ Less → at q (e ∷ es) ≡ None
below q e es up less = lookup-none (is_at (key_cmp q)) (e ∷ es) (none_below_head key_total q e es up less)

tails : (e f : Key × List Value) (es fs : Table) → Ascends (e ∷ es) → Ascends (f ∷ fs) → e.0 ≡ f.0 → ((q : Key) → at q (e ∷ es) ≡ at q (f ∷ fs)) → (q : Key) → at q es ≡ at q fs
tails e f es fs up up' is rows q = by (same_key q e.0) refl
  where
    by : (b : Bool) → same_key q e.0 ≡ b → at q es ≡ at q fs
    by true s = past q e es up s ∙ sym (past q f fs up' (ap (same_key q) (sym is) ∙ s))
    by false s = sym (ap (λ b. cond b (Some e.1) (at q es)) s) ∙ rows q ∙ ap (λ b. cond b (Some f.1) (at q fs)) (ap (same_key q) (sym is) ∙ s)

joined : (e f : Key × List Value) (es fs : Table) → Ascends (e ∷ es) → Ascends (f ∷ fs) → ((q : Key) → at q (e ∷ es) ≡ at q (f ∷ fs)) → (((q : Key) → at q es ≡ at q fs) → es ≡ fs)
    → (r : Ordering) → key_cmp e.0 f.0 ≡ r → e ∷ es ≡ f ∷ fs
joined e f es fs up up' rows rest Less r = absurd (none-some e.1 (sym (below e.0 f fs up' r) ∙ sym (rows e.0) ∙ here e es))
joined e f es fs up up' rows rest Equal r =
    let is : e.0 ≡ f.0 = exact_key e.0 f.0 r in
    let row : e.1 ≡ f.1 = same_Some e.1 f.1 (sym (here e es) ∙ rows e.0 ∙ ap (λ q. at q (f ∷ fs)) is ∙ here f fs) in
    let others = rest (tails e f es fs up up' is rows) in
    λ i. (is i, row i) ∷ others i
joined e f es fs up up' rows rest Greater r =
    absurd (none-some f.1 (sym (below f.0 e es up (key_total.antisymm f.0 e.0 ∙ ap ordering_reverse r)) ∙ rows f.0 ∙ here f fs))

same_tables : (s t : Table) → Ascends s → Ascends t → ((q : Key) → at q s ≡ at q t) → s ≡ t
same_tables [] [] up up' rows = refl
same_tables [] (f ∷ fs) up up' rows = absurd (none-some f.1 (rows f.0 ∙ here f fs))
same_tables (e ∷ es) [] up up' rows = absurd (none-some e.1 (sym (rows e.0) ∙ here e es))
same_tables (e ∷ es) (f ∷ fs) up up' rows =
    joined e f es fs up up' rows (same_tables es fs (sorted_tail key_cmp e.0 (keys_of es) up) (sorted_tail key_cmp f.0 (keys_of fs) up')) (key_cmp e.0 f.0) refl

pub rows_whole : (t : Table) (keys : List Key) → Ascends t → ((q : Key) → list_any (same_key q) keys ≡ false → at q t ≡ None) → laid [] (rows_of t keys) ≡ t
rows_whole t keys up none = same_tables (laid [] (rows_of t keys)) t (laid_ascends (rows_of t keys)) up (all_right t keys none)

pub any_key : {X : Type 0} (q : Key) (es : List (Key × X)) → list_any (same_key q) (keys_of es) ≡ is_some (at q es)
any_key q [] = refl
any_key q (e ∷ es) = by (same_key q e.0) (any_key q es)
  where
    by : (b : Bool) → list_any (same_key q) (keys_of es) ≡ is_some (at q es) → (b || list_any (same_key q) (keys_of es)) ≡ is_some (cond b (Some e.1) (at q es))
    by true rest = refl
    by false rest = rest
