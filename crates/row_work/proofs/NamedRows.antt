-- Keys that a condition names, and the rows at them.
use Rattle.std.proofs.Common.{◌≡◌, ℕ, zero, suc, ◌^◌, ◌<◌, pos, ◌*ℤ◌, Bool, true, false, ◌||◌, cond, List, [], ◌∷◌, map, filter, get_or, length, refl, sym, ap, ◌∙◌, subst, arith}
use Rattle.std.specs.Prelude.{Option, Some, Ok}
use Rattle.std.specs.declared.cmp.Ordering.{Ordering}
use Rattle.std.specs.declared.cmp.Ordering.TheVariants.{Less, Equal, Greater}
use Rattle.std.specs.Ordering.{is_eq, ordering_reverse, eq_by_cmp, int_cmp, nat_cmp}
use Rattle.std.specs.Cmp.{IsTotalOrder}
use Rattle.std.specs.Cmp.Lexicographic.{slice_cmp}
use Rattle.std.specs.List.{All, AllByRecursion, cons_option, list_any}
use Rattle.std.specs.List.Sorted.{IsStrictlySortedBy}
use Rattle.std.specs.Map.{keys_of, values_of}
use Rattle.std.specs.Option.{option_map}
use Rattle.std.proofs.lemmas.Cmp.{eq_by_cmp_equiv, int_cmp_total, nat_list_cmp_total}
use Rattle.std.proofs.lemmas.List.Elements.{All-tail, recursion_from_All}
use Rattle.std.proofs.lemmas.Map.{lookup-none}
use Rattle.std.proofs.lemmas.Map.Entries.{none_below_head}
use Rattle.std.proofs.lemmas.Map.Keys.{sorted_tail}
use Rattle.std.proofs.lemmas.Map.Views.{list_any-from_Contains}
use Rattle.cs_types.specs.declared.Key.{Key}
use Rattle.cs_types.specs.declared.Loose.{Loose}
use Rattle.cs_types.specs.declared.Loose.TheVariants.{Null, Number, Text, Day}
use Rattle.cs_types.specs.declared.Schema.{Schema}
use Rattle.cs_types.specs.declared.Value.{Value}
use Rattle.cs_types.specs.Keys.{key_cmp, same_key}
use Rattle.cs_types.proofs.KeyLemmas.{exact_key, key_total}
use Rattle.cs_model.specs.declared.plan.Query.{Query}
use Rattle.cs_model.specs.declared.pred.Operand.{Operand}
use Rattle.cs_model.specs.declared.pred.Operand.TheVariants as operand
use Rattle.cs_model.specs.declared.pred.Pred.{Pred}
use Rattle.cs_model.specs.declared.pred.Relation.TheVariants as relation
use Rattle.cs_model.specs.declared.truth.Truth.{Truth}
use Rattle.cs_model.specs.declared.truth.Truth.TheVariants.{True, False, Unknown}
use Rattle.cs_model.specs.Answers.{chosen}
use Rattle.cs_model.specs.Cells.{loose_at}
use Rattle.cs_model.specs.Changes.{Table}
use Rattle.cs_model.specs.Held.{IsFitTable}
use Rattle.cs_model.specs.Queries.{answer, grouped_answer, is_true, keeps, kept, plain_answer}
use Rattle.cs_model.specs.Truths.{all_of, among, and, compare, operand_of, or, truth_if}
use Rattle.edit_laws.proofs.Tables.{Ascends, at}
use Rattle.row_work.specs.Named.{entry_at, rows_at, KeepsAt}
use Rattle.row_work.proofs.Overlaid.{above_trans, reversed, same_sym}

-- ---- truths

-- a filter keeps a row where its condition is True
pub true_is : (t : Truth) → is_true t ≡ true → t ≡ True
true_is True is = refl
true_is Unknown is = cc
true_is False is = cc

pub and_first : (a b : Truth) → and a b ≡ True → a ≡ True
and_first True b is = refl
and_first Unknown True is = cc
and_first Unknown Unknown is = cc
and_first Unknown False is = cc
and_first False b is = is

pub and_second : (a b : Truth) → and a b ≡ True → b ≡ True
and_second True b is = is
and_second Unknown True is = refl
and_second Unknown Unknown is = cc
and_second Unknown False is = is
and_second False b is = absurd (cc)

-- each part of a chain of AND that is True is True
pub part_true : (f : Pred → Truth) (parts : List Pred) (i : ℕ) (part : Pred) → i < length parts → part ≡ get_or parts i part → all_of (map f parts) ≡ True → f part ≡ True
part_true f [] i part inside is all = absurd (omega (arith, inside))
part_true f (p ∷ parts) zero part inside is all = ap f is ∙ and_first (f p) (all_of (map f parts)) all
part_true f (p ∷ parts) (suc i) part inside is all = part_true f parts i part (omega (arith, inside)) is (and_second (f p) (all_of (map f parts)) all)

or_either : (B : Type 0) (a b : Truth) → (a ≡ True → B) → (b ≡ True → B) → or a b ≡ True → B
or_either B True b first second is = first refl
or_either B Unknown True first second is = second refl
or_either B Unknown Unknown first second is = absurd (cc)
or_either B Unknown False first second is = absurd (cc)
or_either B False b first second is = second is

-- what is among constants equals one of them
pub among_either : (B : Type 0) (x : Loose) (list : List Loose) → All (λ (constant : Loose). compare relation.Equal x constant ≡ True → B) list → among x list ≡ True → B
among_either B x [] each is = absurd (cc)
among_either B x (c ∷ list) each is =
    or_either B (compare relation.Equal x c) (among x list) (each 0 c (omega arith)) (among_either B x list (All-tail (λ (constant : Loose). compare relation.Equal x constant ≡ True → B) c list each)) is

among_first : (t : Truth) → t ≡ True → or t False ≡ True
among_first True is = refl
among_first Unknown is = is
among_first False is = is

-- what equals a constant is among it alone
pub among_one : (x constant : Loose) → compare relation.Equal x constant ≡ True → among x (constant ∷ []) ≡ True
among_one x constant is = among_first (compare relation.Equal x constant) is

turned : {X : Type 0} (R : X → X → Ordering) → IsTotalOrder R → (a b : X) → truth_if (is_eq (R a b)) ≡ truth_if (is_eq (R b a))
turned R total a b = ap (λ (o : Ordering). truth_if (is_eq o)) (total.antisymm a b) ∙ ap truth_if (reversed (R b a))

-- equal sides may change places
pub equal_turned : (a b : Loose) → compare relation.Equal a b ≡ compare relation.Equal b a
equal_turned Null Null = refl
equal_turned Null (Number n t) = refl
equal_turned Null (Text t) = refl
equal_turned Null (Day d) = refl
equal_turned (Number m s) Null = refl
equal_turned (Number m s) (Number n t) = turned int_cmp int_cmp_total (m *ℤ pos (10 ^ t)) (n *ℤ pos (10 ^ s))
equal_turned (Number m s) (Text t) = refl
equal_turned (Number m s) (Day d) = refl
equal_turned (Text a) Null = refl
equal_turned (Text a) (Number n t) = refl
equal_turned (Text a) (Text b) = turned (slice_cmp nat_cmp) nat_list_cmp_total a b
equal_turned (Text a) (Day d) = refl
equal_turned (Day a) Null = refl
equal_turned (Day a) (Number n t) = refl
equal_turned (Day a) (Text t) = refl
equal_turned (Day a) (Day b) = turned int_cmp int_cmp_total a b

-- the key on the right
pub key_on_right : (schema : Schema) (row : List Value) (left right : Operand) (column : ℕ) (constant : Loose) → left ≡ operand.Constant constant → right ≡ operand.Column column → column ≡ schema.key
    → compare relation.Equal (operand_of schema row left) (operand_of schema row right) ≡ True → compare relation.Equal (loose_at schema row schema.key) constant ≡ True
key_on_right schema row left right column constant on_left on_right key is =
    equal_turned (loose_at schema row schema.key) constant ∙ ap (λ i. compare relation.Equal constant (loose_at schema row i)) (sym key)
    ∙ ap (λ x. compare relation.Equal constant (operand_of schema row x)) (sym on_right) ∙ ap (λ x. compare relation.Equal (operand_of schema row x) (operand_of schema row right)) (sym on_left) ∙ is

-- ---- keys that ascend

abbrev AllAbove : Key → List Key → Type 0
AllAbove key keys = AllByRecursion (λ other. key_cmp key other ≡ Less) keys

above_first : (key : Key) (keys : List Key) → IsStrictlySortedBy key_cmp (key ∷ keys) → AllAbove key keys
unfolding IsStrictlySortedBy
above_first key keys up = up.0

not_same : (a b : Key) → key_cmp a b ≡ Less → same_key b a ≡ false
not_same a b less = same_sym b a ∙ ap is_eq less

absent : (key : Key) (keys : List Key) → AllAbove key keys → list_any (same_key key) keys ≡ false
absent key [] above = refl
absent key (k ∷ keys) above = rw above.0 (absent key keys above.1)

-- ---- the rows of a table at keys

empty_at : (keys : List Key) → rows_at [] keys ≡ []
empty_at [] = refl
empty_at (key ∷ keys) = empty_at keys

-- a row is not at greater keys
row_past : (e : Key × List Value) (es : Table) (keys : List Key) → AllAbove e.0 keys → rows_at (e ∷ es) keys ≡ rows_at es keys
row_past e es [] above = refl
row_past e es (key ∷ keys) above =
    ap (λ t. cons_option (option_map (λ (row : List Value). (key, row)) (cond t (Some e.1) (at key es))) (rows_at (e ∷ es) keys)) (not_same e.0 key above.0)
    ∙ ap (cons_option (entry_at es key)) (row_past e es keys above.1)

-- no row is at a smaller key
none_before : (key : Key) (e : Key × List Value) (es : Table) (keys : List Key) → Ascends (e ∷ es) → key_cmp key e.0 ≡ Less → rows_at (e ∷ es) (key ∷ keys) ≡ rows_at (e ∷ es) keys
none_before key e es keys up less =
    ap (λ o. cons_option (option_map (λ (row : List Value). (key, row)) o) (rows_at (e ∷ es) keys)) (lookup-none (λ k. same_key key k) (e ∷ es) (none_below_head key_total key e es up less))

-- the row at its key comes first, where the other keys are greater
first_at : (key : Key) (e : Key × List Value) (es : Table) (keys : List Key) → key_cmp key e.0 ≡ Equal → AllAbove key keys → rows_at (e ∷ es) (key ∷ keys) ≡ e ∷ rows_at es keys
first_at key e es keys equal above =
    let same : key ≡ e.0 = exact_key key e.0 equal in
    let there : Key × List Value = (key, e.1) in
    let whole : there ≡ e = λ i. (same i, e.1) in
    ap (λ o. cons_option (option_map (λ (row : List Value). (key, row)) (cond (is_eq o) (Some e.1) (at key es))) (rows_at (e ∷ es) keys)) equal
    ∙ ap (λ (l : Table). there ∷ l) (row_past e es keys (subst (λ (k : Key). AllAbove k keys) same above))
    ∙ ap (λ (entry : Key × List Value). entry ∷ rows_at es keys) whole

module _ (q : Key × List Value → Bool) where
  -- the keys of the rows that pass the test are listed
  abbrev Told : List Key → Key × List Value → Type 0
  Told keys entry = q entry ≡ true → list_any (same_key entry.0) keys ≡ true

  -- a key below all rows may be left out
  told_past : (key : Key) (keys : List Key) (t : Table) → AllAbove key (keys_of t) → AllByRecursion (Told (key ∷ keys)) t → AllByRecursion (Told keys) t
  told_past key keys [] above told = tt
  told_past key keys (e ∷ es) above told =
      (λ is. subst (λ b. (b || list_any (same_key e.0) keys) ≡ true) (not_same key e.0 above.0) (told.0 is), told_past key keys es above.1 told.1)

  -- a row whose key is not listed does not pass
  unlisted : (keys : List Key) (e : Key × List Value) (t : Bool) → q e ≡ t → list_any (same_key e.0) keys ≡ false → Told keys e → q e ≡ false
  unlisted keys e true is none told = absurd (let here = told is in cc)
  unlisted keys e false is none told = is

  passed : (e : Key × List Value) (es : Table) → q e ≡ false → filter q (e ∷ es) ≡ filter q es
  passed e es is = ap (λ t. cond t (e ∷ filter q es) (filter q es)) is

  -- one row more, at the keys that are left
  row_more : (e : Key × List Value) (es : Table) → Ascends (e ∷ es) → ((keys : List Key) → IsStrictlySortedBy key_cmp keys → AllByRecursion (Told keys) es → filter q (rows_at es keys) ≡ filter q es)
      → (keys : List Key) → IsStrictlySortedBy key_cmp keys → AllByRecursion (Told keys) (e ∷ es) → filter q (rows_at (e ∷ es) keys) ≡ filter q (e ∷ es)
  row_more e es up rest [] sorted told = rest [] sorted told.1 ∙ sym (passed e es (unlisted [] e (q e) refl refl told.0))
  row_more e es up rest (key ∷ keys) sorted told = step (key_cmp key e.0) refl (row_more e es up rest keys (sorted_tail key_cmp key keys sorted))
    where
      above : AllAbove e.0 (keys_of es)
      above = above_first e.0 (keys_of es) up

      step : (o : Ordering) → key_cmp key e.0 ≡ o → (AllByRecursion (Told keys) (e ∷ es) → filter q (rows_at (e ∷ es) keys) ≡ filter q (e ∷ es)) → filter q (rows_at (e ∷ es) (key ∷ keys)) ≡ filter q (e ∷ es)
      step Less is more =
          ap (filter q) (none_before key e es keys up is) ∙ more (told_past key keys (e ∷ es) (is, above_trans key e.0 (keys_of es) is above) told)
      step Equal is more =
          let same : key ≡ e.0 = exact_key key e.0 is in
          let others = rest keys (sorted_tail key_cmp key keys sorted) (told_past key keys es (subst (λ (k : Key). AllAbove k (keys_of es)) (sym same) above) told.1) in
          ap (filter q) (first_at key e es keys is (above_first key keys sorted)) ∙ ap (λ (l : Table). cond (q e) (e ∷ l) l) others
      step Greater is more =
          let less : key_cmp e.0 key ≡ Less = key_total.antisymm e.0 key ∙ ap ordering_reverse is in
          let past : AllAbove e.0 (key ∷ keys) = (less, above_trans e.0 key keys less (above_first key keys sorted)) in
          ap (filter q) (row_past e es (key ∷ keys) past) ∙ rest (key ∷ keys) sorted told.1
          ∙ sym (passed e es (unlisted (key ∷ keys) e (q e) refl (absent e.0 (key ∷ keys) past) told.0))

  -- where the keys of all rows that pass a test are listed, what it keeps of the rows at these keys is what it keeps of the table
  kept_at : (t : Table) (keys : List Key) → Ascends t → IsStrictlySortedBy key_cmp keys → AllByRecursion (Told keys) t → filter q (rows_at t keys) ≡ filter q t
  kept_at [] keys up sorted told = ap (filter q) (empty_at keys)
  kept_at (e ∷ es) keys up sorted told = row_more e es up (λ more. kept_at es more (sorted_tail key_cmp e.0 (keys_of es) up)) keys sorted told

module _ (schema : Schema) (condition : Option Pred) (t : Table) (keys : List Key) where
  -- the rows that a condition keeps are those that it keeps of the rows at the keys that it names
  pub chosen_at : Ascends t → IsFitTable schema t → IsStrictlySortedBy key_cmp keys → KeepsAt schema condition keys → chosen schema condition (rows_at t keys) ≡ chosen schema condition t
  chosen_at up fit sorted named =
      let keep : Key × List Value → Bool = λ entry. keeps schema condition entry.1 in
      kept_at keep t keys up sorted (recursion_from_All (Told keep keys) t (λ k d inside is.
      list_any-from_Contains {eq = eq_by_cmp key_cmp} (eq_by_cmp_equiv key_total) (get_or t k d).0 keys (named (get_or t k d).0 (get_or t k d).1 (fit k d inside).1 is)))

-- ---- the answer

pub kept_values : (schema : Schema) (query : Query) (rows : Table) → kept schema query (values_of rows) ≡ values_of (chosen schema query.filter rows)
kept_values schema query [] = refl
kept_values schema query (e ∷ rows) = step (keeps schema query.filter e.1) (kept_values schema query rows)
  where
    step : (t : Bool) → kept schema query (values_of rows) ≡ values_of (chosen schema query.filter rows)
        → cond t (e.1 ∷ kept schema query (values_of rows)) (kept schema query (values_of rows)) ≡ values_of (cond t (e ∷ chosen schema query.filter rows) (chosen schema query.filter rows))
    step true rest = ap (λ (l : List (List Value)). e.1 ∷ l) rest
    step false rest = rest

-- the answer is that of the rows that the filter keeps
pub answer_of_kept : (schema : Schema) (query : Query) (xs ys : Table) → chosen schema query.filter xs ≡ chosen schema query.filter ys → answer schema query (values_of xs) ≡ answer schema query (values_of ys)
answer_of_kept schema query xs ys same =
    ap (λ (rows : List (List Value)). cond query.grouped (grouped_answer schema query rows) (Ok (plain_answer schema query rows)))
    (kept_values schema query xs ∙ ap values_of same ∙ sym (kept_values schema query ys))
