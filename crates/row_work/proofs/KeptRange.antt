-- Conditions that are True of the rows of a range of keys, and False of the others.
use Rattle.std.proofs.Common.{◌≡◌, ℤ, pos, ◌*ℤ◌, ◌^◌, ◌≤ℤ◌, ◌<ℤ◌, ◌+ℤ◌, ℕ, ◌<◌, ◌≤◌, inl, inr, Bool, true, false, ◌&&◌, cond, List, [], ◌∷◌, length, get_or, map, refl, sym, ap, ◌∙◌, arith}
use Rattle.std.specs.Prelude.{◌⊎◌, Option, None, Some, slice_get, IfSome, IsTrue}
use Rattle.std.specs.declared.cmp.Ordering.{Ordering}
use Rattle.std.specs.declared.cmp.Ordering.TheVariants.{Less, Equal, Greater}
use Rattle.std.specs.Cmp.{int_cmp_is}
use Rattle.std.specs.Ordering.{int_cmp, is_eq, is_ge, is_gt, is_le, is_lt}
use Rattle.std.proofs.lemmas.Bool.{and_from}
use Rattle.std.proofs.lemmas.Cmp.{int_ranked}
use Rattle.std.proofs.lemmas.Int.{ints}
use Rattle.cs_types.specs.declared.Column.{Column}
use Rattle.cs_types.specs.declared.ColumnType.{ColumnType}
use Rattle.cs_types.specs.declared.ColumnType.TheVariants.{TinyInt, SmallInt, Int, BigInt, Date}
use Rattle.cs_types.specs.declared.Key.{Key}
use Rattle.cs_types.specs.declared.Loose.{Loose}
use Rattle.cs_types.specs.declared.Loose.TheVariants as loose
use Rattle.cs_types.specs.declared.Schema.{Schema}
use Rattle.cs_types.specs.declared.Value.{Value}
use Rattle.cs_types.specs.declared.Value.TheVariants.{Null, Number, Text}
use Rattle.cs_types.specs.Keys.{key_cmp}
use Rattle.cs_types.specs.Rows.{cell_at, number_in}
use Rattle.cs_types.specs.Schemas.{IsSchema, may_hold}
use Rattle.cs_types.specs.Text.{loose_number, loose_of}
use Rattle.cs_model.specs.declared.pred.Pred.{Pred}
use Rattle.cs_model.specs.declared.pred.Pred.TheVariants.{AllOf, Between}
use Rattle.cs_model.specs.declared.pred.Relation.{Relation}
use Rattle.cs_model.specs.declared.pred.Relation.TheVariants.{GreaterEqual, LessEqual}
use Rattle.cs_model.specs.declared.truth.Truth.TheVariants.{True}
use Rattle.cs_model.specs.Cells.{loose_at, loose_in}
use Rattle.cs_model.specs.Held.{IsRowAt}
use Rattle.cs_model.specs.Truths.{all_of, and, between, compare, holds, not_if, number_cmp, truth, truth_if}
use Rattle.cs_model.specs.Queries.{is_true}
use Rattle.delta_store.specs.Index.{is_between}
use Rattle.batch_filter.proofs.VerdictLemmas.{truth-all, truth-between}
use Rattle.row_work.specs.declared.bounds.Bounds.{Bounds}
use Rattle.row_work.proofs.Bounded.{lt_tells}
use Rattle.row_work.proofs.Constants.{no_text, one_mul}

-- ---- orders of whole numbers

le_true : (a b : ℤ) → a ≤ℤ b → is_le (int_cmp a b) ≡ true
le_true a b le = grind (arith, ints)

le_false : (a b : ℤ) → b <ℤ a → is_le (int_cmp a b) ≡ false
le_false a b less = ap is_le (sym (int_cmp_is a b Greater less))

and_false : (t : Bool) → (t && false) ≡ false
and_false true = refl
and_false false = refl

-- what holds of the order of two numbers, by that order
pub by_order : (P : Bool → Type 0) (test : Ordering → Bool) (z m : ℤ) → (z <ℤ m → P (test Less)) → (z ≡ m → P (test Equal)) → (m <ℤ z → P (test Greater)) → P (test (int_cmp z m))
by_order P test z m less same more = step (int_cmp z m) refl
  where
    step : (o : Ordering) → o ≡ int_cmp z m → P (test o)
    step Less is = less (int_ranked z m Less is)
    step Equal is = same (int_ranked z m Equal is)
    step Greater is = more (int_ranked z m Greater is)

-- where one number is at most another, the other's bound is one of it too
at_most_both : (a b k : ℤ) → b ≤ℤ a → is_le (int_cmp a k) ≡ (is_le (int_cmp a k) && is_le (int_cmp b k))
at_most_both a b k le =
    by_order (λ t. t ≡ (is_le (int_cmp a k) && is_le (int_cmp b k))) is_le a k (λ less. both (omega (arith, ints, less)) (omega (arith, ints, le, less))) (λ same. both (omega (arith, ints, same)) (omega (arith, ints, le, same)))
    (λ more. sym (ap (λ (t : Bool). t && is_le (int_cmp b k)) (le_false a k more)))
  where
    both : a ≤ℤ k → b ≤ℤ k → true ≡ (is_le (int_cmp a k) && is_le (int_cmp b k))
    both in_a in_b = sym (and_from (is_le (int_cmp a k)) (is_le (int_cmp b k)) (le_true a k in_a) (le_true b k in_b))

at_least_both : (a b k : ℤ) → b ≤ℤ a → is_le (int_cmp k b) ≡ (is_le (int_cmp k a) && is_le (int_cmp k b))
at_least_both a b k le =
    by_order (λ t. t ≡ (is_le (int_cmp k a) && is_le (int_cmp k b))) is_le k b (λ less. both (omega (arith, ints, le, less)) (omega (arith, ints, less))) (λ same. both (omega (arith, ints, le, same)) (omega (arith, ints, same)))
    (λ more. sym (ap (λ (t : Bool). is_le (int_cmp k a) && t) (le_false k b more) ∙ and_false (is_le (int_cmp k a))))
  where
    both : k ≤ℤ a → k ≤ℤ b → true ≡ (is_le (int_cmp k a) && is_le (int_cmp k b))
    both in_a in_b = sym (and_from (is_le (int_cmp k a)) (is_le (int_cmp k b)) (le_true k a in_a) (le_true k b in_b))

not_less : (a b : ℤ) → is_lt (int_cmp b a) ≡ false → a ≤ℤ b
not_less a b is = grind (arith, ints)

pub and_turned : (a b : Bool) → (a && b) ≡ (b && a)
and_turned true true = refl
and_turned true false = refl
and_turned false true = refl
and_turned false false = refl

-- a key that is at least the greater of two keys is at least both, and one that is at most the less of two is at most both
pub past_greater : (a b key : Key) → is_le (key_cmp (cond (is_lt (key_cmp b a)) a b) key) ≡ (is_le (key_cmp a key) && is_le (key_cmp b key))
past_greater a b key = step (is_lt (key_cmp b a)) refl
  where
    step : (t : Bool) → is_lt (key_cmp b a) ≡ t → is_le (key_cmp (cond t a b) key) ≡ (is_le (key_cmp a key) && is_le (key_cmp b key))
    step true is = at_most_both a.0 b.0 key.0 (lt_tells b.0 a.0 is)
    step false is = at_most_both b.0 a.0 key.0 (not_less a.0 b.0 is) ∙ and_turned (is_le (key_cmp b key)) (is_le (key_cmp a key))

pub below_less : (a b key : Key) → is_le (key_cmp key (cond (is_lt (key_cmp b a)) b a)) ≡ (is_le (key_cmp key a) && is_le (key_cmp key b))
below_less a b key = step (is_lt (key_cmp b a)) refl
  where
    step : (t : Bool) → is_lt (key_cmp b a) ≡ t → is_le (key_cmp key (cond t b a)) ≡ (is_le (key_cmp key a) && is_le (key_cmp key b))
    step true is = at_least_both a.0 b.0 key.0 (lt_tells b.0 a.0 is)
    step false is = at_least_both b.0 a.0 key.0 (not_less a.0 b.0 is) ∙ and_turned (is_le (key_cmp key b)) (is_le (key_cmp key a))

-- a key is among both bounds
pub among_both : (a b : Bounds) (least greatest key : Key) → least ≡ cond (is_lt (key_cmp b.least a.least)) a.least b.least → greatest ≡ cond (is_lt (key_cmp b.greatest a.greatest)) b.greatest a.greatest
    → is_between least greatest key ≡ (is_between a.least a.greatest key && is_between b.least b.greatest key)
among_both a b least greatest key low high =
    ap (λ (k : Key). is_le (key_cmp k key) && is_le (key_cmp key greatest)) low
    ∙ ap (λ (k : Key). is_le (key_cmp (cond (is_lt (key_cmp b.least a.least)) a.least b.least) key) && is_le (key_cmp key k)) high
    ∙ ap (λ (t : Bool). t && is_le (key_cmp key (cond (is_lt (key_cmp b.greatest a.greatest)) b.greatest a.greatest))) (past_greater a.least b.least key)
    ∙ ap (λ (t : Bool). (is_le (key_cmp a.least key) && is_le (key_cmp b.least key)) && t) (below_less a.greatest b.greatest key)
    ∙ shuffled (is_le (key_cmp a.least key)) (is_le (key_cmp b.least key)) (is_le (key_cmp key a.greatest)) (is_le (key_cmp key b.greatest))
  where
    shuffled : (p q r s : Bool) → ((p && q) && (r && s)) ≡ ((p && r) && (q && s))
    shuffled true true r s = refl
    shuffled true false true s = refl
    shuffled true false false s = refl
    shuffled false q r s = refl

-- a number lies from a low one up to a high one, beyond one of them it does not
both_ends : (low z high : ℤ) → low ≤ℤ z → z ≤ℤ high → true ≡ (is_le (int_cmp low z) && is_le (int_cmp z high))
both_ends low z high from to = sym (and_from (is_le (int_cmp low z)) (is_le (int_cmp z high)) (le_true low z from) (le_true z high to))

past_low : (low z high : ℤ) → z <ℤ low → false ≡ (is_le (int_cmp low z) && is_le (int_cmp z high))
past_low low z high less = sym (ap (λ (t : Bool). t && is_le (int_cmp z high)) (le_false low z less))

past_high : (low z high : ℤ) → high <ℤ z → false ≡ (is_le (int_cmp low z) && is_le (int_cmp z high))
past_high low z high less = sym (ap (λ (t : Bool). is_le (int_cmp low z) && t) (le_false z high less) ∙ and_false (is_le (int_cmp low z)))

module _ (z m : ℤ) where
  up_to_itself : (a b : ℤ) → a ≡ b → a ≤ℤ b
  up_to_itself a b same = omega (arith, ints)

  up_to : (a b : ℤ) → a <ℤ b → a ≤ℤ b
  up_to a b less = omega (arith, ints)

  abbrev from_to : ℤ → ℤ → Bool
  from_to low high = is_le (int_cmp low z) && is_le (int_cmp z high)

  pub equal_range : is_eq (int_cmp z m) ≡ from_to m m
  equal_range = by_order (λ t. t ≡ from_to m m) is_eq z m (past_low m z m) (λ same. both_ends m z m (up_to_itself m z (sym same)) (up_to_itself z m same)) (past_high m z m)

  module _ (least greatest : ℤ) (low : least ≤ℤ z) (high : z ≤ℤ greatest) where
    pub up_range : is_le (int_cmp z m) ≡ from_to least m
    up_range = by_order (λ t. t ≡ from_to least m) is_le z m (λ less. both_ends least z m low (up_to z m less)) (λ same. both_ends least z m low (up_to_itself z m same)) (past_high least z m)

    pub down_range : is_ge (int_cmp z m) ≡ from_to m greatest
    down_range = by_order (λ t. t ≡ from_to m greatest) is_ge z m (past_low m z greatest) (λ same. both_ends m z greatest (up_to_itself m z (sym same)) high) (λ less. both_ends m z greatest (up_to m z less) high)

    pub below_range : (before : ℤ) → before +ℤ pos 1 ≡ m → is_lt (int_cmp z m) ≡ from_to least before
    below_range before next =
        by_order (λ t. t ≡ from_to least before) is_lt z m (λ less. both_ends least z before low (omega (arith, ints, less, next))) (λ same. past_high least z before (omega (arith, ints, same, next)))
        (λ less. past_high least z before (omega (arith, ints, less, next)))

    pub above_range : (after : ℤ) → m +ℤ pos 1 ≡ after → is_gt (int_cmp z m) ≡ from_to after greatest
    above_range after next =
        by_order (λ t. t ≡ from_to after greatest) is_gt z m (λ less. past_low after z greatest (omega (arith, ints, less, next))) (λ same. past_low after z greatest (omega (arith, ints, same, next)))
        (λ less. both_ends after z greatest (omega (arith, ints, less, next)) high)

-- ---- a key beside a constant

-- whole numbers stand to each other as they do without scales
pub whole_stands : (sign : Relation) (z m : ℤ) → truth_if (holds sign (number_cmp z 0 m 0)) ≡ truth_if (holds sign (int_cmp z m))
whole_stands sign z m = ap (λ a. truth_if (holds sign (int_cmp a (m *ℤ pos (10 ^ 0))))) (one_mul z) ∙ ap (λ b. truth_if (holds sign (int_cmp z b))) (one_mul m)

module _ (schema : Schema) (key : Key) (row : List Value) (table : IsSchema schema) (stands : IsRowAt schema key row) where
  in_column : (column : Column) (v : Value) → slice_get schema.columns schema.key ≡ Some column → cell_at row schema.key ≡ v → IsTrue (may_hold column v) → loose_of column.kind v ≡ loose_number column.kind key.0
  in_column column Null there is held = let never = table.key_never_null column there in absurd (cc)
  in_column column (Number z) there is held = ap (loose_number column.kind) (sym (ap number_in is) ∙ ap (λ (k : Key). k.0) stands.under)
  in_column column (Text t) there is held = absurd (no_text column.kind t (table.key_kind column there) held)

  -- what the key's cell of a row stands for
  pub key_cell : (column : Column) → slice_get schema.columns schema.key ≡ Some column → loose_at schema row schema.key ≡ loose_number column.kind key.0
  key_cell column there =
      ap (λ (o : Option Column). loose_in o (cell_at row schema.key)) there ∙ in_column column (cell_at row schema.key) there refl (stands.row.held schema.key column there)

-- ---- constants beside a key

-- a number without decimals beside keys that are numbers
pub beside_numbers : (kind : ColumnType) → (kind ≡ TinyInt) ⊎ ((kind ≡ SmallInt) ⊎ ((kind ≡ Int) ⊎ (kind ≡ BigInt))) → (constant : Loose) (o : Option ℤ) → IfSome o (λ m. constant ≡ loose.Number m 0)
    → IfSome o (λ m. (sign : Relation) (z : ℤ) → compare sign (loose_number kind z) constant ≡ truth_if (holds sign (int_cmp z m)))
beside_numbers kind among constant None is = tt
beside_numbers kind (inl e) constant (Some m) is = λ sign z. (λ k. compare sign (loose_number (e k) z) (is k)) ∙ whole_stands sign z m
beside_numbers kind (inr (inl e)) constant (Some m) is = λ sign z. (λ k. compare sign (loose_number (e k) z) (is k)) ∙ whole_stands sign z m
beside_numbers kind (inr (inr (inl e))) constant (Some m) is = λ sign z. (λ k. compare sign (loose_number (e k) z) (is k)) ∙ whole_stands sign z m
beside_numbers kind (inr (inr (inr e))) constant (Some m) is = λ sign z. (λ k. compare sign (loose_number (e k) z) (is k)) ∙ whole_stands sign z m

-- a day beside keys that are days
pub beside_days : (kind : ColumnType) → kind ≡ Date → (constant : Loose) (o : Option ℤ) → IfSome o (λ m. constant ≡ loose.Day m) → IfSome o (λ m. (sign : Relation) (z : ℤ) → compare sign (loose_number kind z) constant ≡ truth_if (holds sign (int_cmp z m)))
beside_days kind e constant None is = tt
beside_days kind e constant (Some m) is = λ sign z k. compare sign (loose_number (e k) z) (is k)

pub some_weaker : {X : Type 0} (o : Option X) (P Q : X → Type 0) → ((x : X) → P x → Q x) → IfSome o P → IfSome o Q
some_weaker None P Q follows holds = tt
some_weaker (Some x) P Q follows holds = follows x holds

-- ---- two parts

pub both_true : (a b : Bool) → and (truth_if a) (truth_if b) ≡ truth_if (a && b)
both_true true b = refl
both_true false b = refl

pub is_true_if : (t : Bool) → is_true (truth_if t) ≡ t
is_true_if true = refl
is_true_if false = refl

-- a BETWEEN of the key
pub range_between : (schema : Schema) (row : List Value) (pred : Pred) (i : ℕ) (negated : Bool) (low high : Loose) (a b : Bool) → pred ≡ Between i negated low high → negated ≡ false → i ≡ schema.key
    → compare GreaterEqual (loose_at schema row schema.key) low ≡ truth_if a → compare LessEqual (loose_at schema row schema.key) high ≡ truth_if b → truth pred row schema ≡ truth_if (a && b)
range_between schema row pred i negated low high a b is plain key above below =
    ap (λ p. truth p row schema) is ∙ truth-between schema row i negated low high ∙ ap (λ t. not_if t (between low high (loose_at schema row i))) plain
    ∙ ap (λ k. between low high (loose_at schema row k)) key
    ∙ ap (λ t. and t (compare LessEqual (loose_at schema row schema.key) high)) above ∙ ap (and (truth_if a)) below ∙ both_true a b

-- two parts that an AND joins
pub two_parts : (schema : Schema) (row : List Value) (pred : Pred) (parts given : List Pred) → pred ≡ AllOf parts → given ≡ parts → 2 ≤ length given → length given < 3 → (p q : Pred) → p ≡ get_or given 0 p → q ≡ get_or given 1 q → (a b : Bool)
    → truth p row schema ≡ truth_if a → truth q row schema ≡ truth_if b → truth pred row schema ≡ truth_if (a && b)
two_parts schema row pred parts [] is same some few p q first second a b is_a is_b = absurd (omega (arith, some))
two_parts schema row pred parts (x ∷ []) is same some few p q first second a b is_a is_b = absurd (omega (arith, some))
two_parts schema row pred parts (x ∷ y ∷ []) is same some few p q first second a b is_a is_b =
    ap (λ r. truth r row schema) is ∙ truth-all schema row parts ∙ ap (λ l. all_of (map (λ part. truth part row schema) l)) (sym same)
    ∙ ap (λ t. and t (and (truth y row schema) True)) (ap (λ r. truth r row schema) (sym first) ∙ is_a)
    ∙ ap (λ t. and (truth_if a) (and t True)) (ap (λ r. truth r row schema) (sym second) ∙ is_b)
    ∙ ap (and (truth_if a)) (and_true b) ∙ both_true a b
  where
    and_true : (t : Bool) → and (truth_if t) True ≡ truth_if t
    and_true true = refl
    and_true false = refl
two_parts schema row pred parts (x ∷ y ∷ z ∷ rest) is same some few p q first second a b is_a is_b = absurd (omega (arith, few))
