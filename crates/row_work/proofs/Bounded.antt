-- Keys that stand so to a constant, and the bounds of these.
use Rattle.std.proofs.Common.{◌≡◌, ℕ, ◌^◌, ℤ, pos, negsuc, ◌*ℤ◌, ◌≤ℤ◌, Bool, true, false, cond, FitsSigned, w64, List, map, refl, sym, ap, ◌∙◌, subst, arith}
use Rattle.std.specs.declared.cmp.Ordering.{Ordering}
use Rattle.std.specs.declared.cmp.Ordering.TheVariants.{Less, Equal, Greater}
use Rattle.std.specs.Ordering.{int_cmp, nat_cmp, is_eq, is_ge, is_gt, is_le, is_lt, ordering_reverse}
use Rattle.std.specs.Cmp.{IsTotalOrder}
use Rattle.std.specs.Cmp.Lexicographic.{slice_cmp}
use Rattle.std.proofs.lemmas.Bool.{and_from, and_parts}
use Rattle.std.proofs.lemmas.Cmp.{int_cmp_total, nat_list_cmp_total}
use Rattle.std.proofs.lemmas.Int.{ints}
use Rattle.cs_types.specs.declared.ColumnType.{ColumnType}
use Rattle.cs_types.specs.declared.ColumnType.TheVariants.{TinyInt, SmallInt, Int, BigInt, Decimal, Date, VarChar}
use Rattle.cs_types.specs.declared.Key.{Key}
use Rattle.cs_types.specs.declared.Loose.{Loose}
use Rattle.cs_types.specs.declared.Loose.TheVariants as loose
use Rattle.cs_types.specs.declared.Schema.{Schema}
use Rattle.cs_types.specs.declared.Value.{Value}
use Rattle.cs_types.specs.Keys.{key_cmp}
use Rattle.cs_types.specs.Schemas.{is_key_kind}
use Rattle.cs_types.specs.Text.{loose_number}
use Rattle.cs_model.specs.declared.pred.Relation.{Relation}
use Rattle.cs_model.specs.declared.pred.Relation.TheVariants as relation
use Rattle.cs_model.specs.declared.truth.Truth.TheVariants.{True}
use Rattle.cs_model.specs.Cells.{loose_at}
use Rattle.cs_model.specs.Truths.{all_of, between, compare, holds, not_if, number_cmp, truth, truth_if}
use Rattle.delta_store.specs.Index.{is_between}
use Rattle.cs_model.specs.declared.pred.Pred.{Pred}
use Rattle.cs_model.specs.declared.pred.Pred.TheVariants.{AllOf, Between}
use Rattle.batch_filter.proofs.VerdictLemmas.{truth-all, truth-between}
use Rattle.row_work.specs.declared.bounds.Bounds.{Bounds}
use Rattle.row_work.specs.Bounds.{IsWithin}
use Rattle.row_work.proofs.Constants.{one_mul, true_if, StandsToKey}

-- ---- comparisons of a key with a constant

whole_cmp : (sign : Relation) (z m : ℤ) → holds sign (number_cmp z 0 m 0) ≡ true → holds sign (int_cmp z m) ≡ true
whole_cmp sign z m is = subst (λ a. holds sign (int_cmp a m) ≡ true) (one_mul z) (subst (λ b. holds sign (int_cmp (z *ℤ pos (10 ^ 0)) b) ≡ true) (one_mul m) is)

number_stands : (sign : Relation) (kind : ColumnType) (z m : ℤ) → is_key_kind kind ≡ true → compare sign (loose_number kind z) (loose.Number m 0) ≡ True → holds sign (int_cmp z m) ≡ true
number_stands sign TinyInt z m key is = whole_cmp sign z m (true_if (holds sign (number_cmp z 0 m 0)) is)
number_stands sign SmallInt z m key is = whole_cmp sign z m (true_if (holds sign (number_cmp z 0 m 0)) is)
number_stands sign Int z m key is = whole_cmp sign z m (true_if (holds sign (number_cmp z 0 m 0)) is)
number_stands sign BigInt z m key is = whole_cmp sign z m (true_if (holds sign (number_cmp z 0 m 0)) is)
number_stands sign (Decimal p t) z m key is = cc
number_stands sign Date z m key is = cc
number_stands sign (VarChar n) z m key is = cc

day_stands : (sign : Relation) (kind : ColumnType) (z d : ℤ) → is_key_kind kind ≡ true → compare sign (loose_number kind z) (loose.Day d) ≡ True → holds sign (int_cmp z d) ≡ true
day_stands sign TinyInt z d key is = cc
day_stands sign SmallInt z d key is = cc
day_stands sign Int z d key is = cc
day_stands sign BigInt z d key is = cc
day_stands sign (Decimal p s) z d key is = cc
day_stands sign Date z d key is = true_if (holds sign (int_cmp z d)) is
day_stands sign (VarChar n) z d key is = cc

pub stands_number : (sign : Relation) (m : ℤ) (key : Key) → StandsToKey sign (loose.Number m 0) key → holds sign (int_cmp key.0 m) ≡ true
stands_number sign m key e = number_stands sign e.kind key.0 m e.is_key e.stands

pub stands_day : (sign : Relation) (d : ℤ) (key : Key) → StandsToKey sign (loose.Day d) key → holds sign (int_cmp key.0 d) ≡ true
stands_day sign d key e = day_stands sign e.kind key.0 d e.is_key e.stands

-- ---- bounds

le_of : (a b : ℤ) → a ≤ℤ b → is_le (int_cmp a b) ≡ true
le_of a b le = grind (arith, ints)

pub within : (bounds : Bounds) (key : Key) → bounds.least.0 ≤ℤ key.0 → key.0 ≤ℤ bounds.greatest.0 → IsWithin bounds key
within bounds key low high = and_from (is_le (int_cmp bounds.least.0 key.0)) (is_le (int_cmp key.0 bounds.greatest.0)) (le_of bounds.least.0 key.0 low) (le_of key.0 bounds.greatest.0 high)

-- what an order tells of two numbers
pub eq_tells : (z m : ℤ) → is_eq (int_cmp z m) ≡ true → (m ≤ℤ z) × (z ≤ℤ m)
eq_tells z m is = grind (arith, ints)

pub lt_tells : (z m : ℤ) → is_lt (int_cmp z m) ≡ true → z ≤ℤ m
lt_tells z m is = grind (arith, ints)

pub le_tells : (z m : ℤ) → is_le (int_cmp z m) ≡ true → z ≤ℤ m
le_tells z m is = grind (arith, ints)

pub gt_tells : (z m : ℤ) → is_gt (int_cmp z m) ≡ true → m ≤ℤ z
gt_tells z m is = grind (arith, ints)

pub ge_tells : (z m : ℤ) → is_ge (int_cmp z m) ≡ true → m ≤ℤ z
ge_tells z m is = grind (arith, ints)

pub least_of_all : (z : ℤ) → FitsSigned w64 z → negsuc 9223372036854775807 ≤ℤ z
least_of_all z small = grind (arith, ints)

pub greatest_of_all : (z : ℤ) → FitsSigned w64 z → z ≤ℤ pos 9223372036854775807
greatest_of_all z small = grind (arith, ints)

-- a key of 64 bits is one of all
pub among_all : (bounds : Bounds) (key : Key) → bounds.least.0 ≡ negsuc 9223372036854775807 → bounds.greatest.0 ≡ pos 9223372036854775807 → FitsSigned w64 key.0 → IsWithin bounds key
among_all bounds key low high small = within bounds key (subst (λ z. z ≤ℤ key.0) (sym low) (least_of_all key.0 small)) (subst (λ z. key.0 ≤ℤ z) (sym high) (greatest_of_all key.0 small))

either : (P : Key → Type 0) (t : Bool) (a b : Key) → P a → P b → P (cond t a b)
either P true a b in_a in_b = in_a
either P false a b in_a in_b = in_b

-- the greater of two leasts and the less of two greatests
pub meets : (a b : Bounds) (least greatest key : Key) (s t : Bool) → least ≡ cond s a.least b.least → greatest ≡ cond t b.greatest a.greatest → IsWithin a key → IsWithin b key → is_between least greatest key ≡ true
meets a b least greatest key s t least_is greatest_is in_a in_b =
    let of_a = and_parts (is_le (key_cmp a.least key)) (is_le (key_cmp key a.greatest)) in_a in
    let of_b = and_parts (is_le (key_cmp b.least key)) (is_le (key_cmp key b.greatest)) in_b in
    and_from (is_le (key_cmp least key)) (is_le (key_cmp key greatest))
    (subst (λ (k : Key). is_le (key_cmp k key) ≡ true) (sym least_is) (either (λ (k : Key). is_le (key_cmp k key) ≡ true) s a.least b.least of_a.0 of_b.0))
    (subst (λ (k : Key). is_le (key_cmp key k) ≡ true) (sym greatest_is) (either (λ (k : Key). is_le (key_cmp key k) ≡ true) t b.greatest a.greatest of_b.1 of_a.1))

-- ---- sides turned

turned_order : {X : Type 0} (R : X → X → Ordering) → IsTotalOrder R → (sign back : Relation) → ((o : Ordering) → holds back (ordering_reverse o) ≡ holds sign o) → (a b : X) → truth_if (holds back (R b a)) ≡ truth_if (holds sign (R a b))
turned_order R total sign back same a b = ap (λ (o : Ordering). truth_if (holds back o)) (total.antisymm b a) ∙ ap truth_if (same (R a b))

-- where a relation holds of each order as another one does of the order turned round, the sides may change places
pub compare_turned : (sign back : Relation) → ((o : Ordering) → holds back (ordering_reverse o) ≡ holds sign o) → (a b : Loose) → compare back b a ≡ compare sign a b
compare_turned sign back same loose.Null loose.Null = refl
compare_turned sign back same loose.Null (loose.Number n t) = refl
compare_turned sign back same loose.Null (loose.Text t) = refl
compare_turned sign back same loose.Null (loose.Day d) = refl
compare_turned sign back same (loose.Number m s) loose.Null = refl
compare_turned sign back same (loose.Number m s) (loose.Number n t) = turned_order int_cmp int_cmp_total sign back same (m *ℤ pos (10 ^ t)) (n *ℤ pos (10 ^ s))
compare_turned sign back same (loose.Number m s) (loose.Text t) = refl
compare_turned sign back same (loose.Number m s) (loose.Day d) = refl
compare_turned sign back same (loose.Text a) loose.Null = refl
compare_turned sign back same (loose.Text a) (loose.Number n t) = refl
compare_turned sign back same (loose.Text a) (loose.Text b) = turned_order (slice_cmp nat_cmp) nat_list_cmp_total sign back same a b
compare_turned sign back same (loose.Text a) (loose.Day d) = refl
compare_turned sign back same (loose.Day a) loose.Null = refl
compare_turned sign back same (loose.Day a) (loose.Number n t) = refl
compare_turned sign back same (loose.Day a) (loose.Text t) = refl
compare_turned sign back same (loose.Day a) (loose.Day b) = turned_order int_cmp int_cmp_total sign back same a b

pub equal_back : (o : Ordering) → holds relation.Equal (ordering_reverse o) ≡ holds relation.Equal o
equal_back Less = refl
equal_back Equal = refl
equal_back Greater = refl

pub not_equal_back : (o : Ordering) → holds relation.NotEqual (ordering_reverse o) ≡ holds relation.NotEqual o
not_equal_back Less = refl
not_equal_back Equal = refl
not_equal_back Greater = refl

pub less_back : (o : Ordering) → holds relation.Greater (ordering_reverse o) ≡ holds relation.Less o
less_back Less = refl
less_back Equal = refl
less_back Greater = refl

pub less_equal_back : (o : Ordering) → holds relation.GreaterEqual (ordering_reverse o) ≡ holds relation.LessEqual o
less_equal_back Less = refl
less_equal_back Equal = refl
less_equal_back Greater = refl

pub greater_back : (o : Ordering) → holds relation.Less (ordering_reverse o) ≡ holds relation.Greater o
greater_back Less = refl
greater_back Equal = refl
greater_back Greater = refl

pub greater_equal_back : (o : Ordering) → holds relation.LessEqual (ordering_reverse o) ≡ holds relation.GreaterEqual o
greater_equal_back Less = refl
greater_equal_back Equal = refl
greater_equal_back Greater = refl

-- ---- parts of a condition

-- a BETWEEN of the key
pub key_between : (schema : Schema) (row : List Value) (pred : Pred) (i : ℕ) (negated : Bool) (low high : Loose) → pred ≡ Between i negated low high → negated ≡ false → i ≡ schema.key → truth pred row schema ≡ True → between low high (loose_at schema row schema.key) ≡ True
key_between schema row pred i negated low high is plain key holds =
    let whole : not_if negated (between low high (loose_at schema row i)) ≡ True = sym (truth-between schema row i negated low high) ∙ ap (λ p. truth p row schema) (sym is) ∙ holds in
    ap (λ k. between low high (loose_at schema row k)) (sym key) ∙ subst (λ t. not_if t (between low high (loose_at schema row i)) ≡ True) plain whole

pub all_parts : (schema : Schema) (row : List Value) (pred : Pred) (parts given : List Pred) → pred ≡ AllOf parts → given ≡ parts → truth pred row schema ≡ True → all_of (map (λ part. truth part row schema) given) ≡ True
all_parts schema row pred parts given is same holds =
    ap (λ l. all_of (map (λ part. truth part row schema) l)) same ∙ sym (truth-all schema row parts) ∙ ap (λ p. truth p row schema) (sym is) ∙ holds
