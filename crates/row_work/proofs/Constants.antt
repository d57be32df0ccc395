-- Keys that equal constants.
use Rattle.std.proofs.Common.{◌≡◌, ℕ, zero, suc, ◌+◌, ◌*◌, ◌^◌, ◌≤◌, ℤ, pos, negsuc, ◌*ℤ◌, neg_ℤ, Bool, true, false, cond, IsTrue, FitsSigned, w64, List, [], ◌∷◌, ◌++◌, take, refl, sym, ap, ◌∙◌, subst, arith}
use Rattle.std.specs.Prelude.{Option, None, Some, Ok, Err, int_lt, slice_get}
use Rattle.std.specs.Ordering.{is_eq, int_cmp}
use Rattle.std.specs.Cmp.{Equal-is}
use Rattle.std.specs.List.{All, Contains}
use Rattle.std.specs.Option.{option_to_list}
use Rattle.std.proofs.lemmas.Bool.Decides.{nat_tests}
use Rattle.std.proofs.lemmas.Int.{ints}
use Rattle.std.proofs.lemmas.List.Elements.{All-push, All-weaker, Contains-append_left, Contains-push}
use Rattle.std.proofs.lemmas.Map.Lookups.{exact_signed}
use Rattle.std.proofs.lemmas.Option.{none-some, same_Some}
use Rattle.cs_types.specs.declared.Column.{Column}
use Rattle.cs_types.specs.declared.ColumnType.{ColumnType}
use Rattle.cs_types.specs.declared.ColumnType.TheVariants.{TinyInt, SmallInt, Int, BigInt, Decimal, Date, VarChar}
use Rattle.cs_types.specs.declared.Key.{Key}
use Rattle.cs_types.specs.declared.Loose.{Loose}
use Rattle.cs_types.specs.declared.Loose.TheVariants as loose
use Rattle.cs_types.specs.declared.Schema.{Schema}
use Rattle.cs_types.specs.declared.Value.{Value}
use Rattle.cs_types.specs.declared.Value.TheVariants.{Null, Number, Text}
use Rattle.cs_types.specs.declared.refusal.ValueRefusal.{ValueRefusal}
use Rattle.cs_types.specs.declared.refusal.ValueRefusal.TheVariants.{Overflow}
use Rattle.cs_types.specs.Fit.{fit, kept_or, nearest, rounded}
use Rattle.cs_types.specs.Kinds.{is_short, keeps_number}
use Rattle.cs_types.specs.Rows.{cell_at, number_in}
use Rattle.cs_types.specs.Schemas.{is_key_kind, IsSchema, may_hold}
use Rattle.cs_types.specs.Text.{loose_number, loose_of}
use Rattle.cs_types.proofs.FitLemmas.{keeps_number-fits, ten_positive}
use Rattle.cs_types.proofs.Rounding.{nearest-unique}
use Rattle.cs_model.specs.declared.pred.Relation.{Relation}
use Rattle.cs_model.specs.declared.pred.Relation.TheVariants as relation
use Rattle.cs_model.specs.declared.truth.Truth.TheVariants.{True}
use Rattle.cs_model.specs.Cells.{loose_at, loose_in}
use Rattle.cs_model.specs.Held.{IsRowAt}
use Rattle.cs_model.specs.Truths.{compare, number_cmp, truth_if}
use Rattle.edit_laws.proofs.Lists.{take_next}
use Rattle.row_work.proofs.Fitting.{column_at}

-- ---- whole numbers

pub one_mul : (m : ℤ) → m *ℤ pos (10 ^ 0) ≡ m
one_mul (pos n) = let same : n * 10 ^ 0 ≡ n = omega arith in ap pos same
one_mul (negsuc n) = let same : suc n * 10 ^ 0 ≡ suc n = omega arith in ap (λ k. neg_ℤ (pos k)) same

nearest_whole : (n s : ℕ) → nearest (n * 10 ^ s) s 0 ≡ n
nearest_whole n s =
    let same : n * 10 ^ s * 10 ^ 0 ≡ n * 10 ^ s = omega arith in
    let one = ten_positive s in
    nearest-unique (n * 10 ^ s) s 0 n (omega (arith, same), omega (arith, same, one))

rounded_below : (n k s : ℕ) → 1 ≤ n → nearest n s 0 ≡ suc k → rounded (neg_ℤ (pos n)) s 0 ≡ negsuc k
rounded_below zero k s one is = absurd (omega (arith, one))
rounded_below (suc n) k s one is = ap (λ r. neg_ℤ (pos r)) is

none_below : (k : ℕ) → int_lt (pos k) (pos 0) ≡ false
none_below k = grind (arith, nat_tests)

-- a number that is whole at its scale is rounded to itself
rounded_whole : (z : ℤ) (s : ℕ) → rounded (z *ℤ pos (10 ^ s)) s 0 ≡ z
rounded_whole (pos n) s =
    let size = nearest (n * 10 ^ s) s 0 in
    ap (λ t. cond t (neg_ℤ (pos size)) (pos size)) (none_below (n * 10 ^ s)) ∙ ap pos (nearest_whole n s)
rounded_whole (negsuc n) s =
    let one = ten_positive s in
    rounded_below (suc n * 10 ^ s) n s (omega (arith, one)) (nearest_whole (suc n) s)

big : (z : ℤ) → FitsSigned w64 z → keeps_number BigInt z ≡ true
big z small = grind (arith, ints)

-- a number that equals a whole one is kept as it
fit_whole : (z m : ℤ) (s : ℕ) → FitsSigned w64 z → is_eq (number_cmp z 0 m s) ≡ true → fit BigInt false (loose.Number m s) ≡ Ok (Number z)
fit_whole z m s small equal =
    let product = exact_signed (z *ℤ pos (10 ^ s)) (m *ℤ pos (10 ^ 0)) ((Equal-is (number_cmp z 0 m s)).0 equal) ∙ one_mul m in
    let is : rounded m s 0 ≡ z = subst (λ w. rounded w s 0 ≡ z) product (rounded_whole z s) in
    ap (λ r. kept_or BigInt Overflow (Number r)) is ∙ ap (λ t. cond t (Ok (Number z)) (Err Overflow)) (big z small)

-- what is kept of such a number is the whole one
pub kept_whole : (z m : ℤ) (s : ℕ) (v : Value) → FitsSigned w64 z → is_eq (number_cmp z 0 m s) ≡ true → Ok v ≡ fit BigInt false (loose.Number m s) → v ≡ Number z
kept_whole z m s v small equal is = let both : Ok v ≡ Ok (Number z) = is ∙ fit_whole z m s small equal in cc

pub never_refused : (B : Type 0) (z m : ℤ) (s : ℕ) (e : ValueRefusal) → FitsSigned w64 z → is_eq (number_cmp z 0 m s) ≡ true → Err e ≡ fit BigInt false (loose.Number m s) → B
never_refused B z m s e small equal is = let both : Err e ≡ Ok (Number z) = is ∙ fit_whole z m s small equal in absurd (cc)

-- ---- comparisons that are True

pub true_if : (t : Bool) → truth_if t ≡ True → t ≡ true
true_if true is = refl
true_if false is = cc

null_never : (sign : Relation) (x : Loose) → compare sign loose.Null x ≡ True → ⊥
null_never sign loose.Null is = cc
null_never sign (loose.Number m s) is = cc
null_never sign (loose.Text t) is = cc
null_never sign (loose.Day d) is = cc

never_null : (x : Loose) → compare relation.Equal x loose.Null ≡ True → ⊥
never_null loose.Null is = cc
never_null (loose.Number m s) is = cc
never_null (loose.Text t) is = cc
never_null (loose.Day d) is = cc

pub no_text : (kind : ColumnType) (t : List ℕ) → is_key_kind kind ≡ true → is_short kind t ≡ true → ⊥
no_text TinyInt t key short = cc
no_text SmallInt t key short = cc
no_text Int t key short = cc
no_text BigInt t key short = cc
no_text (Decimal p s) t key short = cc
no_text Date t key short = cc
no_text (VarChar n) t key short = cc

number_key : (kind : ColumnType) (z m : ℤ) (s : ℕ) → is_key_kind kind ≡ true → compare relation.Equal (loose_number kind z) (loose.Number m s) ≡ True → is_eq (number_cmp z 0 m s) ≡ true
number_key TinyInt z m s key is = true_if (is_eq (number_cmp z 0 m s)) is
number_key SmallInt z m s key is = true_if (is_eq (number_cmp z 0 m s)) is
number_key Int z m s key is = true_if (is_eq (number_cmp z 0 m s)) is
number_key BigInt z m s key is = true_if (is_eq (number_cmp z 0 m s)) is
number_key (Decimal p t) z m s key is = cc
number_key Date z m s key is = cc
number_key (VarChar n) z m s key is = cc

never_text : (kind : ColumnType) (z : ℤ) (t : List ℕ) → compare relation.Equal (loose_number kind z) (loose.Text t) ≡ True → ⊥
never_text TinyInt z t is = cc
never_text SmallInt z t is = cc
never_text Int z t is = cc
never_text BigInt z t is = cc
never_text (Decimal p s) z t is = cc
never_text Date z t is = cc
never_text (VarChar n) z t is = cc

day_key : (kind : ColumnType) (z d : ℤ) → is_key_kind kind ≡ true → compare relation.Equal (loose_number kind z) (loose.Day d) ≡ True → z ≡ d
day_key TinyInt z d key is = cc
day_key SmallInt z d key is = cc
day_key Int z d key is = cc
day_key BigInt z d key is = cc
day_key (Decimal p s) z d key is = cc
day_key Date z d key is = exact_signed z d ((Equal-is (int_cmp z d)).0 (true_if (is_eq (int_cmp z d)) is))
day_key (VarChar n) z d key is = cc

-- ---- the key of a row that stands so to a constant

-- a number that is kept in a key column stands so to the constant
pub record StandsToKey (sign : Relation) (constant : Loose) (key : Key) : Type 0 where
  pub kind : ColumnType
  pub is_key : is_key_kind kind ≡ true
  pub small : FitsSigned w64 key.0
  pub stands : compare sign (loose_number kind key.0) constant ≡ True

abbrev pub EqualsKey : Loose → Key → Type 0
EqualsKey constant key = StandsToKey relation.Equal constant key

module _ (schema : Schema) (key : Key) (row : List Value) (table : IsSchema schema) (stands : IsRowAt schema key row) where
  -- the number of the key
  own_number : (z : ℤ) → cell_at row schema.key ≡ Number z → z ≡ key.0
  own_number z is = sym (ap number_in is) ∙ ap (λ (k : Key). k.0) stands.under

  small_number : (column : Column) (z : ℤ) → slice_get schema.columns schema.key ≡ Some column → cell_at row schema.key ≡ Number z → IsTrue (may_hold column (Number z)) → FitsSigned w64 key.0
  small_number column z there is held = subst (λ n. FitsSigned w64 n) (own_number z is) (keeps_number-fits column.kind z (table.kinds schema.key column there) held)

  small_in : (column : Column) (v : Value) → slice_get schema.columns schema.key ≡ Some column → cell_at row schema.key ≡ v → IsTrue (may_hold column v) → FitsSigned w64 key.0
  small_in column Null there is held = let never = table.key_never_null column there in absurd (cc)
  small_in column (Number z) there is held = small_number column z there is held
  small_in column (Text t) there is held = absurd (no_text column.kind t (table.key_kind column there) held)

  -- a key is a number of 64 bits
  pub key_small : FitsSigned w64 key.0
  key_small = let column = column_at schema.columns schema.key table.key_there in small_in column.0 (cell_at row schema.key) column.1 refl (stands.row.held schema.key column.0 column.1)

  module _ (sign : Relation) (constant : Loose) where
    in_column : (column : Column) (v : Value) → slice_get schema.columns schema.key ≡ Some column → cell_at row schema.key ≡ v → IsTrue (may_hold column v) → compare sign (loose_of column.kind v) constant ≡ True → StandsToKey sign constant key
    in_column column Null there is held true' = absurd (null_never sign constant true')
    in_column column (Number z) there is held true' = record {
      kind = column.kind;
      is_key = table.key_kind column there;
      small = small_number column z there is held;
      stands = subst (λ n. compare sign (loose_number column.kind n) constant ≡ True) (own_number z is) true';
    }
    in_column column (Text t) there is held true' = absurd (no_text column.kind t (table.key_kind column there) held)

    pub stands_to_key : compare sign (loose_at schema row schema.key) constant ≡ True → StandsToKey sign constant key
    stands_to_key true' = step (slice_get schema.columns schema.key) refl true'
      where
        step : (o : Option Column) → slice_get schema.columns schema.key ≡ o → compare sign (loose_in o (cell_at row schema.key)) constant ≡ True → StandsToKey sign constant key
        step None there is = absurd (null_never sign constant is)
        step (Some column) there is = in_column column (cell_at row schema.key) there refl (stands.row.held schema.key column there) is

  pub equals_key : (constant : Loose) → compare relation.Equal (loose_at schema row schema.key) constant ≡ True → EqualsKey constant key
  equals_key constant equal = stands_to_key relation.Equal constant equal

pub no_key_of_null : (B : Type 0) (key : Key) → EqualsKey loose.Null key → B
no_key_of_null B key e = absurd (never_null (loose_number e.kind key.0) e.stands)

pub no_key_of_text : (B : Type 0) (key : Key) (t : List ℕ) → EqualsKey (loose.Text t) key → B
no_key_of_text B key t e = absurd (never_text e.kind key.0 t e.stands)

pub key_of_day : (key : Key) (d : ℤ) → EqualsKey (loose.Day d) key → record { 0 = d } ≡ key
key_of_day key d e = ap (λ n. record { 0 = n }) (sym (day_key e.kind key.0 d e.is_key e.stands))

-- a number that equals a key, by what is found of every whole number that it equals
pub key_of_number : (key : Key) (m : ℤ) (s : ℕ) (o : Option ℤ) → ((z : ℤ) → FitsSigned w64 z → is_eq (number_cmp z 0 m s) ≡ true → o ≡ Some z) → EqualsKey (loose.Number m s) key → o ≡ Some key.0
key_of_number key m s o found e = found key.0 e.small (number_key e.kind key.0 m s e.is_key e.stands)

-- ---- one constant more

-- the constant equals the key only where that is listed
abbrev pub Listed : Loose → Key → List Key → Loose → Type 0
Listed x key keys constant = compare relation.Equal x constant ≡ True → Contains keys key

-- a place more of the constants
next_constant : (constants : List Loose) (i : ℕ) (constant : Loose) → slice_get constants i ≡ Some constant → take (i + 1) constants ≡ take i constants ++ constant ∷ []
next_constant constants i constant there =
    let next : i + 1 ≡ suc i = omega arith in
    ap (λ n. take n constants) next ∙ take_next constants i ∙ ap (λ o. take i constants ++ option_to_list o) there

pub listed_some : (x : Loose) (key k : Key) (keys : List Key) (constants : List Loose) (i : ℕ) (constant : Loose) → slice_get constants i ≡ Some constant
    → (compare relation.Equal x constant ≡ True → Some k ≡ Some key) → All (Listed x key keys) (take i constants) → All (Listed x key (keys ++ k ∷ [])) (take (i + 1) constants)
listed_some x key k keys constants i constant there own all =
    let more = keys ++ k ∷ [] in
    subst (All (Listed x key more)) (sym (next_constant constants i constant there))
    (All-push (Listed x key more) (take i constants) constant
    (All-weaker (Listed x key keys) (Listed x key more) (λ c listed is. Contains-append_left keys (k ∷ []) key (listed is)) (take i constants) all)
    (λ is. subst (Contains more) (same_Some k key (own is)) (Contains-push keys k)))

pub listed_none : (x : Loose) (key : Key) (keys : List Key) (constants : List Loose) (i : ℕ) (constant : Loose) → slice_get constants i ≡ Some constant
    → (compare relation.Equal x constant ≡ True → None ≡ Some key) → All (Listed x key keys) (take i constants) → All (Listed x key keys) (take (i + 1) constants)
listed_none x key keys constants i constant there own all =
    subst (All (Listed x key keys)) (sym (next_constant constants i constant there))
    (All-push (Listed x key keys) (take i constants) constant all (λ is. absurd (none-some key (own is))))
