-- How comparisons with a constant follow the order of cells.
use Rattle.std.proofs.Common.{◌≡◌, ◌≢◌, ℕ, ◌^◌, ℤ, pos, ◌*ℤ◌, Bool, true, false, Option, Some, None, List, refl, sym, ap, ◌∙◌, true≢false}
use Rattle.std.specs.Cmp.{IsTotalOrder}
use Rattle.std.specs.declared.cmp.Ordering.{Ordering}
use Rattle.std.specs.declared.cmp.Ordering.TheVariants as ordering
use Rattle.std.specs.Ordering.{int_cmp}
use Rattle.std.proofs.lemmas.Cmp.{alike_right, int_cmp_total, nat_list_cmp_total}
use Rattle.cs_types.specs.declared.ColumnType.{ColumnType}
use Rattle.cs_types.specs.declared.ColumnType.TheVariants.{TinyInt, SmallInt, Int, BigInt, Decimal, Date, VarChar}
use Rattle.cs_types.specs.declared.Value.{Value}
use Rattle.cs_types.specs.declared.Value.TheVariants.{Null, Number, Text}
use Rattle.cs_types.specs.declared.Loose.{Loose}
use Rattle.cs_types.specs.declared.Loose.TheVariants as loose
use Rattle.cs_types.specs.Text.{loose_of, loose_number}
use Rattle.cs_types.specs.Values.{value_cmp}
use Rattle.cs_model.specs.declared.pred.Relation.{Relation}
use Rattle.cs_model.specs.declared.pred.Relation.TheVariants as relation
use Rattle.cs_model.specs.Queries.{is_true}
use Rattle.cs_model.specs.Truths.{number_cmp, order_of, truth_of_order}
use Rattle.cs_predicate.proofs.Scales.{same_mul, ten_positive}

-- of two answers the second does not come before the first
abbrev pub is_rising : Ordering → Ordering → Bool
is_rising ordering.Less b = true
is_rising ordering.Equal ordering.Less = false
is_rising ordering.Equal ordering.Equal = true
is_rising ordering.Equal ordering.Greater = true
is_rising ordering.Greater ordering.Less = false
is_rising ordering.Greater ordering.Equal = false
is_rising ordering.Greater ordering.Greater = true

abbrev pub rises : Option Ordering → Option Ordering → Bool
rises None None = true
rises None (Some b) = false
rises (Some a) None = false
rises (Some a) (Some b) = is_rising a b

to_last : (a : Ordering) → is_rising a ordering.Greater ≡ true
to_last ordering.Less = refl
to_last ordering.Equal = refl
to_last ordering.Greater = refl

to_itself : (a : Ordering) → is_rising a a ≡ true
to_itself ordering.Less = refl
to_itself ordering.Equal = refl
to_itself ordering.Greater = refl

-- what does not come after another stands to a third as that does, or comes before it
total_rises : {K : Type 0} {R : K → K → Ordering} (o : IsTotalOrder R) (a b y : K) → R a b ≢ ordering.Greater → is_rising (R a y) (R b y) ≡ true
total_rises {K} {R} o a b y other = go (R a b) (R b y) refl refl
  where
    go : (r s : Ordering) → R a b ≡ r → R b y ≡ s → is_rising (R a y) (R b y) ≡ true
    go ordering.Greater s e f = absurd (other e)
    go ordering.Equal s e f = ap (λ z. is_rising z (R b y)) (o.congr a b y e) ∙ to_itself (R b y)
    go ordering.Less ordering.Less e f = ap (λ z. is_rising z (R b y)) (o.trans a b y e f)
    go ordering.Less ordering.Equal e f = ap (λ z. is_rising z (R b y)) (sym (alike_right o b y a f) ∙ e)
    go ordering.Less ordering.Greater e f = ap (λ z. is_rising (R a y) z) f ∙ to_last (R a y)

scaled_rises : (a b : ℤ) (s : ℕ) (n : ℤ) (t : ℕ) → int_cmp a b ≢ ordering.Greater → is_rising (number_cmp a s n t) (number_cmp b s n t) ≡ true
scaled_rises a b s n t other =
    total_rises int_cmp_total (a *ℤ pos (10 ^ t)) (b *ℤ pos (10 ^ t)) (n *ℤ pos (10 ^ s)) (λ e. other (sym (same_mul a b (10 ^ t) (ten_positive t)) ∙ e))

numbers_rise : (a b : ℤ) (s : ℕ) (x : Loose) → int_cmp a b ≢ ordering.Greater → rises (order_of (loose.Number a s) x) (order_of (loose.Number b s) x) ≡ true
numbers_rise a b s loose.Null other = refl
numbers_rise a b s (loose.Number n t) other = scaled_rises a b s n t other
numbers_rise a b s (loose.Text t) other = refl
numbers_rise a b s (loose.Day d) other = refl

days_rise : (a b : ℤ) (x : Loose) → int_cmp a b ≢ ordering.Greater → rises (order_of (loose.Day a) x) (order_of (loose.Day b) x) ≡ true
days_rise a b loose.Null other = refl
days_rise a b (loose.Number n t) other = refl
days_rise a b (loose.Text t) other = refl
days_rise a b (loose.Day d) other = total_rises int_cmp_total a b d other

texts_rise : (t u : List ℕ) (x : Loose) → value_cmp (Text t) (Text u) ≢ ordering.Greater → rises (order_of (loose.Text t) x) (order_of (loose.Text u) x) ≡ true
texts_rise t u loose.Null other = refl
texts_rise t u (loose.Number n s) other = refl
texts_rise t u (loose.Text y) other = total_rises nat_list_cmp_total t u y other
texts_rise t u (loose.Day d) other = refl

cells_rise : (kind : ColumnType) (a b : ℤ) (x : Loose) → int_cmp a b ≢ ordering.Greater → rises (order_of (loose_number kind a) x) (order_of (loose_number kind b) x) ≡ true
cells_rise TinyInt a b x other = numbers_rise a b 0 x other
cells_rise SmallInt a b x other = numbers_rise a b 0 x other
cells_rise Int a b x other = numbers_rise a b 0 x other
cells_rise BigInt a b x other = numbers_rise a b 0 x other
cells_rise (Decimal p s) a b x other = numbers_rise a b s x other
cells_rise Date a b x other = days_rise a b x other
cells_rise (VarChar n) a b x other = numbers_rise a b 0 x other

-- two values are both numbers, or both texts
abbrev pub are_alike : Value → Value → Bool
are_alike (Number a) (Number b) = true
are_alike (Text t) (Text u) = true
are_alike (Number a) (Text u) = false
are_alike (Number a) Null = false
are_alike (Text t) (Number b) = false
are_alike (Text t) Null = false
are_alike Null b = false

-- of two cells of a column the greater one stands to a constant as the less one does, or after it
pub order_rises : (kind : ColumnType) (v w : Value) (x : Loose) → are_alike v w ≡ true → value_cmp v w ≢ ordering.Greater → rises (order_of (loose_of kind v) x) (order_of (loose_of kind w) x) ≡ true
order_rises kind (Number a) (Number b) x same other = cells_rise kind a b x other
order_rises kind (Text t) (Text u) x same other = texts_rise t u x other
order_rises kind (Number a) (Text u) x same other = absurd (true≢false (sym same))
order_rises kind (Number a) Null x same other = absurd (true≢false (sym same))
order_rises kind (Text t) (Number b) x same other = absurd (true≢false (sym same))
order_rises kind (Text t) Null x same other = absurd (true≢false (sym same))
order_rises kind Null w x same other = absurd (true≢false (sym same))

-- an order is such as a sign asks for
abbrev pub is_such : Relation → Option Ordering → Bool
is_such sign order = is_true (truth_of_order sign order)

-- where the later of two stands below a constant, or at most at it, so does the earlier one; and where the earlier stands
-- above it, or at least at it, so does the later one
pub less_falls : (a b : Option Ordering) → rises a b ≡ true → is_such relation.Less b ≡ true → is_such relation.Less a ≡ true
less_falls None None r h = h
less_falls None (Some b) r h = absurd (true≢false (sym r))
less_falls (Some a) None r h = absurd (true≢false (sym h))
less_falls (Some ordering.Less) (Some b) r h = refl
less_falls (Some ordering.Equal) (Some ordering.Less) r h = absurd (true≢false (sym r))
less_falls (Some ordering.Equal) (Some ordering.Equal) r h = h
less_falls (Some ordering.Equal) (Some ordering.Greater) r h = h
less_falls (Some ordering.Greater) (Some ordering.Less) r h = absurd (true≢false (sym r))
less_falls (Some ordering.Greater) (Some ordering.Equal) r h = h
less_falls (Some ordering.Greater) (Some ordering.Greater) r h = h

pub less_equal_falls : (a b : Option Ordering) → rises a b ≡ true → is_such relation.LessEqual b ≡ true → is_such relation.LessEqual a ≡ true
less_equal_falls None None r h = h
less_equal_falls None (Some b) r h = absurd (true≢false (sym r))
less_equal_falls (Some a) None r h = absurd (true≢false (sym h))
less_equal_falls (Some ordering.Less) (Some b) r h = refl
less_equal_falls (Some ordering.Equal) (Some b) r h = refl
less_equal_falls (Some ordering.Greater) (Some ordering.Less) r h = absurd (true≢false (sym r))
less_equal_falls (Some ordering.Greater) (Some ordering.Equal) r h = absurd (true≢false (sym r))
less_equal_falls (Some ordering.Greater) (Some ordering.Greater) r h = h

pub greater_climbs : (a b : Option Ordering) → rises a b ≡ true → is_such relation.Greater a ≡ true → is_such relation.Greater b ≡ true
greater_climbs None None r h = h
greater_climbs None (Some b) r h = absurd (true≢false (sym r))
greater_climbs (Some a) None r h = absurd (true≢false (sym r))
greater_climbs (Some ordering.Less) (Some b) r h = absurd (true≢false (sym h))
greater_climbs (Some ordering.Equal) (Some b) r h = absurd (true≢false (sym h))
greater_climbs (Some ordering.Greater) (Some ordering.Less) r h = absurd (true≢false (sym r))
greater_climbs (Some ordering.Greater) (Some ordering.Equal) r h = absurd (true≢false (sym r))
greater_climbs (Some ordering.Greater) (Some ordering.Greater) r h = h

pub greater_equal_climbs : (a b : Option Ordering) → rises a b ≡ true → is_such relation.GreaterEqual a ≡ true → is_such relation.GreaterEqual b ≡ true
greater_equal_climbs None None r h = h
greater_equal_climbs None (Some b) r h = absurd (true≢false (sym r))
greater_equal_climbs (Some a) None r h = absurd (true≢false (sym r))
greater_equal_climbs (Some ordering.Less) (Some b) r h = absurd (true≢false (sym h))
greater_equal_climbs (Some ordering.Equal) (Some ordering.Less) r h = absurd (true≢false (sym r))
greater_equal_climbs (Some ordering.Equal) (Some ordering.Equal) r h = refl
greater_equal_climbs (Some ordering.Equal) (Some ordering.Greater) r h = refl
greater_equal_climbs (Some ordering.Greater) (Some ordering.Less) r h = absurd (true≢false (sym r))
greater_equal_climbs (Some ordering.Greater) (Some ordering.Equal) r h = absurd (true≢false (sym r))
greater_equal_climbs (Some ordering.Greater) (Some ordering.Greater) r h = h
