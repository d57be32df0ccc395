-- Where a key lies to those of a group, by its segment's least and greatest.
use Rattle.std.proofs.Common.{◌≡◌, ◌≢◌, ℕ, ℤ, ◌<ℤ◌, ◌≤ℤ◌, ◌<◌, List, [], length, get_or, refl, sym, ◌∙◌, ap, subst, arith, false, true≢false, Contains}
use Rattle.std.specs.declared.cmp.Ordering.{Ordering}
use Rattle.std.specs.declared.cmp.Ordering.TheVariants.{Less, Equal, Greater}
use Rattle.std.specs.Ordering.{int_cmp, MatchOrdering}
use Rattle.std.specs.Cmp.{int_cmp_is}
use Rattle.std.proofs.lemmas.Cmp.{int_ranked}
use Rattle.std.proofs.lemmas.Int.{ints}
use Rattle.std.proofs.lemmas.List.{get_or-map, length-map}
use Rattle.std.proofs.lemmas.List.Elements.{Contains-get_or}
use Rattle.cs_types.specs.declared.Key.{Key}
use Rattle.cs_types.specs.declared.Value.{Value}
use Rattle.cs_types.specs.declared.Value.TheVariants.{Null, Number, Text}
use Rattle.cs_types.specs.Rows.{cell_at, number_in}
use Rattle.cs_types.specs.Values.{value_cmp}
use Rattle.column_segment.specs.declared.body.SegmentBody.{SegmentBody}
use Rattle.column_segment.specs.Segments.{IsSegmentOf}
use Rattle.row_group.specs.Rows.{PackedRow, column_of}
use Rattle.row_group.specs.Groups.{Group, row_at, IsSide}

not_greater : (m n : ℤ) → int_cmp m n ≢ Greater → m ≤ℤ n
not_greater m n other = go (int_cmp m n) refl (int_ranked m n (int_cmp m n) refl)
  where
    go : (r : Ordering) → int_cmp m n ≡ r → MatchOrdering r (m <ℤ n) (m ≡ n) (n <ℤ m) → m ≤ℤ n
    go Less e less = omega (arith, ints)
    go Equal e same = omega (arith, ints)
    go Greater e more = absurd (other e)

-- a number from one up to another
abbrev IsNumberIn : ℤ → ℤ → Value → Type 0
IsNumberIn least greatest Null = ⊥
IsNumberIn least greatest (Number n) = (least ≤ℤ n) × (n ≤ℤ greatest)
IsNumberIn least greatest (Text t) = ⊥

-- cells without NULL whose least and greatest are numbers are numbers between these
numbers_in : (cells : List Value) (count : ℕ) (body : SegmentBody) (least greatest : ℤ) → IsSegmentOf cells count body (Number least) (Number greatest) false → (k : ℕ) → k < length cells → IsNumberIn least greatest (get_or cells k Null)
numbers_in cells count body least greatest is k l = go (get_or cells k Null) refl
  where
    some : (n : ℤ) → Number n ≢ Null
    some n e = cc

    text : (t : List ℕ) → Text t ≢ Null
    text t e = cc

    go : (cell : Value) → get_or cells k Null ≡ cell → IsNumberIn least greatest cell
    go Null e = let null = is.nulls_is.1 (subst (λ (cell : Value). Contains cells cell) e (Contains-get_or cells k Null l)) in absurd (true≢false (sym null))
    go (Number n) e =
        let other : get_or cells k Null ≢ Null = λ f. some n (sym e ∙ f) in (
          not_greater least n (λ f. (is.least_is.1 (some least)).1 k Null l other (ap (value_cmp (Number least)) e ∙ f)),
          not_greater n greatest (λ f. (is.greatest_is.1 (some greatest)).1 k Null l other (ap (λ cell. value_cmp cell (Number greatest)) e ∙ f)),
        )
    go (Text t) e =
        let other : get_or cells k Null ≢ Null = λ f. text t (sym e ∙ f) in
        absurd ((is.greatest_is.1 (some greatest)).1 k Null l other (ap (λ cell. value_cmp cell (Number greatest)) e))

pub side-shown : (group : Group) (key : Key) (count : ℕ) (body : SegmentBody) (least greatest : ℤ) (side : Ordering) → ((i : ℕ) → i < length group.places → get_or group.places i 0 < length group.rows) → IsSegmentOf (column_of group.rows group.key) count body (Number least) (Number greatest) false → MatchOrdering side (key.0 <ℤ least) (Unit {0}) (greatest <ℤ key.0) → IsSide group key side
side-shown group key count body least greatest side within is matches = go side matches
  where
    known : (i : ℕ) → i < length group.places → IsNumberIn least greatest (cell_at (row_at group (get_or group.places i 0)).cells group.key)
    known i l =
        let column = λ (row : PackedRow). cell_at row.cells group.key in
        let p = get_or group.places i 0 in
        subst (IsNumberIn least greatest) (get_or-map column group.rows p (record { cells = []; begin = 0 }) Null (within i l))
        (numbers_in (column_of group.rows group.key) count body least greatest is p (omega (arith, within i l, length-map group.rows column)))

    above : (value : Value) → IsNumberIn least greatest value → key.0 <ℤ least → int_cmp (number_in value) key.0 ≡ Greater
    above Null none less = absurd none
    above (Number n) between less = sym (int_cmp_is n key.0 Greater (let low = between.0 in omega (arith, ints)))
    above (Text t) none less = absurd none

    below : (value : Value) → IsNumberIn least greatest value → greatest <ℤ key.0 → int_cmp (number_in value) key.0 ≡ Less
    below Null none more = absurd none
    below (Number n) between more = sym (int_cmp_is n key.0 Less (let high = between.1 in omega (arith, ints)))
    below (Text t) none more = absurd none

    go : (r : Ordering) → MatchOrdering r (key.0 <ℤ least) (Unit {0}) (greatest <ℤ key.0) → IsSide group key r
    go Less less = λ i l. above (cell_at (row_at group (get_or group.places i 0)).cells group.key) (known i l) less
    go Equal any = tt
    go Greater more = λ i l. below (cell_at (row_at group (get_or group.places i 0)).cells group.key) (known i l) more
