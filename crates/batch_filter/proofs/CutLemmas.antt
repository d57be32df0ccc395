-- Where constants stand among codes.
use Rattle.std.proofs.Common.{◌≡◌, ◌≢◌, ℕ, zero, suc, ◌<◌, ◌≤◌, ℤ, Bool, true, false, List, Option, Some, None, is_some, refl, sym, ap, subst, ◌∙◌, true≢false, arith, nat_le, ⊎_elim}
use Rattle.std.specs.Bool.{OnTrue, OnFalse}
use Rattle.std.specs.declared.cmp.Ordering.{Ordering}
use Rattle.std.specs.declared.cmp.Ordering.TheVariants.{Less, Equal, Greater}
use Rattle.std.specs.Ordering.{nat_cmp, MatchOrdering}
use Rattle.std.proofs.lemmas.Bool.{cases_lt}
use Rattle.std.proofs.lemmas.Bool.Decides.{nat_tests}
use Rattle.std.specs.Cmp.{nat_cmp_is}
use Rattle.std.proofs.lemmas.Cmp.{ranked}
use Rattle.cs_types.specs.declared.ColumnType.{ColumnType}
use Rattle.cs_types.specs.declared.Value.{Value}
use Rattle.cs_types.specs.declared.Value.TheVariants.{Null, Number, Text}
use Rattle.cs_types.specs.declared.Loose.{Loose}
use Rattle.cs_types.specs.Values.{value_cmp}
use Rattle.segment_dict.specs.declared.Dict.{Dict}
use Rattle.segment_dict.specs.declared.Dict.TheVariants.{Numbers, Texts}
use Rattle.column_segment.specs.declared.body.SegmentBody.{SegmentBody}
use Rattle.column_segment.specs.declared.body.SegmentBody.TheVariants.{ValuePacked, ValueRuns, DictPacked, DictRuns}
use Rattle.column_segment.specs.Bodies.{IsKnown, cell_of_code}
use Rattle.column_segment.specs.Cells.{text_cell}
use Rattle.cs_types.specs.Rows.{number_cell}
use Rattle.column_segment.specs.Dicts.{dict_cell}
use Rattle.batch_filter.specs.Codes.{AreCodes, IsEdge, is_past, order_at, place}
use Rattle.batch_filter.proofs.OrderLemmas.{are_alike, rises, order_rises}

number_alike : (o p : Option ℤ) → number_cell o ≢ Null → number_cell p ≢ Null → are_alike (number_cell o) (number_cell p) ≡ true
number_alike None p some other = absurd (some refl)
number_alike (Some n) None some other = absurd (other refl)
number_alike (Some n) (Some m) some other = refl

text_alike : (o p : Option (List ℕ)) → text_cell o ≢ Null → text_cell p ≢ Null → are_alike (text_cell o) (text_cell p) ≡ true
text_alike None p some other = absurd (some refl)
text_alike (Some n) None some other = absurd (other refl)
text_alike (Some n) (Some m) some other = refl

dict_alike : (dict : Dict) (a b : ℕ) → dict_cell dict a ≢ Null → dict_cell dict b ≢ Null → are_alike (dict_cell dict a) (dict_cell dict b) ≡ true
dict_alike (Numbers dict) a b some other = number_alike _ _ some other
dict_alike (Texts dict) a b some other = text_alike _ _ some other

-- the codes of a segment are those of numbers, or those of texts
codes_alike : (body : SegmentBody) (a b : ℕ) → cell_of_code body a ≢ Null → cell_of_code body b ≢ Null → are_alike (cell_of_code body a) (cell_of_code body b) ≡ true
codes_alike (ValuePacked scale width words) a b some other = number_alike _ _ some other
codes_alike (ValueRuns scale runs) a b some other = number_alike _ _ some other
codes_alike (DictPacked dict width words) a b some other = dict_alike dict a b some other
codes_alike (DictRuns dict runs) a b some other = dict_alike dict a b some other

not_greater : (a b : ℕ) → a ≤ b → nat_cmp a b ≢ Greater
not_greater a b least e =
    let less : b < a = subst (λ r. MatchOrdering r (a < b) (a ≡ b) (b < a)) e (ranked a b (nat_cmp a b) refl) in absurd (omega arith)

module _ (kind : ColumnType) (body : SegmentBody) (constant : Loose) (first last : ℕ) (codes : AreCodes body first last) where
  -- cells stand to a constant as their codes do
  codes_rise : (a b : ℕ) → first ≤ a → a ≤ b → b ≤ last → rises (order_at kind body constant a) (order_at kind body constant b) ≡ true
  codes_rise a b least up most =
      let low : a ≤ last = omega arith in
      let over : first ≤ b = omega arith in
      order_rises kind (cell_of_code body a) (cell_of_code body b) constant
      (codes_alike body a b (codes.some a least low) (codes.some b over most))
      (λ e. not_greater a b up (codes.order a b low most ∙ e))

past_climbs : (over : Bool) (a b : Option Ordering) → rises a b ≡ true → is_past over a ≡ true → is_past over b ≡ true
past_climbs true None b r h = absurd (true≢false (sym h))
past_climbs false None b r h = absurd (true≢false (sym h))
past_climbs true (Some o) None r h = absurd (true≢false (sym r))
past_climbs false (Some o) None r h = absurd (true≢false (sym r))
past_climbs true (Some Less) (Some p) r h = absurd (true≢false (sym h))
past_climbs true (Some Equal) (Some p) r h = absurd (true≢false (sym h))
past_climbs true (Some Greater) (Some Less) r h = absurd (true≢false (sym r))
past_climbs true (Some Greater) (Some Equal) r h = absurd (true≢false (sym r))
past_climbs true (Some Greater) (Some Greater) r h = refl
past_climbs false (Some Less) (Some p) r h = absurd (true≢false (sym h))
past_climbs false (Some Equal) (Some Less) r h = absurd (true≢false (sym r))
past_climbs false (Some Equal) (Some Equal) r h = refl
past_climbs false (Some Equal) (Some Greater) r h = refl
past_climbs false (Some Greater) (Some Less) r h = absurd (true≢false (sym r))
past_climbs false (Some Greater) (Some Equal) r h = absurd (true≢false (sym r))
past_climbs false (Some Greater) (Some Greater) r h = refl

module _ (kind : ColumnType) (body : SegmentBody) (constant : Loose) (over : Bool) (first last : ℕ) (codes : AreCodes body first last) where
  pub past_after : (code : ℕ) → first ≤ code → code ≤ last → is_past over (order_at kind body constant code) ≡ true
      → (i : ℕ) → code ≤ i → i ≤ last → is_past over (order_at kind body constant i) ≡ true
  past_after code least most e i up high =
      past_climbs over (order_at kind body constant code) (order_at kind body constant i) (codes_rise kind body constant first last codes code i least up high) e

  pub past_before : (code : ℕ) → first ≤ code → code ≤ last → is_past over (order_at kind body constant code) ≡ false
      → (i : ℕ) → first ≤ i → i ≤ code → is_past over (order_at kind body constant i) ≡ false
  past_before code least most e i low up = go (is_past over (order_at kind body constant i)) refl
    where
      go : (b : Bool) → is_past over (order_at kind body constant i) ≡ b → is_past over (order_at kind body constant i) ≡ false
      go false f = f
      go true f = absurd (true≢false (sym (past_climbs over (order_at kind body constant i) (order_at kind body constant code) (codes_rise kind body constant first last codes i code low up most) f) ∙ e))

not_below_null : (v : Value) → value_cmp v Null ≢ Less
not_below_null Null e = cc
not_below_null (Number n) e = cc
not_below_null (Text t) e = cc

-- the codes from 0 or 1 on, whether NULL has one or not
pub codes_from : (body : SegmentBody) (first last : ℕ) → ((code : ℕ) → code ≤ last → IsKnown body code)
    → ((code other : ℕ) → IsKnown body code → IsKnown body other → nat_cmp code other ≡ value_cmp (cell_of_code body code) (cell_of_code body other)) → first ≤ 1
    → (0 < first → cell_of_code body 0 ≡ Null) → (first ≡ 0 → cell_of_code body 0 ≢ Null) → AreCodes body first last
codes_from body first last known order few null some = record {
  known = known;
  null = λ code below most. let zero_code : code ≡ 0 = omega arith in subst (λ (k : ℕ). cell_of_code body k ≡ Null) (sym zero_code) (null (omega arith));
  some = later;
  order = λ code other low high. order code other (known code low) (known other high);
}
  where
    later : (code : ℕ) → first ≤ code → code ≤ last → cell_of_code body code ≢ Null
    later zero least most e = some (omega arith) e
    later (suc k) least most e =
        let less : nat_cmp 0 (suc k) ≡ Less = sym (nat_cmp_is 0 (suc k) Less (omega arith)) in
        not_below_null (cell_of_code body 0) (ap (value_cmp (cell_of_code body 0)) (sym e) ∙ sym (order 0 (suc k) (known 0 (omega arith)) (known (suc k) most)) ∙ less)

placed : (o : Ordering) (from to code : ℕ) → is_past false (Some o) ≡ nat_le from code → is_past true (Some o) ≡ nat_le to code → o ≡ place from to code
placed Less from to code e f = rw (sym f, sym e) refl
placed Equal from to code e f = rw (sym f, sym e) refl
placed Greater from to code e f = rw (sym f) refl

none_later : (a b : Option Ordering) → rises a b ≡ true → a ≡ None → b ≡ None
none_later None None r e = refl
none_later None (Some o) r e = absurd (true≢false (sym r))
none_later (Some p) b r e = cc

some_later : (a b : Option Ordering) → rises a b ≡ true → is_some a ≡ true → (o : Ordering) × (b ≡ Some o)
some_later None b r e = absurd (true≢false (sym e))
some_later (Some p) None r e = absurd (true≢false (sym r))
some_later (Some p) (Some o) r e = (o, refl)

edge_test : (test : ℕ → Bool) (first last edge : ℕ) → IsEdge test first last edge → (code : ℕ) → first ≤ code → code ≤ last → test code ≡ nat_le edge code
edge_test test first last edge is code least most = ⊎_elim
    (λ (less : code < edge). let f : nat_le edge code ≡ false = grind (arith, nat_tests) in is.before code least less ∙ sym f)
    (λ (more : edge ≤ code). let t : nat_le edge code ≡ true = grind (arith, nat_tests) in is.after code more most ∙ sym t)
    (cases_lt code edge)

over_is_past : (o : Option Ordering) → is_past true o ≡ true → is_past false o ≡ true
over_is_past None e = e
over_is_past (Some Less) e = e
over_is_past (Some Equal) e = refl
over_is_past (Some Greater) e = refl

module _ (kind : ColumnType) (body : SegmentBody) (constant : Loose) (first last : ℕ) (codes : AreCodes body first last) where
  -- where the first cell has no order with the constant, none has
  pub cut_none : first ≤ last → order_at kind body constant first ≡ None → (code : ℕ) → first ≤ code → code ≤ last → order_at kind body constant code ≡ None
  cut_none some e code least most =
      none_later (order_at kind body constant first) (order_at kind body constant code) (codes_rise kind body constant first last codes first code (omega arith) least most) e

  module _ (from to : ℕ) (lower : IsEdge (λ i. is_past false (order_at kind body constant i)) first last from) (upper : IsEdge (λ i. is_past true (order_at kind body constant i)) first last to) where
    pub cut_ordered : from ≤ to
    cut_ordered = ⊎_elim
        (λ (less : to < from).
        let most : to ≤ last = omega (arith, lower.most) in
        let over = over_is_past (order_at kind body constant to) (upper.after to (omega arith) most) in
        absurd (true≢false (sym over ∙ lower.before to upper.least less)))
        (λ (more : from ≤ to). more)
        (cases_lt to from)

    pub cut_placed : is_some (order_at kind body constant first) ≡ true → (code : ℕ) → first ≤ code → code ≤ last → order_at kind body constant code ≡ Some (place from to code)
    cut_placed there code least most =
        let found = some_later (order_at kind body constant first) (order_at kind body constant code) (codes_rise kind body constant first last codes first code (omega arith) least most) there in
        found.1 ∙ ap Some (placed found.0 from to code
        (ap (is_past false) (sym found.1) ∙ edge_test (λ i. is_past false (order_at kind body constant i)) first last from lower code least most)
        (ap (is_past true) (sym found.1) ∙ edge_test (λ i. is_past true (order_at kind body constant i)) first last to upper code least most))

pub on_true : (b : Bool) (P : Type 0) → (b ≡ true → P) → OnTrue b P
on_true true P f = f refl
on_true false P f = tt

pub on_false : (b : Bool) (P : Type 0) → (b ≡ false → P) → OnFalse b P
on_false true P f = tt
on_false false P f = f refl

pub none_of : (o : Option Ordering) → is_some o ≡ false → o ≡ None
none_of None e = refl
none_of (Some o) e = absurd (true≢false e)
