-- Ranges of codes, and the truths that they stand for.
use Rattle.std.proofs.Common.{◌≡◌, ℕ, ◌<◌, ◌≤◌, Bool, true, false, ◌&&◌, Some, None, refl, sym, ap, ◌∙◌, true≢false, arith, nat_le, nat_lt, ⊎_elim, if◌then◌else◌}
use Rattle.std.specs.Prelude.{not as flipped}
use Rattle.std.specs.declared.cmp.Ordering.{Ordering}
use Rattle.std.specs.declared.cmp.Ordering.TheVariants as ordering
use Rattle.std.proofs.lemmas.Bool.{cases_lt}
use Rattle.std.proofs.lemmas.Bool.Decides.{nat_tests}
use Rattle.cs_types.specs.declared.ColumnType.{ColumnType}
use Rattle.cs_types.specs.declared.Value.{Value}
use Rattle.cs_types.specs.declared.Value.TheVariants.{Null}
use Rattle.cs_types.specs.declared.Loose.{Loose}
use Rattle.cs_types.specs.Text.{loose_of}
use Rattle.cs_model.specs.declared.pred.Relation.{Relation}
use Rattle.cs_model.specs.declared.pred.Relation.TheVariants.{Equal, NotEqual, Less, LessEqual, Greater, GreaterEqual}
use Rattle.cs_model.specs.declared.truth.Truth.{Truth}
use Rattle.cs_model.specs.declared.truth.Truth.TheVariants.{True, False, Unknown}
use Rattle.cs_model.specs.Truths.{truth_of_order, and, not_if, between, compare, truth_if, is_null}
use Rattle.column_segment.specs.declared.body.SegmentBody.{SegmentBody}
use Rattle.column_segment.specs.Bodies.{cell_of_code}
use Rattle.batch_kernels.specs.Masks.{same_as}
use Rattle.batch_filter.specs.Codes.{AreCodes, order_at, place, span_begin, span_end, is_inside}
use Rattle.batch_filter.specs.Sieves.{is_asked}
use Rattle.batch_filter.proofs.BoundLemmas.{no_null}

pub asked-if : (holds b : Bool) → is_asked holds (truth_if b) ≡ same_as holds b
asked-if true true = refl
asked-if true false = refl
asked-if false true = refl
asked-if false false = refl

-- the same tests as bools: a code is at least `from` and at least `to`, and then not below them
abbrev placed_by : Bool → Bool → Ordering
placed_by from true = ordering.Greater
placed_by true false = ordering.Equal
placed_by false false = ordering.Less

abbrev taken_by : Relation → Bool → Bool → Bool
taken_by Equal from to = from && flipped to
taken_by NotEqual from to = from && flipped to
taken_by Less from to = flipped from
taken_by LessEqual from to = flipped to
taken_by Greater from to = flipped to
taken_by GreaterEqual from to = flipped from

by_bools : (sign : Relation) (holds from to : Bool) → (to ≡ true → from ≡ true) → same_as (same_as (is_inside sign) holds) (taken_by sign from to) ≡ is_asked holds (truth_of_order sign (Some (placed_by from to)))
by_bools Equal true true true up = refl
by_bools Equal true true false up = refl
by_bools Equal true false false up = refl
by_bools Equal true false true up = absurd (true≢false (sym (up refl)))
by_bools Equal false true true up = refl
by_bools Equal false true false up = refl
by_bools Equal false false false up = refl
by_bools Equal false false true up = absurd (true≢false (sym (up refl)))
by_bools NotEqual true true true up = refl
by_bools NotEqual true true false up = refl
by_bools NotEqual true false false up = refl
by_bools NotEqual true false true up = absurd (true≢false (sym (up refl)))
by_bools NotEqual false true true up = refl
by_bools NotEqual false true false up = refl
by_bools NotEqual false false false up = refl
by_bools NotEqual false false true up = absurd (true≢false (sym (up refl)))
by_bools Less true true true up = refl
by_bools Less true true false up = refl
by_bools Less true false false up = refl
by_bools Less true false true up = absurd (true≢false (sym (up refl)))
by_bools Less false true true up = refl
by_bools Less false true false up = refl
by_bools Less false false false up = refl
by_bools Less false false true up = absurd (true≢false (sym (up refl)))
by_bools LessEqual true true true up = refl
by_bools LessEqual true true false up = refl
by_bools LessEqual true false false up = refl
by_bools LessEqual true false true up = absurd (true≢false (sym (up refl)))
by_bools LessEqual false true true up = refl
by_bools LessEqual false true false up = refl
by_bools LessEqual false false false up = refl
by_bools LessEqual false false true up = absurd (true≢false (sym (up refl)))
by_bools Greater true true true up = refl
by_bools Greater true true false up = refl
by_bools Greater true false false up = refl
by_bools Greater true false true up = absurd (true≢false (sym (up refl)))
by_bools Greater false true true up = refl
by_bools Greater false true false up = refl
by_bools Greater false false false up = refl
by_bools Greater false false true up = absurd (true≢false (sym (up refl)))
by_bools GreaterEqual true true true up = refl
by_bools GreaterEqual true true false up = refl
by_bools GreaterEqual true false false up = refl
by_bools GreaterEqual true false true up = absurd (true≢false (sym (up refl)))
by_bools GreaterEqual false true true up = refl
by_bools GreaterEqual false true false up = refl
by_bools GreaterEqual false false false up = refl
by_bools GreaterEqual false false true up = absurd (true≢false (sym (up refl)))

placed_is : (from to code : ℕ) → place from to code ≡ placed_by (nat_le from code) (nat_le to code)
placed_is from to code = go (nat_le from code) (nat_le to code)
  where
    go : (a b : Bool) → (if b then ordering.Greater else (if a then ordering.Equal else ordering.Less)) ≡ placed_by a b
    go true true = refl
    go true false = refl
    go false true = refl
    go false false = refl

below : (code n : ℕ) → nat_lt code n ≡ flipped (nat_le n code)
below code n = grind (arith, nat_tests)

from_zero : (code : ℕ) → nat_le 0 code ≡ true
from_zero code = grind (arith, nat_tests)

taken_is : (sign : Relation) (from to code : ℕ) → (nat_le (span_begin sign from) code && nat_lt code (span_end sign from to)) ≡ taken_by sign (nat_le from code) (nat_le to code)
taken_is Equal from to code = ap (λ b. nat_le from code && b) (below code to)
taken_is NotEqual from to code = ap (λ b. nat_le from code && b) (below code to)
taken_is Less from to code = ap (λ b. b && nat_lt code from) (from_zero code) ∙ below code from
taken_is LessEqual from to code = ap (λ b. b && nat_lt code to) (from_zero code) ∙ below code to
taken_is Greater from to code = ap (λ b. b && nat_lt code to) (from_zero code) ∙ below code to
taken_is GreaterEqual from to code = ap (λ b. b && nat_lt code from) (from_zero code) ∙ below code from

up_to : (from to code : ℕ) → from ≤ to → nat_le to code ≡ true → nat_le from code ≡ true
up_to from to code up e = ⊎_elim
    (λ (less : code < to). absurd (true≢false (sym e ∙ not_reached less)))
    (λ (more : to ≤ code). grind (arith, nat_tests))
    (cases_lt code to)
  where
    not_reached : code < to → nat_le to code ≡ false
    not_reached less = grind (arith, nat_tests)

-- the range of a sign beside a cut has the codes of which it is what is asked for
pub sign_span : (sign : Relation) (holds : Bool) (from to code : ℕ) → from ≤ to
    → same_as (same_as (is_inside sign) holds) (nat_le (span_begin sign from) code && nat_lt code (span_end sign from to)) ≡ is_asked holds (truth_of_order sign (Some (place from to code)))
sign_span sign holds from to code up =
    ap (same_as (same_as (is_inside sign) holds)) (taken_is sign from to code)
    ∙ by_bools sign holds (nat_le from code) (nat_le to code) (up_to from to code up)
    ∙ sym (ap (λ o. is_asked holds (truth_of_order sign (Some o))) (placed_is from to code))

-- no code lies below 0
pub empty_span : (code : ℕ) → (nat_le 0 code && same_as true (nat_le 0 code && nat_lt code 0)) ≡ false
empty_span code = ap (λ t. t && (t && nat_lt code 0)) (from_zero code) ∙ below code 0 ∙ ap flipped (from_zero code)

unknown : (holds : Bool) → is_asked holds Unknown ≡ false
unknown true = refl
unknown false = refl

-- NULL stands to no constant
pub null_asked : (kind : ColumnType) (sign : Relation) (holds : Bool) (constant : Loose) (v : Value) → v ≡ Null → is_asked holds (compare sign (loose_of kind v) constant) ≡ false
null_asked kind sign holds constant v e = ap (λ v. is_asked holds (compare sign (loose_of kind v) constant)) e ∙ unknown holds

module _ (kind : ColumnType) (body : SegmentBody) (first last : ℕ) (codes : AreCodes body first last) (sign : Relation) (constant : Loose) (holds : Bool) where
  abbrev asked : ℕ → Bool
  asked code = is_asked holds (compare sign (loose_of kind (cell_of_code body code)) constant)

  before_first : (code : ℕ) → code ≤ last → code < first → asked code ≡ false
  before_first code most less = null_asked kind sign holds constant (cell_of_code body code) (codes.null code less most)

  -- what a comparison is asked for, by the place of a code
  pub compared_some : (from to : ℕ) → ((code : ℕ) → first ≤ code → code ≤ last → order_at kind body constant code ≡ Some (place from to code)) → (code : ℕ) → code ≤ last
      → (nat_le first code && is_asked holds (truth_of_order sign (Some (place from to code)))) ≡ asked code
  compared_some from to placed code most = ⊎_elim
      (λ (less : code < first). let f : nat_le first code ≡ false = grind (arith, nat_tests) in ap (λ b. b && is_asked holds (truth_of_order sign (Some (place from to code)))) f ∙ sym (before_first code most less))
      (λ (more : first ≤ code). let t : nat_le first code ≡ true = grind (arith, nat_tests) in ap (λ b. b && is_asked holds (truth_of_order sign (Some (place from to code)))) t ∙ sym (ap (λ o. is_asked holds (truth_of_order sign o)) (placed code more most)))
      (cases_lt code first)

  pub compared_none : ((code : ℕ) → first ≤ code → code ≤ last → order_at kind body constant code ≡ None) → (code : ℕ) → code ≤ last → asked code ≡ false
  compared_none none code most = ⊎_elim
      (λ (less : code < first). before_first code most less)
      (λ (more : first ≤ code). ap (λ o. is_asked holds (truth_of_order sign o)) (none code more most) ∙ unknown holds)
      (cases_lt code first)

and_if : (a b : Bool) → and (truth_if a) (truth_if b) ≡ truth_if (a && b)
and_if true true = refl
and_if true false = refl
and_if false true = refl
and_if false false = refl

at_least : (from to code : ℕ) → from ≤ to → truth_of_order GreaterEqual (Some (place from to code)) ≡ truth_if (nat_le from code)
at_least from to code up = ap (λ o. truth_of_order GreaterEqual (Some o)) (placed_is from to code) ∙ go (nat_le from code) (nat_le to code) (up_to from to code up)
  where
    go : (a b : Bool) → (b ≡ true → a ≡ true) → truth_of_order GreaterEqual (Some (placed_by a b)) ≡ truth_if a
    go true true e = refl
    go true false e = refl
    go false true e = absurd (true≢false (sym (e refl)))
    go false false e = refl

at_most : (from to code : ℕ) → truth_of_order LessEqual (Some (place from to code)) ≡ truth_if (nat_lt code to)
at_most from to code = ap (λ o. truth_of_order LessEqual (Some o)) (placed_is from to code) ∙ go (nat_le from code) (nat_le to code) ∙ ap truth_if (sym (below code to))
  where
    go : (a b : Bool) → truth_of_order LessEqual (Some (placed_by a b)) ≡ truth_if (flipped b)
    go true true = refl
    go true false = refl
    go false true = refl
    go false false = refl

-- BETWEEN takes the codes from the lower cut on and up to the upper one
pub between_span : (kind : ColumnType) (body : SegmentBody) (first last : ℕ) → AreCodes body first last → (low high : Loose) (holds : Bool) (a b c d : ℕ) → a ≤ b
    → ((code : ℕ) → first ≤ code → code ≤ last → order_at kind body low code ≡ Some (place a b code))
    → ((code : ℕ) → first ≤ code → code ≤ last → order_at kind body high code ≡ Some (place c d code))
    → (code : ℕ) → code ≤ last → (nat_le first code && same_as holds (nat_le a code && nat_lt code d)) ≡ is_asked holds (between low high (loose_of kind (cell_of_code body code)))
between_span kind body first last codes low high holds a b c d up lower upper code most = ⊎_elim
    (λ (less : code < first).
    let f : nat_le first code ≡ false = grind (arith, nat_tests) in
    ap (λ t. t && same_as holds (nat_le a code && nat_lt code d)) f
    ∙ sym (ap (λ v. is_asked holds (between low high (loose_of kind v))) (codes.null code less most) ∙ unknown holds))
    (λ (more : first ≤ code).
    let t : nat_le first code ≡ true = grind (arith, nat_tests) in
    let l = ap (truth_of_order GreaterEqual) (lower code more most) ∙ at_least a b code up in
    let u = ap (truth_of_order LessEqual) (upper code more most) ∙ at_most c d code in
    ap (λ t. t && same_as holds (nat_le a code && nat_lt code d)) t
    ∙ sym (ap (λ x. is_asked holds (and x (compare LessEqual (loose_of kind (cell_of_code body code)) high))) l
    ∙ ap (λ x. is_asked holds (and (truth_if (nat_le a code)) x)) u
    ∙ ap (is_asked holds) (and_if (nat_le a code) (nat_lt code d))
    ∙ asked-if holds (nat_le a code && nat_lt code d)))
    (cases_lt code first)

-- IS NULL takes the codes before the first
pub null_span : (kind : ColumnType) (body : SegmentBody) (first last : ℕ) → AreCodes body first last → (holds : Bool) (code : ℕ) → code ≤ last
    → (nat_le 0 code && same_as holds (nat_le 0 code && nat_lt code first)) ≡ is_asked holds (truth_if (is_null (loose_of kind (cell_of_code body code))))
null_span kind body first last codes holds code most =
    ap (λ t. t && same_as holds (t && nat_lt code first)) (from_zero code) ∙ ap (same_as holds) same ∙ sym (asked-if holds (is_null (loose_of kind (cell_of_code body code))))
  where
    same : nat_lt code first ≡ is_null (loose_of kind (cell_of_code body code))
    same = ⊎_elim
        (λ (less : code < first). let t : nat_lt code first ≡ true = grind (arith, nat_tests) in t ∙ sym (ap (λ v. is_null (loose_of kind v)) (codes.null code less most)))
        (λ (more : first ≤ code). let f : nat_lt code first ≡ false = grind (arith, nat_tests) in f ∙ sym (no_null kind (cell_of_code body code) (codes.some code more most)))
        (cases_lt code first)

-- NOT asks for the other truth
pub asked-turned : (holds negated : Bool) (t : Truth) → is_asked (same_as holds (flipped negated)) t ≡ is_asked holds (not_if negated t)
asked-turned true true True = refl
asked-turned true true False = refl
asked-turned true true Unknown = refl
asked-turned true false t = refl
asked-turned false true True = refl
asked-turned false true False = refl
asked-turned false true Unknown = refl
asked-turned false false t = refl
