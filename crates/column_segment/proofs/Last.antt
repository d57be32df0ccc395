-- The last code of a segment.
use Rattle.std.proofs.Common.{◌≡◌, ◌≢◌, ℕ, ℤ, zero, suc, ◌-◌, ◌<◌, ◌≤◌, ◌⊎◌, inl, inr, List, [], length, get_or, map, refl, sym, ◌∙◌, ap, subst, arith, Bool, All, Contains, Option, None, Some, pos, unwrap_or}
use Rattle.std.proofs.Math.Logic.{∥∥₁_elim, ∥∥₁_map}
use Rattle.std.specs.Coded.{le_prop}
use Rattle.std.specs.declared.cmp.Ordering.TheVariants.{Less, Greater}
use Rattle.std.specs.Ordering.{ordering_reverse}
use Rattle.std.proofs.lemmas.Bool.{cases_lt, cases_eq}
use Rattle.std.proofs.lemmas.List.{get_or_default}
use Rattle.std.proofs.lemmas.List.Elements.{All-contains}
use Rattle.cs_types.specs.declared.Value.{Value}
use Rattle.cs_types.specs.declared.Value.TheVariants.{Null, Number, Text}
use Rattle.cs_types.specs.Rows.{number_in, number_cell}
use Rattle.cs_types.specs.Values.{value_cmp}
use Rattle.segment_value.specs.declared.Scale.{Scale}
use Rattle.segment_value.specs.Scales.{numbers_in, Takes, IsCode, code_of}
use Rattle.segment_value.proofs.Codes.{base_fits, cell_of-code_of, IsCode-below}
use Rattle.segment_value.proofs.Exponents.{IsExponent-most}
use Rattle.column_segment.specs.declared.body.SegmentBody.{SegmentBody}
use Rattle.column_segment.specs.declared.body.SegmentBody.TheVariants.{ValuePacked, ValueRuns, DictPacked, DictRuns}
use Rattle.column_segment.specs.Cells.{number_of, IsGreatestCell}
use Rattle.segment_dict.specs.declared.Dict.{Dict}
use Rattle.column_segment.specs.Dicts.{IsDictFor, dict_cell, dict_codes}
use Rattle.column_segment.specs.Bodies.{Codings, Keeps, IsKnown, code_in, cell_of_code}
use Rattle.column_segment.specs.Segments.{IsSegmentOf}
use Rattle.column_segment.proofs.Best.{takes-at}
use Rattle.column_segment.proofs.Dicts.{own-number, last-of}
use Rattle.column_segment.proofs.Kept.{Takes-prop, scaling-of, scale-known, kept-known, kept-cell, known}
use Rattle.column_segment.proofs.Orders.{value_total, codes-less, codes-same}

-- some cells have a segment of these parts
abbrev pub HasSegment : ℕ → SegmentBody → Value → Value → Bool → Type 0
HasSegment count body least greatest nulls = ∥ ((cells : List Value) × IsSegmentOf cells count body least greatest nulls) ∥₁

-- the code of the greatest cell, and NULL's where there is none
abbrev pub last_of : SegmentBody → Value → ℕ
last_of (ValuePacked scale width words) greatest = code_of scale (number_of greatest)
last_of (ValueRuns scale runs) greatest = code_of scale (number_of greatest)
last_of (DictPacked dict width words) greatest = dict_codes dict - 1
last_of (DictRuns dict runs) greatest = dict_codes dict - 1

-- the greatest cell is one of the cells, where there is a cell
greatest-among : (cells : List Value) (greatest : Value) → IsGreatestCell cells greatest → 0 < length cells → Contains cells greatest
greatest-among cells Null is some = (0, some, is.0 refl 0 Null some)
greatest-among cells (Number n) is some = (is.1 (λ e. cc)).0
greatest-among cells (Text t) is some = (is.1 (λ e. cc)).0

-- no cell comes after it
not-past : (cells : List Value) (greatest v : Value) → IsGreatestCell cells greatest → Contains cells v → value_cmp greatest v ≡ Less → ⊥
not-past cells greatest v is has less =
    let there : greatest ≢ Null = λ e. null-last greatest (ap (value_cmp greatest) (sym (All-contains (λ c. c ≡ Null) cells v (is.0 e) has)) ∙ less) in
    let here : v ≢ Null = λ e. null-last greatest (ap (value_cmp greatest) (sym e) ∙ less) in
    All-contains (λ c. c ≢ Null → value_cmp c greatest ≢ Greater) cells v (is.1 there).1 has here
    (value_total.antisymm v greatest ∙ ap ordering_reverse less)
  where
    null-last : (w : Value) → value_cmp w Null ≡ Less → ⊥
    null-last Null e = cc
    null-last (Number n) e = cc
    null-last (Text t) e = cc

taken : (cells : List Value) (scale : Scale) → All (Takes scale) (map number_of cells) → (v : Value) → Contains cells v → Takes scale (number_of v)
taken cells scale all v (k, l, e) =
    let P : Value → Type 0 = λ w. Takes scale (number_of w) in
    subst P (get_or_default cells k Null v l ∙ e) (takes-at scale cells all k l)

-- each number up to the last code of a scale is a code
scale-below : (cells : List Value) (by : Codings cells) (scale : Scale) → by.scale ≡ Some scale → (greatest : Value) → IsGreatestCell cells greatest → 0 < length cells → (code : ℕ) → code ≤ code_of scale (number_of greatest) → IsCode scale code
scale-below cells by scale e greatest is some code low =
    let scaling = (scaling-of cells by scale e).1 in
    IsCode-below scale code (code_of scale (number_of greatest)) (base_fits (map number_of cells) scale scaling.0 scaling.1)
    (number_of greatest, taken cells scale scaling.1 greatest (greatest-among cells greatest is some), refl) low

-- no cell has a code past that of the greatest
scale-most : (cells : List Value) (by : Codings cells) (scale : Scale) → by.scale ≡ Some scale → (greatest : Value) → IsGreatestCell cells greatest → (body : SegmentBody) → Keeps cells by body
    → ((code : ℕ) → cell_of_code body code ≡ cell_of_code (ValuePacked scale 0 []) code) → (i : ℕ) → i < length cells → code_in body i ≤ code_of scale (number_of greatest)
scale-most cells by scale e greatest is body keeps seen i low =
    let scaling = scaling-of cells by scale e in
    let last : ℕ = code_of scale (number_of greatest) in
    let v : Value = get_or cells i Null in
    let has : Contains cells v = (i, low, get_or_default cells i v Null low) in
    let among = greatest-among cells greatest is (omega (arith, low)) in
    let top : cell_of_code body last ≡ greatest =
    seen last ∙ ap number_cell (cell_of-code_of scale (number_of greatest) (taken cells scale scaling.1.1 greatest among)) ∙ own-number cells scaling.0 greatest among in
    elim (cases_lt last (code_in body i)) [
      | inl past ↦
          let less = codes-less body last (code_in body i) (kept-known cells by body keeps i low) past in
          absurd (not-past cells greatest v is has (ap (λ (w : Value). value_cmp w v) (sym top) ∙ ap (value_cmp (cell_of_code body last)) (sym (kept-cell cells by body keeps i low)) ∙ less))
      | inr high ↦ high
    ]

-- a known code of one of the cells stands at its place
place-of : (cells : List Value) (by : Codings cells) (body : SegmentBody) → Keeps cells by body → (v : Value) → Contains cells v → (code : ℕ) → IsKnown body code → cell_of_code body code ≡ v → (i : ℕ) × (i < length cells) × (code_in body i ≡ code)
place-of cells by body keeps v (k, low, is) code known top =
    (k, low, codes-same body (code_in body k) code (kept-known cells by body keeps k low) known (kept-cell cells by body keeps k low ∙ get_or_default cells k Null v low ∙ is ∙ sym top))

scale-reached : (cells : List Value) (by : Codings cells) (scale : Scale) → by.scale ≡ Some scale → (greatest : Value) → IsGreatestCell cells greatest → 0 < length cells → (body : SegmentBody) → Keeps cells by body
    → IsKnown body (code_of scale (number_of greatest)) → ((code : ℕ) → cell_of_code body code ≡ cell_of_code (ValuePacked scale 0 []) code) → (i : ℕ) × (i < length cells) × (code_in body i ≡ code_of scale (number_of greatest))
scale-reached cells by scale e greatest is some body keeps known seen =
    let scaling = scaling-of cells by scale e in
    let among = greatest-among cells greatest is some in
    place-of cells by body keeps greatest among (code_of scale (number_of greatest)) known
    (seen (code_of scale (number_of greatest)) ∙ ap number_cell (cell_of-code_of scale (number_of greatest) (taken cells scale scaling.1.1 greatest among)) ∙ own-number cells scaling.0 greatest among)

dict-reached : (cells : List Value) (by : Codings cells) (dict : Dict) → by.dict ≡ dict → 0 < length cells → (body : SegmentBody) → Keeps cells by body
    → IsKnown body (dict_codes dict - 1) → ((code : ℕ) → cell_of_code body code ≡ dict_cell dict code) → (i : ℕ) × (i < length cells) × (code_in body i ≡ dict_codes dict - 1)
dict-reached cells by dict e some body keeps known seen =
    let last = last-of cells dict (subst (IsDictFor cells) e by.of_cells) some in
    place-of cells by body keeps last.0 last.1 (dict_codes dict - 1) known (seen (dict_codes dict - 1) ∙ last.2)

-- a cell has the last code
reached : (cells : List Value) (by : Codings cells) (greatest : Value) → IsGreatestCell cells greatest → 0 < length cells → (body : SegmentBody) → Keeps cells by body → (i : ℕ) × (i < length cells) × (code_in body i ≡ last_of body greatest)
reached cells by greatest is some (ValuePacked scale width words) keeps =
    scale-reached cells by scale keeps.0 greatest is some (ValuePacked scale width words) keeps (scale-below cells by scale keeps.0 greatest is some _ (omega arith)) (λ code. refl)
reached cells by greatest is some (ValueRuns scale runs) keeps =
    scale-reached cells by scale keeps.0 greatest is some (ValueRuns scale runs) keeps (scale-below cells by scale keeps.0 greatest is some _ (omega arith)) (λ code. refl)
reached cells by greatest is some (DictPacked dict width words) keeps =
    let first = kept-known cells by (DictPacked dict width words) keeps 0 some in
    dict-reached cells by dict keeps.0 some (DictPacked dict width words) keeps (omega (arith, first)) (λ code. refl)
reached cells by greatest is some (DictRuns dict runs) keeps =
    let first = kept-known cells by (DictRuns dict runs) keeps 0 some in
    dict-reached cells by dict keeps.0 some (DictRuns dict runs) keeps (omega (arith, first)) (λ code. refl)

-- among the first places one has the code, or none does
search : (body : SegmentBody) (code n : ℕ) → ((i : ℕ) × (i < n) × (code_in body i ≡ code)) ⊎ ((i : ℕ) → i < n → code_in body i ≢ code)
search body code zero = inr (λ i low. omega (arith, low))
search body code (suc n) = elim (search body code n) [
  | inl found ↦ inl (found.0, omega (arith, found.1), found.2)
  | inr none ↦ elim (cases_eq (code_in body n) code) [
    | inl here ↦ inl (n, omega arith, here)
    | inr other ↦ inr (λ i low is. elim (cases_lt i n) [
      | inl before ↦ none i before is
      | inr last ↦ let same : i ≡ n = omega (arith, low, last) in other (ap (code_in body) (sym same) ∙ is)
    ])
  ]
]

-- what the calls ask that read the last code: the scale takes the greatest cell, or the dictionary has a code
abbrev pub HasLast : SegmentBody → Value → Type 0
HasLast (ValuePacked scale width words) greatest = Takes scale (number_of greatest)
HasLast (ValueRuns scale runs) greatest = Takes scale (number_of greatest)
HasLast (DictPacked dict width words) greatest = 0 < dict_codes dict
HasLast (DictRuns dict runs) greatest = 0 < dict_codes dict

HasLast-prop : (body : SegmentBody) (greatest : Value) → IsProp (HasLast body greatest)
HasLast-prop (ValuePacked scale width words) greatest = Takes-prop scale (number_of greatest)
HasLast-prop (ValueRuns scale runs) greatest = Takes-prop scale (number_of greatest)
HasLast-prop (DictPacked dict width words) greatest = le_prop
HasLast-prop (DictRuns dict runs) greatest = le_prop

last-there : (cells : List Value) (by : Codings cells) (greatest : Value) → IsGreatestCell cells greatest → 0 < length cells → (body : SegmentBody) → Keeps cells by body → HasLast body greatest
last-there cells by greatest is some (ValuePacked scale width words) keeps = taken cells scale (scaling-of cells by scale keeps.0).1.1 greatest (greatest-among cells greatest is some)
last-there cells by greatest is some (ValueRuns scale runs) keeps = taken cells scale (scaling-of cells by scale keeps.0).1.1 greatest (greatest-among cells greatest is some)
last-there cells by greatest is some (DictPacked dict width words) keeps = let first = kept-known cells by (DictPacked dict width words) keeps 0 some in omega (arith, first)
last-there cells by greatest is some (DictRuns dict runs) keeps = let first = kept-known cells by (DictRuns dict runs) keeps 0 some in omega (arith, first)

-- where the codes are a scale's, its exponent is at most 18
abbrev pub HasSmallExponent : SegmentBody → Type 0
HasSmallExponent (ValuePacked scale width words) = scale.exponent ≤ 18
HasSmallExponent (ValueRuns scale runs) = scale.exponent ≤ 18
HasSmallExponent (DictPacked dict width words) = Unit {0}
HasSmallExponent (DictRuns dict runs) = Unit {0}

-- the number of a cell that is shown
pub number-shown : (o : Option ℤ) → unwrap_or o (pos 0) ≡ number_in (number_cell o)
number-shown None = refl
number-shown (Some n) = refl

module _ (count : ℕ) (least greatest : Value) (nulls : Bool) where
  pub has-last : (body : SegmentBody) → HasSegment count body least greatest nulls → 0 < count → HasLast body greatest
  has-last body of some =
      ∥∥₁_elim of (HasLast-prop body greatest)
      (λ is. let counted = is.1.counted in last-there is.0 is.1.best.by greatest is.1.greatest_is (omega (arith, some, counted)) body is.1.best.kept)

  -- each number up to the last code is a code that the body knows
  pub last-known : (body : SegmentBody) → HasSegment count body least greatest nulls → 0 < count → (code : ℕ) → code ≤ last_of body greatest → IsKnown body code
  last-known (ValuePacked scale width words) of some code low =
      scale-known scale code (∥∥₁_map of (λ is. let counted = is.1.counted in scale-below is.0 is.1.best.by scale is.1.best.kept.0 greatest is.1.greatest_is (omega (arith, some, counted)) code low))
  last-known (ValueRuns scale runs) of some code low =
      scale-known scale code (∥∥₁_map of (λ is. let counted = is.1.counted in scale-below is.0 is.1.best.by scale is.1.best.kept.0 greatest is.1.greatest_is (omega (arith, some, counted)) code low))
  last-known (DictPacked dict width words) of some code low = let has = has-last (DictPacked dict width words) of some in omega (arith, has, low)
  last-known (DictRuns dict runs) of some code low = let has = has-last (DictRuns dict runs) of some in omega (arith, has, low)

  -- and no cell's code is greater
  pub last-most : (body : SegmentBody) → HasSegment count body least greatest nulls → (i : ℕ) → i < count → code_in body i ≤ last_of body greatest
  last-most (ValuePacked scale width words) of i low =
      ∥∥₁_elim of le_prop (λ is. let counted = is.1.counted in
      scale-most is.0 is.1.best.by scale is.1.best.kept.0 greatest is.1.greatest_is (ValuePacked scale width words) is.1.best.kept (λ code. refl) i (omega (arith, low, counted)))
  last-most (ValueRuns scale runs) of i low =
      ∥∥₁_elim of le_prop (λ is. let counted = is.1.counted in
      scale-most is.0 is.1.best.by scale is.1.best.kept.0 greatest is.1.greatest_is (ValueRuns scale runs) is.1.best.kept (λ code. refl) i (omega (arith, low, counted)))
  last-most (DictPacked dict width words) of i low = let is = known count (DictPacked dict width words) least greatest nulls of i low in omega (arith, is)
  last-most (DictRuns dict runs) of i low = let is = known count (DictRuns dict runs) least greatest nulls of i low in omega (arith, is)

  -- and one place has it
  pub last-reached : (body : SegmentBody) → HasSegment count body least greatest nulls → 0 < count → (i : ℕ) × (i < count) × (code_in body i ≡ last_of body greatest)
  last-reached body of some = elim (search body (last_of body greatest) count) [
    | inl found ↦ found
    | inr none ↦ absurd (∥∥₁_elim of (λ a b. absurd a) (λ is.
        let counted = is.1.counted in
        let at = reached is.0 is.1.best.by greatest is.1.greatest_is (omega (arith, some, counted)) body is.1.best.kept in
        let low = at.1 in
        none at.0 (omega (arith, low, counted)) at.2))
  ]

  -- a scale has an exponent of at most 18
  pub small-exponent : (body : SegmentBody) → HasSegment count body least greatest nulls → HasSmallExponent body
  small-exponent (ValuePacked scale width words) of =
      ∥∥₁_elim of le_prop (λ is. IsExponent-most (numbers_in (map number_of is.0)) scale.exponent (scaling-of is.0 is.1.best.by scale is.1.best.kept.0).1.0.exponent)
  small-exponent (ValueRuns scale runs) of =
      ∥∥₁_elim of le_prop (λ is. IsExponent-most (numbers_in (map number_of is.0)) scale.exponent (scaling-of is.0 is.1.best.by scale is.1.best.kept.0).1.0.exponent)
  small-exponent (DictPacked dict width words) of = tt
  small-exponent (DictRuns dict runs) of = tt
