-- Cells of a segment compare as their codes do.
use Rattle.std.proofs.Common.{◌≡◌, ◌≢◌, ℕ, ℤ, pos, ◌-◌, ◌<◌, ◌≤◌, ◌+ℤ◌, ◌*ℤ◌, ◌<ℤ◌, ◌^◌, inl, inr, List, refl, sym, ◌∙◌, ap, subst, arith, Bool, true, false, cond, Option, None, Some}
use Rattle.std.specs.declared.cmp.Ordering.{Ordering}
use Rattle.std.specs.declared.cmp.Ordering.TheVariants.{Less, Equal, Greater}
use Rattle.std.specs.Cmp.{IsTotalOrder, nat_cmp_is, int_cmp_is}
use Rattle.std.specs.Int.{from_bool}
use Rattle.std.specs.Ordering.{nat_cmp, ordering_reverse, is_le, is_lt}
use Rattle.std.proofs.lemmas.Bool.{cases_lt}
use Rattle.std.proofs.lemmas.Bool.Decides.{nat_tests}
use Rattle.std.proofs.lemmas.Cmp.{ranked, tied_itself, alike_right}
use Rattle.std.proofs.lemmas.Int.{ints}
use Rattle.cs_types.specs.contracts.ValueOrd.TheImpl.{cmp-value}
use Rattle.cs_types.specs.contracts.ValueOrd.TheImpl.Laws.{total-law}
use Rattle.cs_types.specs.declared.Value.{Value}
use Rattle.cs_types.specs.declared.Value.TheVariants.{Null, Number, Text}
use Rattle.cs_types.specs.Values.{value_cmp}
use Rattle.segment_value.specs.declared.Scale.{Scale}
use Rattle.segment_value.specs.Scales.{null_codes}
use Rattle.segment_value.specs.Scales as scales
use Rattle.segment_value.proofs.Codes.{cell_of-later}
use Rattle.segment_value.proofs.Powers.{ten_positive}
use Rattle.segment_value.proofs.Quotients.{scaled-less}
use Rattle.segment_dict.specs.declared.Dict.{Dict}
use Rattle.segment_dict.specs.declared.Dict.TheVariants.{Numbers, Texts}
use Rattle.segment_dict.specs.Dictionaries.{Ascends, cell_of, codes_of}
use Rattle.segment_dict.specs.Texts.{texts_in}
use Rattle.column_segment.specs.declared.body.SegmentBody.{SegmentBody}
use Rattle.column_segment.specs.declared.body.SegmentBody.TheVariants.{ValuePacked, ValueRuns, DictPacked, DictRuns}
use Rattle.column_segment.specs.Cells.{is_below}
use Rattle.cs_types.specs.Rows.{number_cell}
use Rattle.column_segment.specs.Dicts.{dict_cell, dict_codes}
use Rattle.column_segment.specs.Bodies.{IsKnown, cell_of_code}
use Rattle.column_segment.proofs.Dicts.{are-numbers, are-texts}
use Rattle.column_segment.proofs.Entries.{AreCells, one_at_most, cell_of-null, cell_of-entry, entry, less_at}

derived_cmp : (x y : Value) → cmp-value.it x y ≡ value_cmp x y
derived_cmp Null Null = refl
derived_cmp Null (Number n) = refl
derived_cmp Null (Text u) = refl
derived_cmp (Number m) Null = refl
derived_cmp (Number m) (Number n) = refl
derived_cmp (Number m) (Text u) = refl
derived_cmp (Text t) Null = refl
derived_cmp (Text t) (Number n) = refl
derived_cmp (Text t) (Text u) = refl

-- values are in a total order
pub value_total : IsTotalOrder value_cmp
value_total = subst IsTotalOrder (λ i x y. derived_cmp x y i) total-law

null-first : (v : Value) → v ≢ Null → value_cmp Null v ≡ Less
null-first Null ne = absurd (ne refl)
null-first (Number n) ne = refl
null-first (Text t) ne = refl

null_codes-most : (nulls : Bool) → null_codes nulls ≤ 1
null_codes-most true = omega arith
null_codes-most false = omega arith

-- of two codes of a scale the smaller has the smaller cell
scale-less : (scale : Scale) (c d : ℕ) → c < d → value_cmp (number_cell (scales.cell_of scale c)) (number_cell (scales.cell_of scale d)) ≡ Less
scale-less scale c d less =
    let above : scales.cell_of scale d ≡ Some (number d) = cell_of-later scale d (omega (arith, null_codes-most scale.nulls)) in
    elim (cases_lt c (null_codes scale.nulls)) [
      | inl null ↦
          let none : scales.cell_of scale c ≡ None = grind (arith, nat_tests) in
          ap (λ (o : Option ℤ). value_cmp (number_cell o) (number_cell (scales.cell_of scale d))) none ∙ ap (λ (o : Option ℤ). value_cmp Null (number_cell o)) above
      | inr later ↦
          let here : scales.cell_of scale c ≡ Some (number c) = cell_of-later scale c later in
          let smaller : number c <ℤ number d =
          scaled-less (units c) (units d) (10 ^ scale.exponent) (ten_positive scale.exponent) (omega (arith, ints, less, later)) in
          ap (λ (o : Option ℤ). value_cmp (number_cell o) (number_cell (scales.cell_of scale d))) here
          ∙ ap (λ (o : Option ℤ). value_cmp (Number (number c)) (number_cell o)) above
          ∙ sym (int_cmp_is (number c) (number d) Less smaller)
    ]
  where
    units : ℕ → ℤ
    units code = scale.base +ℤ pos (code - null_codes scale.nulls)

    number : ℕ → ℤ
    number code = units code *ℤ pos (10 ^ scale.exponent)

-- of two codes of a dictionary too, whatever its entries are
entries-less : {X : Type 0} {cmp : X → X → Ordering} {cell : Option X → Value} (are : AreCells cmp cell) (entries : List X) (nulls : Bool) → Ascends cmp entries → (c d : ℕ) → c < d → d < codes_of entries nulls → value_cmp (cell (cell_of entries nulls c)) (cell (cell_of entries nulls d)) ≡ Less
entries-less {X} {cmp} {cell} are entries nulls up c d less low =
    let later : from_bool nulls ≤ d = omega (arith, less, one_at_most nulls) in
    let found = entry entries (d - from_bool nulls) (omega (arith, low, later)) in
    let above : cell_of entries nulls d ≡ Some found.0 = cell_of-entry entries nulls d later ∙ found.1 in
    elim (cases_lt c (from_bool nulls)) [
      | inl null ↦
          ap (λ (o : Option X). value_cmp (cell o) (cell (cell_of entries nulls d))) (cell_of-null entries nulls c null)
          ∙ ap (λ (o : Option X). value_cmp (cell None) (cell o)) above
          ∙ ap (λ (v : Value). value_cmp v (cell (Some found.0))) are.null
          ∙ null-first (cell (Some found.0)) (are.some found.0)
      | inr entry_c ↦
          let first = entry entries (c - from_bool nulls) (omega (arith, low, less, entry_c)) in
          ap (λ (o : Option X). value_cmp (cell o) (cell (cell_of entries nulls d))) (cell_of-entry entries nulls c entry_c ∙ first.1)
          ∙ ap (λ (o : Option X). value_cmp (cell (Some first.0)) (cell o)) above
          ∙ are.order first.0 found.0
          ∙ less_at cmp entries up (c - from_bool nulls) (d - from_bool nulls) first.0 found.0 first.1 found.1 (omega (arith, less, entry_c))
    ]

dict-less : (dict : Dict) (c d : ℕ) → c < d → d < dict_codes dict → value_cmp (dict_cell dict c) (dict_cell dict d) ≡ Less
dict-less (Numbers dict) c d less low = entries-less are-numbers dict.entries dict.nulls dict.ascending c d less low
dict-less (Texts dict) c d less low = entries-less are-texts (texts_in dict.ends dict.bytes) dict.nulls dict.ascending c d less low

-- of two codes that a body knows the smaller has the smaller cell
pub codes-less : (body : SegmentBody) (c d : ℕ) → IsKnown body d → c < d → value_cmp (cell_of_code body c) (cell_of_code body d) ≡ Less
codes-less (ValuePacked scale width words) c d known less = scale-less scale c d less
codes-less (ValueRuns scale runs) c d known less = scale-less scale c d less
codes-less (DictPacked dict width words) c d known less = dict-less dict c d less known
codes-less (DictRuns dict runs) c d known less = dict-less dict c d less known

-- so cells compare as codes do
pub codes-compare : (body : SegmentBody) (c d : ℕ) → IsKnown body c → IsKnown body d → nat_cmp c d ≡ value_cmp (cell_of_code body c) (cell_of_code body d)
codes-compare body c d known_c known_d = elim (cases_lt c d) [
  | inl less ↦ sym (nat_cmp_is c d Less less) ∙ sym (codes-less body c d known_d less)
  | inr high ↦ elim (cases_lt d c) [
    | inl more ↦
        sym (nat_cmp_is c d Greater more)
        ∙ sym (value_total.antisymm (cell_of_code body c) (cell_of_code body d) ∙ ap ordering_reverse (codes-less body d c known_c more))
    | inr low ↦
        let same : c ≡ d = omega (arith, high, low) in
        sym (nat_cmp_is c d Equal same)
        ∙ sym (ap (λ n. value_cmp (cell_of_code body c) (cell_of_code body n)) (sym same) ∙ tied_itself value_total (cell_of_code body c))
  ]
]

-- and two codes of one cell are one
pub codes-same : (body : SegmentBody) (c d : ℕ) → IsKnown body c → IsKnown body d → cell_of_code body c ≡ cell_of_code body d → c ≡ d
codes-same body c d known_c known_d e =
    let tied : nat_cmp c d ≡ Equal = codes-compare body c d known_c known_d ∙ ap (value_cmp (cell_of_code body c)) (sym e) ∙ tied_itself value_total (cell_of_code body c) in
    ranked c d Equal (sym tied)

-- a cell that comes before one that comes before a bound comes before the bound
before : (tied : Bool) (bound v w : Value) → value_cmp v w ≡ Less → is_below tied bound w ≡ true → is_below tied bound v ≡ true
before tied bound v w less is = told tied (reached tied (value_cmp w bound) refl is)
  where
    reached : (tied : Bool) (r : Ordering) → value_cmp w bound ≡ r → cond tied (is_le r) (is_lt r) ≡ true → value_cmp v bound ≡ Less
    reached tied Less e h = value_total.trans v w bound less e
    reached true Equal e h = sym (alike_right value_total w bound v e) ∙ less
    reached false Equal e h = cc
    reached true Greater e h = cc
    reached false Greater e h = cc

    told : (tied : Bool) → value_cmp v bound ≡ Less → is_below tied bound v ≡ true
    told true e = ap is_le e
    told false e = ap is_lt e

-- so do the cells of all smaller codes, and not those of greater ones than one that does not
pub below-down : (body : SegmentBody) (tied : Bool) (bound : Value) (c d : ℕ) → IsKnown body d → c ≤ d → is_below tied bound (cell_of_code body d) ≡ true → is_below tied bound (cell_of_code body c) ≡ true
below-down body tied bound c d known low is = elim (cases_lt c d) [
  | inl less ↦ before tied bound (cell_of_code body c) (cell_of_code body d) (codes-less body c d known less) is
  | inr high ↦ let same : c ≡ d = omega (arith, low, high) in ap (λ n. is_below tied bound (cell_of_code body n)) same ∙ is
]

pub below-up : (body : SegmentBody) (tied : Bool) (bound : Value) (c d : ℕ) → IsKnown body d → c ≤ d → is_below tied bound (cell_of_code body c) ≡ false → is_below tied bound (cell_of_code body d) ≡ false
below-up body tied bound c d known low not = go (is_below tied bound (cell_of_code body d)) refl
  where
    go : (b : Bool) → is_below tied bound (cell_of_code body d) ≡ b → is_below tied bound (cell_of_code body d) ≡ false
    go false e = e
    go true e = let f : true ≡ false = sym (below-down body tied bound c d known low e) ∙ not in cc
