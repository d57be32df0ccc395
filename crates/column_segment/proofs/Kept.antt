-- What a segment of some cells says of its body.
use Rattle.std.proofs.Common.{◌≡◌, ℕ, ℤ, ◌+◌, ◌*◌, ◌<◌, ◌≤◌, ◌↔◌, inl, inr, List, [], ◌∷◌, ◌++◌, length, get_or, map, sym, ◌∙◌, ap, subst, arith, Bool, IsTrue, All, Contains, Option, None, Some, slice_get}
use Rattle.std.proofs.Math.Logic.{∥∥₁_elim, ∥∥₁_map}
use Rattle.std.proofs.Math.Nat.{ℕ_set, ∣_prop}
use Rattle.std.proofs.Props.{props}
use Rattle.std.specs.Coded.{×_prop, le_prop}
use Rattle.std.proofs.lemmas.Bool.{cases_lt}
use Rattle.std.proofs.lemmas.List.{get_or_append_left, get_or_push, length_push}
use Rattle.std.proofs.lemmas.Option.{slice_get-get_or, get_or_from_slice_get}
use Rattle.segment_value.specs.declared.Scale.{Scale}
use Rattle.segment_value.specs.Scales.{Takes, IsScaling, IsCode, code_of, cell_of}
use Rattle.segment_value.proofs.Codes.{cell_of-code_of}
use Rattle.segment_rle.specs.Runs.{covered}
use Rattle.cs_types.specs.declared.Value.{Value}
use Rattle.cs_types.specs.declared.Value.TheVariants.{Null}
use Rattle.column_segment.specs.declared.body.SegmentBody.{SegmentBody}
use Rattle.column_segment.specs.declared.body.SegmentBody.TheVariants.{ValuePacked, ValueRuns, DictPacked, DictRuns}
use Rattle.column_segment.specs.Cells.{number_of, HasNoText, IsLeastCell, IsGreatestCell}
use Rattle.column_segment.specs.Dicts.{dict_cell, dict_codes}
use Rattle.column_segment.specs.Bodies.{Codings, Keeps, IsBest, IsKnown, code_in, cell_in, cell_of_code}
use Rattle.column_segment.specs.Segments.{IsSegmentOf}
use Rattle.column_segment.proofs.Readings.{packed-room, packed-code, runs-code}
use Rattle.column_segment.proofs.Best.{value-length, value-code, value-back, takes-at}

-- the words or the runs reach as far as the cells
abbrev pub IsReadable : ℕ → SegmentBody → Type 0
IsReadable n (ValuePacked scale width words) = (width ≤ 64) × (n * width ≤ 64 * length words)
IsReadable n (ValueRuns scale runs) = covered runs.ends ≡ n
IsReadable n (DictPacked dict width words) = (width ≤ 64) × (n * width ≤ 64 * length words)
IsReadable n (DictRuns dict runs) = covered runs.ends ≡ n

IsReadable-prop : (n : ℕ) (body : SegmentBody) → IsProp (IsReadable n body)
IsReadable-prop n (ValuePacked scale width words) = ×_prop le_prop le_prop
IsReadable-prop n (ValueRuns scale runs) = ℕ_set (covered runs.ends) n
IsReadable-prop n (DictPacked dict width words) = ×_prop le_prop le_prop
IsReadable-prop n (DictRuns dict runs) = ℕ_set (covered runs.ends) n

kept-readable : (cells : List Value) (by : Codings cells) (body : SegmentBody) → Keeps cells by body → IsReadable (length cells) body
kept-readable cells by (ValuePacked scale width words) keeps =
    let P : ℕ → Type 0 = λ n. n * width ≤ 64 * length words in
    (keeps.1.0, subst P (value-length scale cells) (packed-room (map (code_of scale) (map number_of cells)) width words keeps.1))
kept-readable cells by (ValueRuns scale runs) keeps = keeps.1.whole ∙ value-length scale cells
kept-readable cells by (DictPacked dict width words) keeps =
    let P : ℕ → Type 0 = λ n. n * width ≤ 64 * length words in
    (keeps.1.0, subst P by.coded.0 (packed-room by.codes width words keeps.1))
kept-readable cells by (DictRuns dict runs) keeps = keeps.1.whole ∙ by.coded.0

-- the numbers that a scale keeps are those whose scale it is
pub scaling-of : (cells : List Value) (by : Codings cells) (scale : Scale) → by.scale ≡ Some scale → HasNoText cells × IsScaling (map number_of cells) (Some scale)
scaling-of cells by scale e = elim by.scaling [
  | inl numbers ↦
      let P : Option Scale → Type 0 = λ s. IsScaling (map number_of cells) s in
      (numbers.0, subst P e numbers.1)
  | inr texts ↦ let f : None ≡ Some scale = sym texts.1 ∙ e in cc
]

scale-facts : (cells : List Value) (by : Codings cells) (scale : Scale) → by.scale ≡ Some scale → HasNoText cells × All (Takes scale) (map number_of cells)
scale-facts cells by scale e = let is = scaling-of cells by scale e in (is.0, is.1.1)

-- the code of a place is that of its cell
value-in : (cells : List Value) (by : Codings cells) (scale : Scale) → by.scale ≡ Some scale → (code i : ℕ) → i < length cells → code ≡ get_or (map (code_of scale) (map number_of cells)) i 0 → IsCode scale code
value-in cells by scale e code i low is =
    (number_of (get_or cells i Null), takes-at scale cells (scale-facts cells by scale e).1 i low, sym (is ∙ value-code scale cells i low))

pub kept-known : (cells : List Value) (by : Codings cells) (body : SegmentBody) → Keeps cells by body → (i : ℕ) → i < length cells → IsKnown body (code_in body i)
kept-known cells by (ValuePacked scale width words) keeps i low =
    value-in cells by scale keeps.0 (code_in (ValuePacked scale width words) i) i low (packed-code (map (code_of scale) (map number_of cells)) width words keeps.1 i)
kept-known cells by (ValueRuns scale runs) keeps i low =
    value-in cells by scale keeps.0 (code_in (ValueRuns scale runs) i) i low (runs-code (map (code_of scale) (map number_of cells)) runs.codes runs.ends keeps.1 i (omega (arith, low, value-length scale cells)))
kept-known cells by (DictPacked dict width words) keeps i low =
    let is = by.coded.1 i (get_or cells i Null) (slice_get-get_or cells i Null low) in
    let P : ℕ → Type 0 = λ n. n < dict_codes dict in
    let same : dict_codes by.dict ≡ dict_codes dict = ap dict_codes keeps.0 in
    subst P (sym (packed-code by.codes width words keeps.1 i)) (omega (arith, is.0, same))
kept-known cells by (DictRuns dict runs) keeps i low =
    let is = by.coded.1 i (get_or cells i Null) (slice_get-get_or cells i Null low) in
    let P : ℕ → Type 0 = λ n. n < dict_codes dict in
    let same : dict_codes by.dict ≡ dict_codes dict = ap dict_codes keeps.0 in
    subst P (sym (runs-code by.codes runs.codes runs.ends keeps.1 i (omega (arith, low, by.coded.0)))) (omega (arith, is.0, same))

-- the cell comes back
pub kept-cell : (cells : List Value) (by : Codings cells) (body : SegmentBody) → Keeps cells by body → (i : ℕ) → i < length cells → cell_in body i ≡ get_or cells i Null
kept-cell cells by (ValuePacked scale width words) keeps i low =
    let facts = scale-facts cells by scale keeps.0 in
    ap (cell_of_code (ValuePacked scale width words)) (packed-code (map (code_of scale) (map number_of cells)) width words keeps.1 i)
    ∙ value-back scale cells facts.0 facts.1 i low
kept-cell cells by (ValueRuns scale runs) keeps i low =
    let facts = scale-facts cells by scale keeps.0 in
    ap (cell_of_code (ValueRuns scale runs)) (runs-code (map (code_of scale) (map number_of cells)) runs.codes runs.ends keeps.1 i (omega (arith, low, value-length scale cells)))
    ∙ value-back scale cells facts.0 facts.1 i low
kept-cell cells by (DictPacked dict width words) keeps i low =
    let is = by.coded.1 i (get_or cells i Null) (slice_get-get_or cells i Null low) in
    ap (dict_cell dict) (packed-code by.codes width words keeps.1 i) ∙ ap (λ d. dict_cell d (get_or by.codes i 0)) (sym keeps.0) ∙ is.1
kept-cell cells by (DictRuns dict runs) keeps i low =
    let is = by.coded.1 i (get_or cells i Null) (slice_get-get_or cells i Null low) in
    ap (dict_cell dict) (runs-code by.codes runs.codes runs.ends keeps.1 i (omega (arith, low, by.coded.0))) ∙ ap (λ d. dict_cell d (get_or by.codes i 0)) (sym keeps.0) ∙ is.1

-- each of the cells that were given comes back
pub segment-cells : (cells : List Value) (count : ℕ) (body : SegmentBody) (least greatest : Value) (nulls : Bool) → IsSegmentOf cells count body least greatest nulls → (i : ℕ) → i < length cells → slice_get cells i ≡ Some (cell_in body i)
segment-cells cells count body least greatest nulls is i low =
    slice_get-get_or cells i Null low ∙ ap Some (sym (kept-cell cells is.best.by body is.best.kept i low))

pub Takes-prop : (scale : Scale) (cell : Option ℤ) → IsProp (Takes scale cell)
Takes-prop scale None = hlevel props
Takes-prop scale (Some n) = hlevel (props, ∣_prop)

pub scale-known : (scale : Scale) (code : ℕ) → ∥ IsCode scale code ∥₁ → IsCode scale code
scale-known scale code known =
    let cell : Option ℤ = cell_of scale code in
    let Found : Type 0 = Takes scale (cell_of scale code) × (code_of scale (cell_of scale code) ≡ code) in
    let found : Found = ∥∥₁_elim known (×_prop (Takes-prop scale (cell_of scale code)) (ℕ_set (code_of scale (cell_of scale code)) code)) (λ is. at is.0 is.1 is.2) in
    (cell, found.0, found.1)
  where
    at : (c : Option ℤ) → Takes scale c → code_of scale c ≡ code → Takes scale (cell_of scale code) × (code_of scale (cell_of scale code) ≡ code)
    at c takes e =
        let back : cell_of scale code ≡ c = ap (cell_of scale) (sym e) ∙ cell_of-code_of scale c takes in
        let P : Option ℤ → Type 0 = λ o. Takes scale o × (code_of scale o ≡ code) in
        subst P (sym back) (takes, e)

-- what holds of each segment
pub readable : (count : ℕ) (body : SegmentBody) (least greatest : Value) (nulls : Bool) → ∥ ((cells : List Value) × IsSegmentOf cells count body least greatest nulls) ∥₁ → IsReadable count body
readable count body least greatest nulls of =
    ∥∥₁_elim of (IsReadable-prop count body) (λ is. let P : ℕ → Type 0 = λ n. IsReadable n body in
    subst P (sym is.1.counted) (kept-readable is.0 is.1.best.by body is.1.best.kept))

known-of : (count : ℕ) (body : SegmentBody) (least greatest : Value) (nulls : Bool) (i : ℕ) → i < count → ((cells : List Value) × IsSegmentOf cells count body least greatest nulls) → IsKnown body (code_in body i)
known-of count body least greatest nulls i low is = let counted = is.1.counted in kept-known is.0 is.1.best.by body is.1.best.kept i (omega (arith, low, counted))

pub known : (count : ℕ) (body : SegmentBody) (least greatest : Value) (nulls : Bool) → ∥ ((cells : List Value) × IsSegmentOf cells count body least greatest nulls) ∥₁ → (i : ℕ) → i < count → IsKnown body (code_in body i)
known count (ValuePacked scale width words) least greatest nulls of i low = scale-known scale _ (∥∥₁_map of (known-of count (ValuePacked scale width words) least greatest nulls i low))
known count (ValueRuns scale runs) least greatest nulls of i low = scale-known scale _ (∥∥₁_map of (known-of count (ValueRuns scale runs) least greatest nulls i low))
known count (DictPacked dict width words) least greatest nulls of i low = ∥∥₁_elim of le_prop (known-of count (DictPacked dict width words) least greatest nulls i low)
known count (DictRuns dict runs) least greatest nulls of i low = ∥∥₁_elim of le_prop (known-of count (DictRuns dict runs) least greatest nulls i low)

pub known-at : (count : ℕ) (body : SegmentBody) (least greatest : Value) (nulls : Bool) → ∥ ((cells : List Value) × IsSegmentOf cells count body least greatest nulls) ∥₁ → (i code : ℕ) → i < count → code ≡ code_in body i → IsKnown body code
known-at count body least greatest nulls of i code low is = let P : ℕ → Type 0 = λ n. IsKnown body n in subst P (sym is) (known count body least greatest nulls of i low)

-- the segment of the parts that were made of some cells
pub made : (cells : List Value) (count : ℕ) (body : SegmentBody) (least greatest : Value) (nulls : Bool) → count ≡ length cells → IsBest cells body → IsLeastCell cells least → IsGreatestCell cells greatest → (IsTrue nulls ↔ Contains cells Null) → IsSegmentOf cells count body least greatest nulls
made cells count body least greatest nulls counted best low high null = record {
  counted = counted;
  best = best;
  least_is = low;
  greatest_is = high;
  nulls_is = null;
}

-- one cell more at the end of some
pub pushed : (items new : List Value) (v : Value) (n : ℕ) (f : ℕ → Value) → new ≡ items ++ v ∷ [] → length items ≡ n → v ≡ f n → ((k : ℕ) → k < n → slice_get items k ≡ Some (f k)) → (k : ℕ) → k < n + 1 → slice_get new k ≡ Some (f k)
pushed items new v n f more long last before k low =
    ap (λ l. slice_get l k) more
    ∙ slice_get-get_or (items ++ v ∷ []) k Null (omega (arith, low, long, length_push items v))
    ∙ ap Some (elim (cases_lt k n) [
      | inl early ↦ get_or_append_left items (v ∷ []) Null k (omega (arith, early, long)) ∙ get_or_from_slice_get items k (f k) Null (before k early)
      | inr late ↦ get_or_push items v Null k (omega (arith, late, low, long)) ∙ last ∙ ap f (omega (arith, late, low))
    ])
