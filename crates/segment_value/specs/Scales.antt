-- The scale of a column of numbers: they are kept as multiples of a power of ten above a base.
use Rattle.std.specs.Prelude.{◌≡◌, ◌≢◌, ◌+◌, ◌-◌, ◌<◌, ◌≤◌, ◌^◌, ◌↔◌, ◌⊎◌, ℕ, Bool, List, [], Option, None, Some, IsTrue, MatchOption, All, Any, Contains, nat_lt, if◌then◌else◌, ℤ, pos, ◌+ℤ◌, ◌-ℤ◌, ◌*ℤ◌, ◌≤ℤ◌, unsigned_abs, int_div, FitsSigned}
use Rattle.std.specs.List.{filter_map}
use Rattle.std.specs.Int.{◌∣◌, w64}
use Rattle.segment_value.specs.declared.Scale.{Scale}

-- the numbers among the cells
abbrev pub numbers_in : List (Option ℤ) → List ℤ
numbers_in cells = filter_map (λ cell. cell) cells

-- 10 ^ e divides the number
abbrev pub Divides : ℕ → ℤ → Type 0
Divides e n = 10 ^ e ∣ unsigned_abs n

-- e is the greatest exponent from 0 to 18 whose power of ten divides every number
pub record IsCommonExponent (numbers : List ℤ) (e : ℕ) : Type 0 where
  pub most : e ≤ 18
  pub divides : All (Divides e) numbers
  pub greatest : (d : ℕ) → d ≤ 18 → All (Divides d) numbers → d ≤ e

-- the exponent of the numbers: that one, but 0 where all of them are 0 or there is none
abbrev pub IsExponent : List ℤ → ℕ → Type 0
IsExponent numbers e = (All (λ n. n ≡ pos 0) numbers × (e ≡ 0)) ⊎ (Any (λ n. n ≢ pos 0) numbers × IsCommonExponent numbers e)

pub record IsLeast (numbers : List ℤ) (least : ℤ) : Type 0 where
  pub reached : Contains numbers least
  pub bound : All (λ n. least ≤ℤ n) numbers

pub record IsGreatest (numbers : List ℤ) (greatest : ℤ) : Type 0 where
  pub reached : Contains numbers greatest
  pub bound : All (λ n. n ≤ℤ greatest) numbers

-- the least and the greatest number, where there is one
abbrev pub IsRange : List ℤ → Option (ℤ × ℤ) → Type 0
IsRange numbers range = MatchOption range (numbers ≡ []) (λ r. IsLeast numbers r.0 × IsGreatest numbers r.1)

-- the same, with 0 and 0 where there is none
abbrev pub AreBounds : List ℤ → ℤ → ℤ → Type 0
AreBounds numbers least greatest = ((numbers ≡ []) × (least ≡ pos 0) × (greatest ≡ pos 0)) ⊎ (IsLeast numbers least × IsGreatest numbers greatest)

-- the base is the least number in units of 10 ^ e, or 0 where there is no number
abbrev pub IsBase : List ℤ → ℕ → ℤ → Type 0
IsBase numbers e base = ((numbers ≡ []) × (base ≡ pos 0)) ⊎ ((least : ℤ) × IsLeast numbers least × (base ≡ int_div least (pos (10 ^ e))))

-- the exponent, the base and whether a cell is NULL are those of the cells
pub record IsScaleOf (cells : List (Option ℤ)) (scale : Scale) : Type 0 where
  pub exponent : IsExponent (numbers_in cells) scale.exponent
  pub base : IsBase (numbers_in cells) scale.exponent scale.base
  pub nulls : IsTrue scale.nulls ↔ Contains cells None

-- how many codes stand before the numbers': one where a cell is NULL
abbrev pub null_codes : Bool → ℕ
null_codes nulls = if nulls then 1 else 0

-- the code of a cell: NULL has 0; a number has its distance from the base in units of the power of ten, after the code of NULL
abbrev pub code_of : Scale → Option ℤ → ℕ
code_of scale None = 0
code_of scale (Some n) = unsigned_abs (int_div n (pos (10 ^ scale.exponent)) -ℤ scale.base) + null_codes scale.nulls

-- the cell of a code
abbrev pub cell_of : Scale → ℕ → Option ℤ
cell_of scale code =
    if nat_lt code (null_codes scale.nulls) then None
    else Some ((scale.base +ℤ pos (code - null_codes scale.nulls)) *ℤ pos (10 ^ scale.exponent))

-- a number that the scale takes: a multiple of the power of ten, not below the base, whose code is a word
pub record TakesNumber (scale : Scale) (n : ℤ) : Type 0 where
  pub exponent : scale.exponent ≤ 18
  pub fits : FitsSigned w64 n
  pub divides : Divides scale.exponent n
  pub above : scale.base ≤ℤ int_div n (pos (10 ^ scale.exponent))
  pub word : code_of scale (Some n) < 2 ^ 64

-- a cell that the scale takes: NULL where it has a code for it
abbrev pub Takes : Scale → Option ℤ → Type 0
Takes scale None = IsTrue scale.nulls
Takes scale (Some n) = TakesNumber scale n

-- the scale of the cells, which takes each of them; none where a cell would have a code that is no word
abbrev pub IsScaling : List (Option ℤ) → Option Scale → Type 0
IsScaling cells None = (scale : Scale) × IsScaleOf cells scale × Any (λ cell. 2 ^ 64 ≤ code_of scale cell) cells
IsScaling cells (Some scale) = IsScaleOf cells scale × All (Takes scale) cells

-- a code that the scale gives to a cell that it takes
abbrev pub IsCode : Scale → ℕ → Type 0
IsCode scale code = (cell : Option ℤ) × Takes scale cell × (code_of scale cell ≡ code)
