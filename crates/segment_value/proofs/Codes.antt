-- Codes and cells of a scale.
use Rattle.std.proofs.Common.{◌≡◌, ℕ, ◌+◌, ◌-◌, ◌*◌, ◌<◌, ◌≤◌, ◌^◌, ◌↔◌, inl, inr, List, length, get_or, refl, sym, ◌∙◌, ap, arith, ℤ, pos, negsuc, ◌+ℤ◌, ◌-ℤ◌, ◌*ℤ◌, ◌≤ℤ◌, Bool, true, false, cond, All, Contains, Option, None, Some, nat_lt, unsigned_abs, int_div, FitsSigned, IsTrue, w64}
use Rattle.std.specs.List.{Any}
use Rattle.std.proofs.lemmas.Int.{ints, unsigned_abs-mul}
use Rattle.std.proofs.Math.Nat.{dvd-mul_left}
use Rattle.std.proofs.lemmas.Bool.{cases_lt}
use Rattle.std.proofs.lemmas.Bool.Decides.{nat_tests}
use Rattle.std.proofs.lemmas.List.{get_or_default}
use Rattle.std.proofs.lemmas.List.Elements.{All-contains}
use Rattle.segment_value.specs.declared.Scale.{Scale}
use Rattle.segment_value.specs.Scales.{numbers_in, null_codes, code_of, cell_of, Takes, TakesNumber, IsCode, Divides, IsBase, AreBounds, IsExponent, IsScaleOf}
use Rattle.segment_value.proofs.Cells.{number_from_cell, cell_from_number}
use Rattle.segment_value.proofs.Exponents.{IsExponent-most, IsExponent-divides}
use Rattle.segment_value.proofs.Powers.{ten_positive}
use Rattle.segment_value.proofs.Quotients.{quot-mul, quot-le, distance, distance-le, scaled-le, scaled-same}

number_back : (scale : Scale) (n : ℤ) → TakesNumber scale n → scale.base +ℤ pos (code_of scale (Some n) - null_codes scale.nulls) ≡ int_div n (pos (10 ^ scale.exponent))
number_back scale n takes =
    let q : ℤ = int_div n (pos (10 ^ scale.exponent)) in
    let same : unsigned_abs (q -ℤ scale.base) + null_codes scale.nulls - null_codes scale.nulls ≡ unsigned_abs (q -ℤ scale.base) = omega arith in
    ap (λ k. scale.base +ℤ pos k) same ∙ distance q scale.base takes.above

-- a code after that of NULL is a number's, as many units above the base
pub cell_of-later : (scale : Scale) (code : ℕ) → null_codes scale.nulls ≤ code → cell_of scale code ≡ Some ((scale.base +ℤ pos (code - null_codes scale.nulls)) *ℤ pos (10 ^ scale.exponent))
cell_of-later scale code h =
    let later : nat_lt code (null_codes scale.nulls) ≡ false = grind (arith, nat_tests) in
    ap (λ b. cond b None (Some ((scale.base +ℤ pos (code - null_codes scale.nulls)) *ℤ pos (10 ^ scale.exponent)))) later

-- the cell of a cell's code is the cell
pub cell_of-code_of : (scale : Scale) (cell : Option ℤ) → Takes scale cell → cell_of scale (code_of scale cell) ≡ cell
cell_of-code_of scale None takes = grind (arith, nat_tests)
cell_of-code_of scale (Some n) takes =
    cell_of-later scale (code_of scale (Some n)) (omega arith)
    ∙ ap Some (ap (λ (k : ℤ). k *ℤ pos (10 ^ scale.exponent)) (number_back scale n takes) ∙ quot-mul scale.exponent n takes.divides)

pub number_of_code : (scale : Scale) (code : ℕ) → null_codes scale.nulls ≤ code → IsCode scale code → (n : ℤ) × TakesNumber scale n × (scale.base +ℤ pos (code - null_codes scale.nulls) ≡ int_div n (pos (10 ^ scale.exponent)))
number_of_code scale code later (None, takes, e) = absurd (not_null scale.nulls takes (omega arith))
  where
    not_null : (nulls : Bool) → IsTrue nulls → null_codes nulls ≤ 0 → ⊥
    not_null true h l = omega arith
    not_null false h l = grind arith
number_of_code scale code later (Some n, takes, e) = (n, takes, ap (λ k. scale.base +ℤ pos (k - null_codes scale.nulls)) (sym e) ∙ number_back scale n takes)

-- the number that such a code gives fits
pub number_fits : (scale : Scale) (code : ℕ) (units : ℤ) → null_codes scale.nulls ≤ code → IsCode scale code → units ≡ scale.base +ℤ pos (code - null_codes scale.nulls) → FitsSigned w64 (units *ℤ pos (10 ^ scale.exponent))
number_fits scale code units later is e =
    let number = number_of_code scale code later is in
    let product : units *ℤ pos (10 ^ scale.exponent) ≡ number.0 =
    ap (λ (k : ℤ). k *ℤ pos (10 ^ scale.exponent)) (e ∙ number.2) ∙ quot-mul scale.exponent number.0 number.1.divides in
    rw product number.1.fits

pub IsBase-from_bounds : (numbers : List ℤ) (e : ℕ) (least greatest : ℤ) → AreBounds numbers least greatest → IsBase numbers e (int_div least (pos (10 ^ e)))
IsBase-from_bounds numbers e least greatest (inl none) = inl (none.0, rw none.1 (omega (arith, ints, ten_positive e)))
IsBase-from_bounds numbers e least greatest (inr h) = inr (least, h.0, refl)

-- the scale has the least number for its base
abbrev pub StartsAt : Scale → ℤ → Type 0
StartsAt scale least = scale.base ≡ int_div least (pos (10 ^ scale.exponent))

between : (scale : Scale) (numbers : List ℤ) (least greatest : ℤ) → AreBounds numbers least greatest → StartsAt scale least → (n : ℤ) → Contains numbers n → (scale.base ≤ℤ int_div n (pos (10 ^ scale.exponent))) × (code_of scale (Some n) ≤ code_of scale (Some greatest))
between scale numbers least greatest (inl none) e n (k, l, is) = absurd (omega (arith, ap length none.0))
between scale numbers least greatest (inr h) e n has =
    let from = quot-le least n (10 ^ scale.exponent) (ten_positive scale.exponent) (All-contains (λ m. least ≤ℤ m) numbers n h.0.bound has) in
    let to = quot-le n greatest (10 ^ scale.exponent) (ten_positive scale.exponent) (All-contains (λ m. m ≤ℤ greatest) numbers n h.1.bound has) in
    let above : scale.base ≤ℤ int_div n (pos (10 ^ scale.exponent)) = rw e from in
    (above, omega (arith, distance-le (int_div n (pos (10 ^ scale.exponent))) (int_div greatest (pos (10 ^ scale.exponent))) scale.base above to))

fits_between : (low n high : ℤ) → FitsSigned w64 low → FitsSigned w64 high → low ≤ℤ n → n ≤ℤ high → FitsSigned w64 n
fits_between low (pos n) (pos high) f g from to = record { sfits = let h = g.sfits in omega (arith, ints) }
fits_between low (pos n) (negsuc high) f g from to = absurd (omega (arith, ints))
fits_between (pos low) (negsuc n) high f g from to = absurd (omega (arith, ints))
fits_between (negsuc low) (negsuc n) high f g from to = record { sfits = let h = f.sfits in omega (arith, ints) }

fits_within : (numbers : List ℤ) (least greatest : ℤ) → FitsSigned w64 least → FitsSigned w64 greatest → AreBounds numbers least greatest → (n : ℤ) → Contains numbers n → FitsSigned w64 n
fits_within numbers least greatest low high (inl none) n (k, l, is) = absurd (omega (arith, ap length none.0))
fits_within numbers least greatest low high (inr h) n has =
    fits_between least n greatest low high (All-contains (λ m. least ≤ℤ m) numbers n h.0.bound has) (All-contains (λ m. m ≤ℤ greatest) numbers n h.1.bound has)

pub Takes-all : (cells : List (Option ℤ)) (scale : Scale) (least greatest : ℤ) → FitsSigned w64 least → FitsSigned w64 greatest → AreBounds (numbers_in cells) least greatest → StartsAt scale least → IsScaleOf cells scale → code_of scale (Some greatest) < 2 ^ 64 → All (Takes scale) cells
Takes-all cells scale least greatest low high h e is word = λ k d l. go (get_or cells k d) (k, l, get_or_default cells k _ d l)
  where
    go : (cell : Option ℤ) → Contains cells cell → Takes scale cell
    go None has = is.nulls.1 has
    go (Some n) has =
        let number = number_from_cell cells n has in
        let bounds = between scale (numbers_in cells) least greatest h e n number in
        record {
          exponent = IsExponent-most (numbers_in cells) scale.exponent is.exponent;
          fits = fits_within (numbers_in cells) least greatest low high h n number;
          divides = All-contains (Divides scale.exponent) (numbers_in cells) n (IsExponent-divides (numbers_in cells) scale.exponent is.exponent) number;
          above = bounds.0;
          word = omega (arith, bounds.1);
        }

-- where the greatest number's code is no word, a cell has a code that is none
pub past_word : (cells : List (Option ℤ)) (scale : Scale) (least greatest : ℤ) → AreBounds (numbers_in cells) least greatest → StartsAt scale least → 2 ^ 64 ≤ code_of scale (Some greatest) → Any (λ cell. 2 ^ 64 ≤ code_of scale cell) cells
past_word cells scale least greatest (inl none) e past = absurd (small scale.nulls (unsigned_abs (int_div greatest (pos (10 ^ scale.exponent)) -ℤ scale.base)) nothing past)
  where
    nothing : unsigned_abs (int_div greatest (pos (10 ^ scale.exponent)) -ℤ scale.base) ≡ 0
    nothing = rw (e, none.1, none.2) (omega (arith, ints))

    small : (nulls : Bool) (x : ℕ) → x ≡ 0 → 2 ^ 64 ≤ x + null_codes nulls → ⊥
    small true x e h = omega arith
    small false x e h = omega arith
past_word cells scale least greatest (inr h) e past =
    let has = cell_from_number cells greatest h.1.reached in
    (has.0, Some greatest, has.1, has.2, past)

pub IsScaleOf-made : (cells : List (Option ℤ)) (scale : Scale) (least greatest : ℤ) → AreBounds (numbers_in cells) least greatest → IsExponent (numbers_in cells) scale.exponent → StartsAt scale least → (IsTrue scale.nulls ↔ Contains cells None) → IsScaleOf cells scale
IsScaleOf-made cells scale least greatest bounds exponent base nulls = record {
  exponent = exponent;
  base = rw base (IsBase-from_bounds (numbers_in cells) scale.exponent least greatest bounds);
  nulls = nulls;
}

-- the number that the base is fits, as it is one of the cells'
pub base_fits : (cells : List (Option ℤ)) (scale : Scale) → IsScaleOf cells scale → All (Takes scale) cells → FitsSigned w64 (scale.base *ℤ pos (10 ^ scale.exponent))
base_fits cells scale is takes = go is.base
  where
    nothing : (k : ℕ) → FitsSigned w64 (pos 0 *ℤ pos k)
    nothing k = let e : pos 0 *ℤ pos k ≡ pos 0 = omega (arith, ints) in rw e (record { sfits = omega (arith, ints) })

    go : IsBase (numbers_in cells) scale.exponent scale.base → FitsSigned w64 (scale.base *ℤ pos (10 ^ scale.exponent))
    go (inl none) = rw none.1 (nothing (10 ^ scale.exponent))
    go (inr (least, low, e)) =
        let number : TakesNumber scale least = All-contains (Takes scale) cells (Some least) takes (cell_from_number cells least low.reached) in
        let product : scale.base *ℤ pos (10 ^ scale.exponent) ≡ least =
        ap (λ (k : ℤ). k *ℤ pos (10 ^ scale.exponent)) e ∙ quot-mul scale.exponent least number.divides in
        rw product number.fits

null_code : (nulls : Bool) (code : ℕ) → code < null_codes nulls → IsTrue nulls × (0 ≡ code)
null_code true code h = (grind arith, omega arith)
null_code false code h = absurd (omega arith)

code_word : (scale : Scale) (code : ℕ) → IsCode scale code → code < 2 ^ 64
code_word scale code (None, takes, e) = omega (arith, e)
code_word scale code (Some n, takes, e) = omega (arith, takes.word, e)

units_back : (base : ℤ) (code nulls : ℕ) → nulls ≤ code → unsigned_abs (base +ℤ pos (code - nulls) -ℤ base) + nulls ≡ code
units_back base code nulls later = omega (arith, ints)

-- each number up to a code is a code too
pub IsCode-below : (scale : Scale) (code last : ℕ) → FitsSigned w64 (scale.base *ℤ pos (10 ^ scale.exponent)) → IsCode scale last → code ≤ last → IsCode scale code
IsCode-below scale code last base is less = elim (cases_lt code (null_codes scale.nulls)) [
  | inl null ↦ let none = null_code scale.nulls code null in (None, none.0, none.1)
  | inr later ↦
      let e : ℕ = scale.exponent in
      let some = ten_positive e in
      let top = number_of_code scale last (omega (arith, later, less)) is in
      let units : ℤ = scale.base +ℤ pos (code - null_codes scale.nulls) in
      let most : ℤ = scale.base +ℤ pos (last - null_codes scale.nulls) in
      let n : ℤ = units *ℤ pos (10 ^ e) in
      let size : unsigned_abs n ≡ unsigned_abs units * 10 ^ e = unsigned_abs-mul units (pos (10 ^ e)) in
      let divides : Divides e n = rw size (dvd-mul_left (10 ^ e) (unsigned_abs units)) in
      let back : int_div n (pos (10 ^ e)) ≡ units = scaled-same (int_div n (pos (10 ^ e))) units (10 ^ e) some (quot-mul e n divides) in
      let high : most *ℤ pos (10 ^ e) ≡ top.0 = ap (λ (k : ℤ). k *ℤ pos (10 ^ e)) top.2 ∙ quot-mul e top.0 top.1.divides in
      let from = scaled-le scale.base units (10 ^ e) some (omega (arith, ints)) in
      let to = scaled-le units most (10 ^ e) some (omega (arith, ints, later, less)) in
      let coded : code_of scale (Some n) ≡ code =
      ap (λ (q : ℤ). unsigned_abs (q -ℤ scale.base) + null_codes scale.nulls) back ∙ units_back scale.base code (null_codes scale.nulls) later in
      let word = code_word scale last is in (
        Some n,
        record {
          exponent = top.1.exponent;
          fits = fits_between (scale.base *ℤ pos (10 ^ e)) n top.0 base top.1.fits from (omega (arith, ints, to, high));
          divides = divides;
          above = rw back (omega (arith, ints));
          word = omega (arith, coded, word, less);
        },
        coded,
      )
]
