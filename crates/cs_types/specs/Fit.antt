-- The value that a column keeps of a loose one, or why it keeps none.
use Rattle.std.specs.Prelude.{◌≡◌, ℕ, ◌+◌, ◌*◌, ◌/◌, ◌^◌, ◌<◌, ◌≤◌, ℤ, pos, neg_ℤ, int_lt, unsigned_abs, Bool, Result, Ok, Err, if◌then◌else◌}
use Rattle.cs_types.specs.declared.ColumnType.{ColumnType}
use Rattle.cs_types.specs.declared.ColumnType.TheVariants.{TinyInt, SmallInt, Int, BigInt, Decimal, Date, VarChar}
use Rattle.cs_types.specs.declared.Loose.{Loose}
use Rattle.cs_types.specs.declared.Loose.TheVariants.{Null, Number, Text, Day}
use Rattle.cs_types.specs.declared.Value.{Value}
use Rattle.cs_types.specs.declared.Value.TheVariants as value
use Rattle.cs_types.specs.declared.refusal.ValueRefusal.{ValueRefusal}
use Rattle.cs_types.specs.declared.refusal.ValueRefusal.TheVariants.{NullHere, TooLong, Narrow, Overflow}
use Rattle.cs_types.specs.Kinds.{scale_of, is_short, keeps}

-- n over 10 ^ s, times 10 ^ t, to the nearest whole number, a half up
abbrev pub nearest : ℕ → ℕ → ℕ → ℕ
nearest n s t = (2 * (n * 10 ^ t) + 10 ^ s) / (2 * 10 ^ s)

-- a size with the sign of a number
abbrev pub with_sign : ℤ → ℕ → ℤ
with_sign m n = if int_lt m (pos 0) then neg_ℤ (pos n) else pos n

-- m over 10 ^ s at t places, a half away from zero
abbrev pub rounded : ℤ → ℕ → ℕ → ℤ
rounded m s t = with_sign m (nearest (unsigned_abs m) s t)

-- why a number out of the type's range is refused
abbrev pub range_refusal : ColumnType → ValueRefusal
range_refusal TinyInt = Narrow
range_refusal SmallInt = Narrow
range_refusal Int = Overflow
range_refusal BigInt = Overflow
range_refusal (Decimal p s) = Overflow
range_refusal Date = Overflow
range_refusal (VarChar n) = Overflow

-- the value, if the type has it
abbrev pub kept_or : ColumnType → ValueRefusal → Value → Result Value ValueRefusal
kept_or kind refusal v = if keeps kind v then Ok v else Err refusal

-- NULL where it may stand; a number rounded to the type's places; a text that is short enough, a day as they are
abbrev pub fit : ColumnType → Bool → Loose → Result Value ValueRefusal
fit kind nullable Null = if nullable then Ok value.Null else Err NullHere
fit kind nullable (Number m s) = kept_or kind (range_refusal kind) (value.Number (rounded m s (scale_of kind)))
fit kind nullable (Text t) = if is_short kind t then Ok (value.Text t) else Err TooLong
fit kind nullable (Day d) = kept_or kind Overflow (value.Number d)

-- r over 10 ^ t is the nearest such number to n over 10 ^ s, the upper one at a half
abbrev pub IsNearest : ℕ → ℕ → ℕ → ℕ → Type 0
IsNearest n s t r =
    (2 * (r * 10 ^ s) ≤ 2 * (n * 10 ^ t) + 10 ^ s) × (2 * (n * 10 ^ t) < 2 * (r * 10 ^ s) + 10 ^ s)

-- v is a number's nearest at t places, with its sign
abbrev pub IsRounded : ℤ → ℕ → ℕ → Value → Type 0
IsRounded m s t v = (n : ℕ) × (v ≡ value.Number (with_sign m n)) × IsNearest (unsigned_abs m) s t n

-- the kept value of a number is its nearest in the type's places
abbrev pub KeepsNearest : ColumnType → Loose → Value → Type 0
KeepsNearest kind Null v = Unit {0}
KeepsNearest kind (Number m s) v = IsRounded m s (scale_of kind) v
KeepsNearest kind (Text t) v = Unit {0}
KeepsNearest kind (Day d) v = Unit {0}

-- the number of a refusal
abbrev pub refusal_number : ValueRefusal → ℕ
refusal_number NullHere = 515
refusal_number TooLong = 2628
refusal_number Narrow = 220
refusal_number Overflow = 8115
