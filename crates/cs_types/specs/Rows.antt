-- Rows and their keys.
use Rattle.std.specs.Prelude.{ℕ, ℤ, pos, List, map, slice_get, unwrap_or, Option, None, Some}
use Rattle.std.specs.List.{range_with_len}
use Rattle.cs_types.specs.declared.Value.{Value}
use Rattle.cs_types.specs.declared.Value.TheVariants.{Null, Number, Text}
use Rattle.cs_types.specs.declared.Key.{Key}

-- the cell of a column, NULL past the row's end
abbrev pub cell_at : List Value → ℕ → Value
cell_at cells column = unwrap_or (slice_get cells column) Null

-- a row in so many cells, NULL past its own
abbrev pub padded : ℕ → List Value → List Value
padded width cells = map (cell_at cells) (range_with_len 0 width)

-- the value is a number
abbrev pub IsNumber : Value → Type 0
IsNumber Null = ⊥
IsNumber (Number n) = Unit {0}
IsNumber (Text t) = ⊥

-- the value that a number is, or NULL
abbrev pub number_cell : Option ℤ → Value
number_cell None = Null
number_cell (Some n) = Number n

-- the number that a value is, and 0 for one that is none
abbrev pub number_in : Value → ℤ
number_in Null = pos 0
number_in (Number n) = n
number_in (Text t) = pos 0

-- the key of a row whose key stands in a column
abbrev pub key_in : ℕ → List Value → Key
key_in column cells = record { 0 = number_in (cell_at cells column) }
