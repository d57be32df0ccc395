-- The cells of a column, as numbers and as texts.
use Rattle.std.specs.Prelude.{◌≡◌, ◌≢◌, ℕ, ℤ, Bool, if◌then◌else◌, List, Option, None, Some, IsNone, IsSome, All, Any, Contains}
use Rattle.std.specs.declared.cmp.Ordering.TheVariants.{Greater}
use Rattle.std.specs.Ordering.{is_le, is_lt}
use Rattle.cs_types.specs.declared.Value.{Value}
use Rattle.cs_types.specs.declared.Value.TheVariants.{Null, Number, Text}
use Rattle.cs_types.specs.Values.{value_cmp}
use Rattle.column_segment.specs.declared.cell.CellRef.{CellRef}
use Rattle.column_segment.specs.declared.cell.CellRef.TheVariants as shown

-- the cell that a reference shows
abbrev pub seen : CellRef → Value
seen shown.Null = Null
seen (shown.Number n) = Number n
seen (shown.Text text) = Text text.now

-- a cell as a number; a text is none
abbrev pub number_of : Value → Option ℤ
number_of Null = None
number_of (Number n) = Some n
number_of (Text t) = None

-- a cell as a text, and back; a number is none
abbrev pub text_of : Value → Option (List ℕ)
text_of Null = None
text_of (Number n) = None
text_of (Text t) = Some t

abbrev pub text_cell : Option (List ℕ) → Value
text_cell None = Null
text_cell (Some t) = Text t

-- no cell is a text; no cell is a number; some cell is a text
abbrev pub HasNoText : List Value → Type 0
HasNoText cells = All (λ cell. IsNone (text_of cell)) cells

abbrev pub HasNoNumber : List Value → Type 0
HasNoNumber cells = All (λ cell. IsNone (number_of cell)) cells

abbrev pub HasText : List Value → Type 0
HasText cells = Any (λ cell. IsSome (text_of cell)) cells

-- the least of the cells that are not NULL, and NULL where there is none
abbrev pub IsLeastCell : List Value → Value → Type 0
IsLeastCell cells least =
    (least ≡ Null → All (λ cell. cell ≡ Null) cells)
    × (least ≢ Null → Contains cells least × All (λ cell. cell ≢ Null → value_cmp least cell ≢ Greater) cells)

-- the greatest of them, and NULL where there is none
abbrev pub IsGreatestCell : List Value → Value → Type 0
IsGreatestCell cells greatest =
    (greatest ≡ Null → All (λ cell. cell ≡ Null) cells)
    × (greatest ≢ Null → Contains cells greatest × All (λ cell. cell ≢ Null → value_cmp cell greatest ≢ Greater) cells)

-- a cell comes before a bound; where `tied`, one that ties with it does too
abbrev pub is_below : Bool → Value → Value → Bool
is_below tied bound cell = if tied then is_le (value_cmp cell bound) else is_lt (value_cmp cell bound)
