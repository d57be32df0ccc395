-- Key numbers: one number for the codes that a row has in the grouping columns.
use Rattle.std.specs.Prelude.{◌<◌, ◌≤◌, ◌^◌, ℕ, ◌+◌, ◌*◌, ◌/◌, ◌%◌, List, [], ◌∷◌}
use Rattle.std.specs.List.{AllZip}
use Rattle.cs_types.specs.declared.Value.{Value}
use Rattle.column_segment.specs.Bodies.{cell_of_code, IsKnown}
use Rattle.row_group.specs.Groups.{Group}
use Rattle.code_tallies.specs.declared.column.Column.{Column}
use Rattle.code_tallies.specs.Columns.{code_at, IsColumnOf}

-- the key number of a position: the number whose digits are the codes there, the lowest first, each in the base of its column
abbrev pub key_at : List Column → ℕ → ℕ
key_at [] i = 0
key_at (c ∷ cs) i = key_at cs i * (c.last + 1) + code_at c i

-- how many key numbers there are
abbrev pub key_count : List Column → ℕ
key_count [] = 1
key_count (c ∷ cs) = key_count cs * (c.last + 1)

-- the cells of a key number
abbrev pub cells_of_key : List Column → ℕ → List Value
cells_of_key [] key = []
cells_of_key (c ∷ cs) key = cell_of_code c.segment.now.body (key % (c.last + 1)) ∷ cells_of_key cs (key / (c.last + 1))

-- the columns of a group at these places
abbrev pub AreColumnsOf : Group → List ℕ → List Column → Type 0
AreColumnsOf group places columns = AllZip (IsColumnOf group) places columns

-- each column has a code for each of the first n positions, all of its codes up to `last` are known, and there are few
abbrev pub HasKeys : ℕ → List Column → Type 0
HasKeys n [] = Unit {0}
HasKeys n (c ∷ cs) = (n ≤ c.segment.now.length) × (c.last < 2 ^ 60) × ((i : ℕ) → i < n → code_at c i ≤ c.last) × ((code : ℕ) → code ≤ c.last → IsKnown c.segment.now.body code) × HasKeys n cs
