-- Pieces of a group: rows side by side that have one key number, and one code in a column.
use Rattle.std.specs.Prelude.{◌≡◌, ◌<◌, ◌≤◌, ◌-◌, ℕ}
use Rattle.std.specs.Option.{option_copied}
use Rattle.column_segment.specs.Bodies.{IsKnown}
use Rattle.code_tallies.specs.declared.chosen.Chosen.{Chosen}
use Rattle.code_tallies.specs.declared.column.Column.{Column}
use Rattle.code_tallies.specs.declared.pieces.Piece.{Piece}
use Rattle.code_tallies.specs.Columns.{code_at}
use Rattle.code_tallies.specs.Keys.{key_at}
use Rattle.code_tallies.specs.Shown.{shown_from}

-- the rows from a position up to the end of a piece have its key number, and its code in a column; so many of them are shown
pub record IsStretch (chosen : Chosen) (column : Column) (from : ℕ) (piece : Piece) : Type 0 where
  pub some : from < piece.end
  pub within : piece.end ≤ chosen.length
  pub below : piece.key < chosen.size
  pub keys : (i : ℕ) → from ≤ i → i < piece.end → key_at chosen.keys.items i ≡ piece.key
  pub codes : (i : ℕ) → from ≤ i → i < piece.end → code_at column i ≡ piece.code
  pub shown : piece.rows ≡ shown_from (option_copied chosen.shown) from (piece.end - from)

-- the code of each position is one that the segment knows
abbrev pub AreKnown : Column → Type 0
AreKnown column = (i : ℕ) → i < column.segment.now.length → IsKnown column.segment.now.body (code_at column i)
