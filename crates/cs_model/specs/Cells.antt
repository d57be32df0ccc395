-- Cells of a row as values with their places.
use Rattle.std.specs.Prelude.{ℕ, List, slice_get, Option, Some, None}
use Rattle.cs_types.specs.declared.Column.{Column}
use Rattle.cs_types.specs.declared.Schema.{Schema}
use Rattle.cs_types.specs.declared.Value.{Value}
use Rattle.cs_types.specs.declared.Loose.{Loose}
use Rattle.cs_types.specs.declared.Loose.TheVariants.{Null}
use Rattle.cs_types.specs.Rows.{cell_at}
use Rattle.cs_types.specs.Text.{loose_of}

-- what a value of a column stands for, NULL where there is no such column
abbrev pub loose_in : Option Column → Value → Loose
loose_in None value = Null
loose_in (Some column) value = loose_of column.kind value

-- what a row's cell in a column stands for. A number past the columns, which binding never gives, is NULL
abbrev pub loose_at : Schema → List Value → ℕ → Loose
loose_at schema row i = loose_in (slice_get schema.columns i) (cell_at row i)
