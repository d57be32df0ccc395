-- What the expressions over a series read.
use Rattle.std.specs.Prelude.{[], ◌∷◌, codes, false}
use Rattle.cs_types.specs.declared.Schema.{Schema}
use Rattle.cs_types.specs.declared.Column.{Column}
use Rattle.cs_types.specs.declared.ColumnType.TheVariants as kinds

-- the one column `value`, of the numbers of the series
abbrev pub series_column : Column
series_column = record { name = codes "value"; kind = kinds.BigInt; nullable = false }

abbrev pub series_schema : Schema
series_schema = record { name = codes "GENERATE_SERIES"; columns = series_column ∷ []; key = 0 }
