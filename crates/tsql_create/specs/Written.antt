-- What a setup statement writes: its columns and its keys.
use Rattle.std.specs.Prelude.{ℕ, ◌+◌, List, [], ◌∷◌, ◌++◌, length, slice_get, Option, None, Some}
use Rattle.std.specs.List.{flat_map, filter_map, position_from}
use Rattle.cs_base.specs.Names.{same_name}
use Rattle.tsql_create.specs.declared.tree.TablePartTree.{TablePartTree}
use Rattle.tsql_create.specs.declared.tree.TablePartTree.TheVariants as parts
use Rattle.tsql_create.specs.declared.tree.MarkTree.{MarkTree}
use Rattle.tsql_create.specs.declared.tree.MarkTree.TheVariants as marks
use Rattle.tsql_create.specs.declared.written.WrittenColumn.{WrittenColumn}
use Rattle.tsql_create.specs.declared.written.WrittenKey.{WrittenKey}
use Rattle.tsql_create.specs.declared.written.WrittenKey.TheVariants as written

-- the place of a NULL
abbrev pub null_place : MarkTree → Option ℕ
null_place (marks.Null place) = Some place
null_place (marks.NotNull place) = None
null_place (marks.Key place) = None

-- the place of a NOT NULL
abbrev pub not_null_place : MarkTree → Option ℕ
not_null_place (marks.Null place) = None
not_null_place (marks.NotNull place) = Some place
not_null_place (marks.Key place) = None

-- the places of the first NULL and of the first NOT NULL of a column
abbrev pub first_null : List MarkTree → Option ℕ
first_null list = slice_get (filter_map null_place list) 0

abbrev pub first_not_null : List MarkTree → Option ℕ
first_not_null list = slice_get (filter_map not_null_place list) 0

-- the keys that stand in the part of the column with this number
abbrev pub marked_key : ℕ → MarkTree → List WrittenKey
marked_key column (marks.Null place) = []
marked_key column (marks.NotNull place) = []
marked_key column (marks.Key place) = written.OfColumn place column ∷ []

abbrev pub marked_keys : ℕ → List MarkTree → List WrittenKey
marked_keys column list = flat_map (marked_key column) list

-- the column and the keys of a part, before which so many columns stand
abbrev pub part_columns : TablePartTree → List WrittenColumn
part_columns (parts.Column name kind list) =
    record { name = name; kind = kind; null = first_null list; not_null = first_not_null list } ∷ []
part_columns (parts.Key place name) = []
part_columns (parts.Index name) = []

abbrev pub part_keys : ℕ → TablePartTree → List WrittenKey
part_keys n (parts.Column name kind list) = marked_keys n list
part_keys n (parts.Key place name) = written.Named place name ∷ []
part_keys n (parts.Index name) = []

-- the columns, in order
abbrev pub columns : List TablePartTree → List WrittenColumn
columns list = flat_map part_columns list

-- the keys of parts before which n columns stand, in order
abbrev pub keys : ℕ → List TablePartTree → List WrittenKey
keys n [] = []
keys n (part ∷ rest) = part_keys n part ++ keys (n + length (part_columns part)) rest

-- the word PRIMARY of a key
abbrev pub key_place : WrittenKey → ℕ
key_place (written.OfColumn place column) = place
key_place (written.Named place name) = place

-- the token that makes a column the key: the word PRIMARY in the column's part, the name in a key part
abbrev pub key_shown : WrittenKey → ℕ
key_shown (written.OfColumn place column) = place
key_shown (written.Named place name) = name.place

-- the number of the first column of a name, counted from 0
abbrev pub named_column : List ℕ → List WrittenColumn → Option ℕ
named_column name list = position_from (λ c. same_name c.name.bytes name) 0 list

-- the number of the column that is the key
abbrev pub key_index : List WrittenColumn → WrittenKey → Option ℕ
key_index list (written.OfColumn place column) = Some column
key_index list (written.Named place name) = named_column name.bytes list
