-- The faults of a setup statement that the grammar has, each by the place of the token that shows it: of two tokens that
-- contradict each other the later one.
use Rattle.std.specs.Prelude.{ℕ, ◌+◌, nat_le, min, max, List, [], ◌∷◌, ◌++◌, slice_get, Bool, not, ◌&&◌, Option, None, Some, if◌then◌else◌}
use Rattle.std.specs.List.{flat_map, list_any}
use Rattle.std.specs.Option.{option_map, option_and_then, option_to_list}
use Rattle.tsql_trees.specs.declared.leaf.NumberTree.{NumberTree}
use Rattle.tsql_exprs.specs.Types.{type_faults}
use Rattle.tsql_create.specs.declared.tree.CreateTree.{CreateTree}
use Rattle.tsql_trees.specs.declared.column.TypeTree.{TypeTree}
use Rattle.tsql_trees.specs.declared.column.TypeTree.TheVariants as types
use Rattle.tsql_create.specs.declared.written.WrittenColumn.{WrittenColumn}
use Rattle.tsql_create.specs.declared.written.WrittenKey.{WrittenKey}
use Rattle.cs_base.specs.Names.{same_name}
use Rattle.tsql_create.specs.Written.{columns, keys, key_place, key_shown, key_index}

-- NULL and NOT NULL on one column
abbrev pub contradictions : Option ℕ → Option ℕ → List ℕ
contradictions None not_null = []
contradictions (Some place) None = []
contradictions (Some place) (Some other) = max place other ∷ []

abbrev pub column_faults : WrittenColumn → List ℕ
column_faults c = type_faults c.kind ++ contradictions c.null c.not_null

-- a 33rd column
abbrev pub too_many : List WrittenColumn → List ℕ
too_many list = option_to_list (option_map (λ c. c.name.place) (slice_get list 32))

-- a name that an earlier column has
abbrev pub has_name : List WrittenColumn → List ℕ → Bool
has_name list name = list_any (λ c. same_name c.name.bytes name) list

abbrev pub repeated_name : List WrittenColumn → WrittenColumn → List ℕ
repeated_name before c = if has_name before c.name.bytes then c.name.place ∷ [] else []

abbrev pub repeated : List WrittenColumn → List WrittenColumn → List ℕ
repeated before [] = []
repeated before (c ∷ rest) = repeated_name before c ++ repeated (before ++ c ∷ []) rest

-- a second key
abbrev pub second_key : List WrittenKey → List ℕ
second_key list = option_to_list (option_map key_place (slice_get list 1))

-- NULL on the key, whose token shows it to be the key
abbrev pub null_on_key : ℕ → Option ℕ → List ℕ
null_on_key shown null = option_to_list (option_map (max shown) null)

-- a key of another type than an integer or a date
abbrev pub key_type_faults : ℕ → TypeTree → List ℕ
key_type_faults shown (types.Plain place kind) = []
key_type_faults shown (types.Decimal place digits) = max shown place ∷ []
key_type_faults shown (types.VarChar place size) = max shown place ∷ []

abbrev pub key_column_faults : ℕ → WrittenColumn → List ℕ
key_column_faults shown c = null_on_key shown c.null ++ key_type_faults shown c.kind

-- a key whose column is not there
abbrev pub named_key_faults : WrittenKey → Option WrittenColumn → List ℕ
named_key_faults key None = key_shown key ∷ []
named_key_faults key (Some c) = key_column_faults (key_shown key) c

abbrev pub key_column : List WrittenColumn → WrittenKey → Option WrittenColumn
key_column list key = option_and_then (slice_get list) (key_index list key)

-- no key, which shows at the text's end; the key is the first one that is written
abbrev pub key_faults : ℕ → List WrittenColumn → Option WrittenKey → List ℕ
key_faults end list None = end ∷ []
key_faults end list (Some key) = named_key_faults key (key_column list key)

-- no column, which shows at the text's end
abbrev pub no_column : ℕ → List WrittenColumn → List ℕ
no_column end [] = end ∷ []
no_column end (c ∷ rest) = []

-- all faults of columns and keys
abbrev pub faults_of : ℕ → List WrittenColumn → List WrittenKey → List ℕ
faults_of end list keys = flat_map column_faults list ++ (too_many list ++ repeated [] list) ++ second_key keys
    ++ key_faults end list (slice_get keys 0) ++ no_column end list

-- all faults of the statement of a text of so many bytes
abbrev pub faults : ℕ → CreateTree → List ℕ
faults size tree = faults_of (size + 1) (columns tree.parts) (keys 0 tree.parts)
