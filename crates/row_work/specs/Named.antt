-- Keys that a condition names, and the rows at them.
use Rattle.std.specs.Prelude.{◌≡◌, List, Contains, true, Option}
use Rattle.std.specs.BTreeMap.{is_at}
use Rattle.std.specs.Map.{lookup}
use Rattle.std.specs.List.{filter_map}
use Rattle.std.specs.Option.{option_map}
use Rattle.cs_types.specs.declared.Key.{Key}
use Rattle.cs_types.specs.declared.Loose.{Loose}
use Rattle.cs_types.specs.declared.Schema.{Schema}
use Rattle.cs_types.specs.declared.Value.{Value}
use Rattle.cs_types.specs.Keys.{key_cmp}
use Rattle.cs_model.specs.declared.pred.Pred.{Pred}
use Rattle.cs_model.specs.declared.truth.Truth.TheVariants.{True}
use Rattle.cs_model.specs.Cells.{loose_at}
use Rattle.cs_model.specs.Changes.{Table}
use Rattle.cs_model.specs.Held.{IsRowAt}
use Rattle.cs_model.specs.Queries.{keeps}
use Rattle.cs_model.specs.Truths.{among, truth}

-- the key of a row is one of the constants
abbrev pub HasKeyAmong : Schema → List Loose → List Value → Type 0
HasKeyAmong schema constants row = among (loose_at schema row schema.key) constants ≡ True

-- where the condition is True of a row, the row's key is one of the constants
abbrev pub NamesKey : Schema → Pred → List Loose → Type 0
NamesKey schema pred constants = (row : List Value) → truth pred row schema ≡ True → HasKeyAmong schema constants row

-- each row of the table whose key is one of the constants stands under one of the keys
abbrev pub AreKeysOf : Schema → List Loose → List Key → Type 0
AreKeysOf schema constants keys = (key : Key) (row : List Value) → IsRowAt schema key row → HasKeyAmong schema constants row → Contains keys key

-- each row of the table that the condition keeps stands under one of the keys
abbrev pub KeepsAt : Schema → Option Pred → List Key → Type 0
KeepsAt schema condition keys = (key : Key) (row : List Value) → IsRowAt schema key row → keeps schema condition row ≡ true → Contains keys key

-- the row of a table at a key
abbrev pub row_at : Table → Key → Option (List Value)
row_at table key = lookup (is_at (key_cmp key)) table

-- the row of a table at a key, by the key
abbrev pub entry_at : Table → Key → Option (Key × List Value)
entry_at table key = option_map (λ (row : List Value). (key, row)) (row_at table key)

-- the rows of a table at these keys, in their order
abbrev pub rows_at : Table → List Key → Table
rows_at table keys = filter_map (entry_at table) keys
