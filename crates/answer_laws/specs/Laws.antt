-- What the law of answers asks of rows.
use Rattle.std.specs.Prelude.{◌≡◌, ◌≢◌, List, map, Contains, AllPairs}
use Rattle.std.specs.declared.cmp.Ordering.TheVariants.{Equal}
use Rattle.cs_types.specs.declared.Schema.{Schema}
use Rattle.cs_types.specs.declared.Value.{Value}
use Rattle.cs_types.specs.Rows.{key_in}
use Rattle.cs_model.specs.declared.plan.Query.{Query}
use Rattle.cs_model.specs.Items.{row_item}
use Rattle.cs_model.specs.Order.{row_cmp}
use Rattle.cs_model.specs.Queries.{row_order}

-- rows that tie by the columns of ORDER BY and the key show the same
abbrev pub TiesShowOne : Schema → Query → List (List Value) → Type 0
TiesShowOne schema query rows =
    (a b : List Value) → Contains rows a → Contains rows b → row_cmp (row_order schema query) a b ≡ Equal → map (row_item schema a) query.items ≡ map (row_item schema b) query.items

-- no two of these rows have one key
abbrev pub KeysDiffer : Schema → List (List Value) → Type 0
KeysDiffer schema rows = AllPairs (λ a b. key_in schema.key a ≢ key_in schema.key b) rows
