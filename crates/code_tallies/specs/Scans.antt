-- What is known of a group's chosen rows before they come into a partial answer.
use Rattle.std.specs.Prelude.{◌≡◌, ◌<◌, ℕ, Bool, true, List, length, map, slice_index}
use Rattle.cs_types.specs.declared.Schema.{Schema}
use Rattle.cs_model.specs.declared.plan.Query.{Query}
use Rattle.cs_model.specs.Queries.{keeps}
use Rattle.row_group.specs.Groups.{Group}
use Rattle.batch_aggregate.specs.declared.partial.Partial.{Partial}
use Rattle.batch_aggregate.specs.Tallies.{tally_of}
use Rattle.code_tallies.specs.declared.chosen.Chosen.{Chosen}
use Rattle.code_tallies.specs.declared.table.Table.{Table}
use Rattle.code_tallies.specs.Shown.{cells_at, rows_at}
use Rattle.code_tallies.specs.Keys.{AreColumnsOf, HasKeys}
use Rattle.code_tallies.specs.Tables.{is_chosen, key_positions, tally_in}

-- the filter keeps the chosen rows
abbrev pub AreKept : Group → Schema → Query → Chosen → Type 0
AreKept group schema query chosen = (i : ℕ) → i < chosen.length → is_chosen chosen i ≡ true → keeps schema query.filter (cells_at group i) ≡ true

-- the chosen rows of a group are those that pass a test, and the keys are its columns at these places
pub record IsChoice (group : Group) (places : List ℕ) (test : ℕ → Bool) (chosen : Chosen) : Type 0 where
  pub some : 0 < length group.rows
  pub long : chosen.length ≡ length group.rows
  pub keyed : HasKeys chosen.length chosen.keys.items
  pub columns : AreColumnsOf group places chosen.keys.items
  pub passed : (i : ℕ) → i < chosen.length → is_chosen chosen i ≡ test i

-- the chosen rows are of the group and kept by the filter; the columns are those of GROUP BY; the counts and the tables are
-- those of the rows of each key number
pub record IsScan (group : Group) (partial : Partial) (chosen : Chosen) (counts : List ℕ) (tables : List Table) : Type 0 where
  pub grouped : partial.query.now.grouped ≡ true
  pub long : chosen.length ≡ length group.rows
  pub kept : AreKept group partial.schema.now partial.query.now chosen
  pub columns : AreColumnsOf group partial.query.now.groups chosen.keys.items
  pub counted : (k : ℕ) → k < chosen.size → slice_index counts k ≡ length (key_positions chosen k)
  pub tallies : (k : ℕ) → k < chosen.size → map (λ table. tally_in (length (key_positions chosen k)) table k) tables ≡ map (tally_of (rows_at group (key_positions chosen k))) partial.query.now.items
