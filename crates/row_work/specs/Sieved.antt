-- What a filter says of the versions of a group before their rows are read.
use Rattle.std.specs.Prelude.{◌≡◌, ℕ, Bool, false, List, Option, Some, slice_get}
use Rattle.std.specs.List.{filter_map}
use Rattle.std.specs.Map.{values_of}
use Rattle.cs_types.specs.declared.Schema.{Schema}
use Rattle.cs_types.specs.declared.Value.{Value}
use Rattle.cs_types.specs.Rows.{padded}
use Rattle.cs_model.specs.declared.pred.Pred.{Pred}
use Rattle.cs_model.specs.Queries.{keeps}
use Rattle.code_tallies.specs.Shown.{is_shown}
use Rattle.group_view.specs.declared.view.Pinned.{Pinned}
use Rattle.group_view.specs.Parts.{Rowed}
use Rattle.row_work.specs.Reads.{read_row}

-- a sieve of verdicts passes over no version whose row, in so many cells, the condition keeps
abbrev pub LosesNone : ℕ → Schema → Option Pred → List Rowed → Option (List Bool) → Type 0
LosesNone width schema condition versions sieve = (i : ℕ) (rowed : Rowed) → slice_get versions i ≡ Some rowed → is_shown sieve i ≡ false → keeps schema condition (padded width rowed.row) ≡ false

-- the rows that are read of some versions, in so many cells
abbrev pub read_in : ℕ → Pinned → List Rowed → List (List Value)
read_in width pinned versions = values_of (filter_map (read_row width pinned) versions)
