-- What a started statement's work is handed, and what it depends on.
use Rattle.std.specs.Prelude.{◌≡◌, ◌≤◌, All, Option, None, Some, true, false}
use Rattle.std.specs.List.Sorted.{IsStrictlySortedBy}
use Rattle.cs_types.specs.Keys.{key_cmp}
use Rattle.cs_types.specs.Schemas.{IsSchema}
use Rattle.cs_model.specs.Changes.{Change}
use Rattle.cs_model.specs.Held.{IsFit, IsWhole}
use Rattle.cs_model.specs.Kinds.{is_of_table}
use Rattle.cs_model.specs.Obstacles.{keys_of}
use Rattle.cs_model.specs.Ready.{IsReady}
use Rattle.log_laws.specs.Started.{Begun, snapshot_table}
use Rattle.group_view.specs.declared.view.Pinned.{Pinned}
use Rattle.group_view.specs.Views.{shown_table, padded_table, IsView}
use Rattle.edit_laws.specs.Edits.{edits_of}
use Rattle.statement_core.specs.declared.started.Started.{Started}
use Rattle.statement_core.specs.Outcomes.{width_of}

-- what is pinned shows the table of the snapshot, in so many cells, beside the own writes
pub record Pins (begun : Begun) (pinned : Pinned) : Type 0 where
  pub view : IsView pinned.view
  pub snapshot : pinned.snapshot ≡ begun.snapshot
  pub from_floor : pinned.view.floor ≤ pinned.snapshot
  pub to_clock : pinned.snapshot ≤ pinned.view.clock
  pub shows : shown_table (width_of begun) pinned.view pinned.snapshot ≡ padded_table (width_of begun) (snapshot_table begun)
  pub own : edits_of pinned.own ≡ begun.own

abbrev pub IsPinnedFor : Begun → Option Pinned → Type 0
IsPinnedFor begun None = ⊥
IsPinnedFor begun (Some pinned) = Pins begun pinned

-- the started statement is handed what was begun
pub record Hands (begun : Begun) (started : Started) : Type 0 where
  pub bound : started.bound.value ≡ begun.bound
  pub short : started.short ≡ begun.short
  pub note : started.note ≡ begun.note
  pub implicit : started.implicit ≡ begun.implicit
  pub schema : started.terms.value.schema.value ≡ begun.schema
  pub own : edits_of started.own ≡ begun.own
  pub pinned : is_of_table begun.bound ≡ true → begun.short ≡ false → IsPinnedFor begun started.pinned

-- what the work of a statement may count on: rows fit the table and have a cell for every column, and own writes are by key, one
-- for each
pub record MayWork (begun : Begun) : Type 0 where
  pub schema : IsSchema begun.schema
  pub ready : IsReady begun.schema begun.bound
  pub fit : All (λ (change : Change). IsFit begun.schema change.edit) begun.changes
  pub whole : All (λ (change : Change). IsWhole begun.schema change.edit) begun.changes
  pub own_fit : All (IsFit begun.schema) begun.own
  pub own_whole : All (IsWhole begun.schema) begun.own
  pub by_key : IsStrictlySortedBy key_cmp (keys_of begun.own)
