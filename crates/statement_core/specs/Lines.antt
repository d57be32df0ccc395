-- The states of groups, by the lines of a ledger.
use Rattle.std.specs.Prelude.{Bool, true, false}
use Rattle.cs_model.specs.declared.report.GroupState.{GroupState}
use Rattle.cs_model.specs.declared.report.GroupState.TheVariants.{Invisible, Opened, Closed, Compressed, Tombstone}

-- the group has rows
abbrev pub is_in_use : GroupState → Bool
is_in_use Invisible = false
is_in_use Opened = true
is_in_use Closed = true
is_in_use Compressed = true
is_in_use Tombstone = false

-- the group is a closed store
abbrev pub is_closed : GroupState → Bool
is_closed Invisible = false
is_closed Opened = false
is_closed Closed = true
is_closed Compressed = false
is_closed Tombstone = false
