-- Positions of a packed group whose versions a statement does not read.
use Rattle.std.specs.Prelude.{◌≡◌, ◌<◌, ◌==◌, ◌&&◌, ◌||◌, ℕ, Bool, true, not, nat_le, nat_lt, List, length, All, Option, None, Some}
use Rattle.std.specs.List.{list_any}
use Rattle.cs_types.specs.declared.Key.{Key}
use Rattle.cs_types.specs.Keys.{same_key}
use Rattle.write_set.specs.declared.write.Write.{Write}
use Rattle.edit_laws.specs.Edits.{writes_key}
use Rattle.delete_buffer.specs.Entries.{Entry}
use Rattle.row_group.specs.Groups.{Group, row_at}
use Rattle.group_book.specs.Book.{is_buffered}
use Rattle.group_view.specs.declared.view.Pinned.{Pinned}
use Rattle.group_view.specs.Spans.{key_at}
use Rattle.group_view.specs.Views.{endings_of}

-- whether a position is one of these
abbrev pub is_one_of : List ℕ → ℕ → Bool
is_one_of positions position = list_any (λ other. other == position) positions

-- the row at a position begins above s
abbrev pub begins_late : ℕ → Group → ℕ → Bool
begins_late s group position = not (nat_le (row_at group position).begin s)

-- a begin is below an end; where there is no end, each is
abbrev pub is_begun_below : Option ℕ → ℕ → Bool
is_begun_below None begin = true
is_begun_below (Some end) begin = nat_lt begin end

-- the row at a position is of the key, and begun below the end
abbrev pub is_of_key : Key → Option ℕ → Group → ℕ → Bool
is_of_key key end group position = same_key (key_at group position) key && is_begun_below end (row_at group position).begin

-- one of the entries has ended the row at a position for the snapshot s
abbrev pub is_ended_by : List Entry → ℕ → Group → ℕ → Bool
is_ended_by entries s group position = is_buffered (endings_of entries) (key_at group position) (row_at group position).begin s

-- one of the writes is of the key of the row at a position
abbrev pub is_written : List Write → Group → ℕ → Bool
is_written own group position = writes_key own (key_at group position)

-- the statement does not read the row at a position, whatever the group's bitmap says
abbrev pub is_hidden : Pinned → Group → ℕ → Bool
is_hidden pinned group position =
    (begins_late pinned.snapshot group position || is_ended_by pinned.view.buffer.value pinned.snapshot group position) || is_written pinned.own group position

-- to some positions of a group come those that pass a test
pub record Adds (group : Group) (test : ℕ → Bool) (old new : List ℕ) : Type 0 where
  pub within : All (λ position. position < length group.rows) old → All (λ position. position < length group.rows) new
  pub each : (position : ℕ) → position < length group.rows → is_one_of new position ≡ (is_one_of old position || test position)
