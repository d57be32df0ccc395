-- The entries that go with versions that are left out.
use Rattle.std.specs.Prelude.{ℕ, ◌&&◌, Bool, List, map, nat_le}
use Rattle.std.specs.List.{list_any}
use Rattle.group_book.specs.Book.{Version, Ending}
use Rattle.group_book.specs.Turns.{ends}

-- the entry ends one of the versions by the floor
abbrev pub is_spent : ℕ → List Ending → List Version → Ending → Bool
is_spent floor buffer versions entry = nat_le entry.end floor && list_any (ends buffer entry) versions

-- which of the buffer's entries do
abbrev pub spent_by : ℕ → List Ending → List Version → List Bool
spent_by floor buffer versions = map (is_spent floor buffer versions) buffer
