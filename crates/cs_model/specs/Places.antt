-- How many statements each actor began, counted entry by entry.
use Rattle.std.specs.Prelude.{ℕ, List, slice_get, if◌then◌else◌, unwrap_or}
use Rattle.cs_model.specs.declared.entry.Entry.{Entry}
use Rattle.cs_model.specs.Text.{is_start_of}

-- the count of an actor: that at the place of its number, and 0 past the end
abbrev pub place_in : List ℕ → ℕ → ℕ
place_in places actor = unwrap_or (slice_get places actor) 0

-- what an entry adds to the count of a session: one where it begins a statement of that session
abbrev pub start_added : Entry → ℕ → ℕ
start_added entry session = if is_start_of session entry then 1 else 0
