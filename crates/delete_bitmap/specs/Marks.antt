-- The ends of a group's versions, by position.
use Rattle.std.specs.Prelude.{ℕ, Bool, true, false, List, Option, Some, None, is_some, nat_le, fold, slice_get, slice_set, unwrap_or, if◌then◌else◌}
use Rattle.delete_bitmap.specs.declared.MarkedEnd.{MarkedEnd}
use Rattle.delete_bitmap.specs.declared.MarkedEnd.TheVariants.{Plain, Stamped}

-- the end at a position, none past the last one
abbrev pub end_at : List (Option MarkedEnd) → ℕ → Option MarkedEnd
end_at marks position = unwrap_or (slice_get marks position) None

-- the ends where the versions at these positions are ended at a commit
abbrev pub with_ends : List ℕ → ℕ → List (Option MarkedEnd) → List (Option MarkedEnd)
with_ends positions commit marks = fold (λ ends p. slice_set ends p (Some (Stamped commit))) marks positions

-- the ends where the version at each of these positions is ended at the commit beside it
abbrev pub with_each : List (ℕ × ℕ) → List (Option MarkedEnd) → List (Option MarkedEnd)
with_each stamps marks = fold (λ ends s. slice_set ends s.0 (Some (Stamped s.1))) marks stamps

-- a stamped end at most the floor becomes plain, and any other stays
abbrev pub settled : ℕ → Option MarkedEnd → Option MarkedEnd
settled floor None = None
settled floor (Some Plain) = Some Plain
settled floor (Some (Stamped commit)) = if nat_le commit floor then Some Plain else Some (Stamped commit)

-- the end is stamped and at most the floor
abbrev pub is_settling : ℕ → Option MarkedEnd → Bool
is_settling floor None = false
is_settling floor (Some Plain) = false
is_settling floor (Some (Stamped commit)) = nat_le commit floor

-- the version has ended for every snapshot from the floor on
abbrev pub is_removable : ℕ → Option MarkedEnd → Bool
is_removable floor None = false
is_removable floor (Some Plain) = true
is_removable floor (Some (Stamped commit)) = nat_le commit floor

-- the version has ended
abbrev pub is_marked : Option MarkedEnd → Bool
is_marked end = is_some end
