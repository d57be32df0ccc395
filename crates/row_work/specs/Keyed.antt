-- Writes by key, and what they make of the table of the snapshot.
use Rattle.std.specs.Prelude.{◌≡◌, ◌||◌, ℕ, List, All, Contains, Bool}
use Rattle.cs_types.specs.declared.Key.{Key}
use Rattle.cs_model.specs.Changes.{Edit}
use Rattle.cs_model.specs.Obstacles.{has_row, keys_of, stands_twice}
use Rattle.write_set.specs.declared.write.Write.{Write}
use Rattle.write_set.specs.Writes.{write_keys, Ascend}
use Rattle.edit_laws.specs.Edits.{edits_of}
use Rattle.group_view.specs.declared.view.Pinned.{Pinned}
use Rattle.row_work.specs.Reads.{shown_by, read_by}

-- the write says whether its key is in the table of the snapshot
abbrev pub Replaces : ℕ → Pinned → Write → Type 0
Replaces width pinned write = write.replaces ≡ has_row (shown_by width pinned) write.key

-- writes by key, one for each key of the edits: each is one of the edits
pub record AreKeyed (edits : List Edit) (writes : List Write) : Type 0 where
  pub order : Ascend writes
  pub each : All (Contains edits) (edits_of writes)
  pub every : All (λ (edit : Edit). Contains (write_keys writes) edit.0) edits

-- an INSERT of these edits would make the key stand twice: it is in what is read, or twice among them
abbrev pub would_stand_twice : ℕ → Pinned → List Edit → Key → Bool
would_stand_twice width pinned edits key = has_row (read_by width pinned) key || stands_twice (keys_of edits) key
