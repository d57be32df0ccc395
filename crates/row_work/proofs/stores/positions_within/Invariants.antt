use Rattle.std.proofs.Common.{ℕ, map, take, IsPermutation}
use Rattle.cs_types.specs.declared.Key.{Key}
use Rattle.group_view.specs.Parts.{stored_versions}
use Rattle.row_work.specs.Stores.{positions_of}
use Rattle.row_work.proofs.Stored.{is_read_in}
use Rattle.row_work.proofs.stores.positions_within.Given as goal

abbrev pub invariant-loop-key : goal.invariant-loop-key
invariant-loop-key l = IsPermutation l.positions.items (positions_of (is_read_in l.pinned (map (λ (pair : Key × ℕ). pair.0) (take l.key-index l.key-items))) (stored_versions l.store))
