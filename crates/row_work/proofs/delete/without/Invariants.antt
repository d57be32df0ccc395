use Rattle.std.proofs.Common.{◌≡◌, ℕ, take, map, All}
use Rattle.std.specs.Prelude.{None}
use Rattle.edit_laws.specs.Edits.{edits_of}
use Rattle.row_work.specs.declared.choose.Chosen.{Chosen}
use Rattle.row_work.specs.Keyed.{Replaces}
use Rattle.row_work.proofs.delete.without.Given as goal

abbrev pub invariant-loop-one : goal.invariant-loop-one
invariant-loop-one l = record {
  edits : edits_of l.writes.items ≡ map (λ (one : Chosen). (one.key, None)) (take l.one-index l.chosen);
  replaces : (width : ℕ) → All (Replaces width l.pinned) l.writes.items;
}
