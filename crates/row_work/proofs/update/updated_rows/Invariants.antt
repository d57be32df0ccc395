use Rattle.std.proofs.Common.{◌≡◌, ◌+◌, ℕ, drop, take, map, length, All}
use Rattle.cs_model.specs.Answers.{rows_from, updated_entry}
use Rattle.cs_model.specs.Changes.{Table}
use Rattle.edit_laws.specs.Edits.{edits_of}
use Rattle.row_work.specs.declared.choose.Chosen.{Chosen}
use Rattle.row_work.specs.Keyed.{Replaces}
use Rattle.write_set.specs.Writes.{write_keys}
use Rattle.row_work.specs.Sources.{chosen_edit, rows_as_edits}
use Rattle.row_work.proofs.Written.{behind}
use Rattle.row_work.proofs.update.updated_rows.Given as goal

abbrev pub invariant-loop-i : goal.invariant-loop-i
invariant-loop-i l = record {
  gives : (rows : Table) → map (chosen_edit (length l.schema.columns) l.pinned) l.chosen ≡ rows_as_edits rows
      → behind (edits_of l.writes) (rows_from (updated_entry l.schema l.sets) (l.i + 1) (drop l.i rows)) ≡ rows_from (updated_entry l.schema l.sets) 1 rows;
  keys : write_keys l.writes ≡ map (λ (one : Chosen). one.key) (take l.i l.chosen);
  replaces : (width : ℕ) → All (Replaces width l.pinned) l.writes;
}
