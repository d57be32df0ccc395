use Rattle.std.proofs.Common.{◌≡◌, ◌-◌, List, drop, take}
use Rattle.cs_types.specs.declared.Schema.{Schema}
use Rattle.cs_types.specs.declared.Value.{Value}
use Rattle.cs_model.specs.Answers.{edits_of}
use Rattle.tuple_mover.specs.Inserts.{rows_given, AreRowsOf}
use Rattle.tuple_mover.proofs.column_parcels.entries_from.Given as goal

abbrev pub invariant-loop-place : goal.invariant-loop-place
invariant-loop-place l = (schema : Schema) (rows : List (List Value)) → AreRowsOf schema l.keys l.columns rows → l.entries.items ≡ rows_given (edits_of schema (take (l.place - l.from) (drop l.from rows)))
