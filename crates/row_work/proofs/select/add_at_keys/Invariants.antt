use Rattle.std.proofs.Common.{◌≡◌, ◌++◌, List, take}
use Rattle.std.specs.Map.{values_of}
use Rattle.cs_types.specs.declared.Value.{Value}
use Rattle.batch_aggregate.specs.Standing.{StandsFor}
use Rattle.row_work.specs.Named.{rows_at}
use Rattle.row_work.specs.Reads.{read_by}
use Rattle.row_work.proofs.select.add_at_keys.Given as goal

abbrev pub invariant-loop-key : goal.invariant-loop-key
invariant-loop-key l = record {
  schema : l.partial.schema.now ≡ l.initial.partial.schema.now;
  query : l.partial.query.now ≡ l.initial.partial.query.now;
  added : (rows : List (List Value)) → StandsFor l.initial.partial rows → StandsFor l.partial (rows ++ values_of (rows_at (read_by l.width l.pinned) (take l.key-index l.keys)));
}
