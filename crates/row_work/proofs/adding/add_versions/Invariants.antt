use Rattle.std.proofs.Common.{◌≡◌, ◌++◌, List, take}
use Rattle.cs_types.specs.declared.Value.{Value}
use Rattle.batch_aggregate.specs.Standing.{StandsFor}
use Rattle.row_work.specs.Reads.{rowed_at}
use Rattle.row_work.specs.Sieved.{read_in}
use Rattle.row_work.proofs.adding.add_versions.Given as goal

abbrev pub invariant-loop-position : goal.invariant-loop-position
invariant-loop-position l = record {
  schema : l.partial.schema.now ≡ l.initial.partial.schema.now;
  query : l.partial.query.now ≡ l.initial.partial.query.now;
  added : (rows : List (List Value)) → StandsFor l.initial.partial rows → StandsFor l.partial (rows ++ read_in l.width l.pinned (take l.position (rowed_at l.pinned.view l.group)));
}
