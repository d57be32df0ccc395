use Rattle.std.proofs.Common.{◌≡◌, ◌++◌, List}
use Rattle.cs_types.specs.declared.Value.{Value}
use Rattle.row_group.specs.Groups.{Group}
use Rattle.batch_aggregate.specs.Standing.{StandsFor}
use Rattle.code_tallies.specs.Shown.{rows_at}
use Rattle.code_tallies.specs.Scans.{IsScan}
use Rattle.code_tallies.specs.Tables.{keys_below}
use Rattle.code_tallies.proofs.finish.add_groups.Given as goal

abbrev pub invariant-loop-key : goal.invariant-loop-key
invariant-loop-key l = record {
  schema : l.partial.schema.now ≡ l.initial.partial.schema.now;
  query : l.partial.query.now ≡ l.initial.partial.query.now;
  added : (group : Group) (rows : List (List Value)) → IsScan group l.initial.partial l.chosen l.counts l.tables → StandsFor l.initial.partial rows → StandsFor l.partial (rows ++ rows_at group (keys_below l.chosen l.key));
}
