use Rattle.std.proofs.Common.{◌≡◌, ◌-◌, ◌≤◌, ◌++◌, List, length, take, drop}
use Rattle.cs_types.specs.declared.Value.{Value}
use Rattle.batch_aggregate.specs.Standing.{StandsFor}
use Rattle.row_work.specs.Reads.{read_of}
use Rattle.row_work.proofs.select.add_groups.Given as goal

abbrev pub invariant-loop-group : goal.invariant-loop-group
invariant-loop-group l = record {
  since : l.from ≤ l.group;
  schema : l.partial.schema.now ≡ l.initial.partial.schema.now;
  query : l.partial.query.now ≡ l.initial.partial.query.now;
  added : (rows : List (List Value)) → StandsFor l.initial.partial rows → StandsFor l.partial (rows ++ read_of (length l.schema.columns) l.pinned (take (l.group - l.from) (drop l.from l.pinned.view.groups)));
}
