use Rattle.std.proofs.Common.{◌≡◌, ◌++◌, List, take}
use Rattle.std.specs.List.{filter_map}
use Rattle.std.specs.Map.{values_of}
use Rattle.cs_types.specs.declared.Value.{Value}
use Rattle.batch_aggregate.specs.Standing.{StandsFor}
use Rattle.row_work.specs.Reads.{rowed_at}
use Rattle.row_work.specs.Stores.{read_at_position}
use Rattle.row_work.proofs.listed.add_at_positions.Given as goal

abbrev pub invariant-loop-position : goal.invariant-loop-position
invariant-loop-position l = record {
  schema : l.partial.schema.now ≡ l.initial.partial.schema.now;
  query : l.partial.query.now ≡ l.initial.partial.query.now;
  added : (rows : List (List Value)) → StandsFor l.initial.partial rows → StandsFor l.partial (rows ++ values_of (filter_map (read_at_position l.width l.pinned (rowed_at l.pinned.view l.group)) (take l.position-index l.positions)));
}
