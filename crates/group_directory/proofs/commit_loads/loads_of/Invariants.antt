use Rattle.std.proofs.Common.{◌≡◌, ◌++◌}
use Rattle.std.specs.List.{AllZip}
use Rattle.std.specs.Vec.Iter.{into_iter_items}
use Rattle.group_directory.specs.Committing.{IsNewGroupOf}
use Rattle.group_directory.proofs.commit_loads.loads_of.Given as goal

abbrev pub invariant-loop-group : goal.invariant-loop-group
invariant-loop-group l = record {
  made : AllZip (IsNewGroupOf l.c) l.yielded l.loads.items;
  rest : l.yielded ++ into_iter_items l.group-iterator ≡ l.fn.groups;
}
