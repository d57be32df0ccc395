use Rattle.std.proofs.Common.{◌≡◌, ◌++◌, map, take, drop}
use Rattle.group_directory.specs.Installing.{buried, ids_of}
use Rattle.group_directory.proofs.installs.bury_sources.Given as goal

abbrev pub invariant-loop-group : goal.invariant-loop-group
invariant-loop-group l = l.groups ≡ map (buried (ids_of l.sources.groups)) (take l.group-index l.initial.groups) ++ drop l.group-index l.initial.groups
