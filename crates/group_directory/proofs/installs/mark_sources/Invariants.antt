use Rattle.std.proofs.Common.{◌≡◌, ◌++◌, reverse, take, drop}
use Rattle.group_directory.specs.Installing.{marked_by}
use Rattle.group_directory.proofs.installs.mark_sources.Given as goal

-- what is left goes to what is left
abbrev pub invariant-loop-group : goal.invariant-loop-group
invariant-loop-group l = take l.group-index l.groups ++ marked_by (reverse l.left.items) (drop l.group-index l.groups) ≡ marked_by l.fn.left.items l.initial.groups
