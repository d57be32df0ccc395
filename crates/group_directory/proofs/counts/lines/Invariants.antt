use Rattle.std.proofs.Common.{◌≡◌, map, take}
use Rattle.group_view.specs.Books.{group_of}
use Rattle.group_log.specs.Reports.{line_of}
use Rattle.group_directory.proofs.counts.lines.Given as goal

abbrev pub invariant-loop-group : goal.invariant-loop-group
invariant-loop-group l = l.lines ≡ map line_of (map group_of (take l.group-index l.groups))
