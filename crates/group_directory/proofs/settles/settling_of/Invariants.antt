use Rattle.std.proofs.Common.{◌≡◌, map, take}
use Rattle.std.specs.List.{AllZip}
use Rattle.group_view.specs.Books.{claim_of, group_of}
use Rattle.group_directory.specs.Settling.{settling_in, IsSettledBy}
use Rattle.group_directory.proofs.settles.settling_of.Given as goal

abbrev pub invariant-loop-group : goal.invariant-loop-group
invariant-loop-group l = record {
  each : AllZip (IsSettledBy l.floor (map claim_of l.list.claims.items)) (take l.group-index l.list.groups.items) l.marks.items;
  number : l.number ≡ settling_in l.floor (map claim_of l.list.claims.items) (map group_of (take l.group-index l.list.groups.items));
}
