use Rattle.std.proofs.Common.{◌≡◌, take}
use Rattle.std.specs.List.{flat_map}
use Rattle.group_directory.specs.Ledgers.{holders_of}
use Rattle.group_directory.proofs.counts.holders.Given as goal

abbrev pub invariant-loop-held : goal.invariant-loop-held
invariant-loop-held l = l.holders ≡ flat_map holders_of (take l.held-index l.claims)
