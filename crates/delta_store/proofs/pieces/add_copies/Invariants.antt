use Rattle.std.proofs.Common.{◌≡◌, ◌++◌, take}
use Rattle.delta_store.proofs.pieces.add_copies.Given as goal

abbrev pub invariant-loop-version : goal.invariant-loop-version
invariant-loop-version l = l.copied.items ≡ l.initial.copied.items ++ take l.version-index l.versions
