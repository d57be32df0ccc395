use Rattle.std.proofs.Common.{◌≡◌, ◌++◌, ◌∷◌, [], take}
use Rattle.std.specs.List.{flat_map}
use Rattle.cs_types.specs.Text.{quoted_byte}
use Rattle.cs_types.proofs.print.quote.Given as goal

abbrev pub invariant-loop-byte : goal.invariant-loop-byte
invariant-loop-byte l =
    l.line ≡ l.fn.line ++ 39 ∷ [] ++ flat_map quoted_byte (take l.byte-index l.text)
