use Rattle.std.proofs.Common.{◌≡◌, ◌++◌, ◌*◌, take}
use Rattle.bit_pack.specs.Codes.{packed}
use Rattle.bit_pack.proofs.write.put_blocks.Given as goal

abbrev pub invariant-loop-block : goal.invariant-loop-block
invariant-loop-block g l = l.out.items ≡ l.initial.out.items ++ packed g.row.W (take (64 * l.block) l.codes)
