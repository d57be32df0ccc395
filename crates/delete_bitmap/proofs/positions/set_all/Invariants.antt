use Rattle.std.proofs.Common.{◌≡◌, take, length}
use Rattle.delete_bitmap.specs.Bits.{bits_in, with_all}
use Rattle.delete_bitmap.proofs.positions.set_all.Given as goal

abbrev pub invariant-loop-position : goal.invariant-loop-position
invariant-loop-position l = record {
  bits : bits_in l.bits l.words.items ≡ with_all (take l.position-index l.positions) (bits_in l.bits l.initial.words.items);
  len : length l.words.items ≡ length l.initial.words.items;
}
