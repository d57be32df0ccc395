use Rattle.std.proofs.Common.{length, slice_index, max}
use Rattle.batch_kernels.specs.Places.{key_in}
use Rattle.batch_kernels.proofs.Lone.{lone-table, lone-key, lone-there}
use Rattle.batch_kernels.proofs.tables.greatest_by_key.Goals as goal

pub returns-in-Some : goal.returns-in-Some
returns-in-Some c = λ k there.
    lone-table c.args.mask.now (λ m i. max m (slice_index c.args.codes.now i)) c.args.greatest.now 0 c.greatest_chosen.result c.in-Some.key k c.args.count
    (lone-there c.args.keys.now c.in-Some.key c.args.count (length c.args.greatest.now) c.in-Some.is c.requires.room.0 c.requires.keys)
    c.greatest_chosen.ensures (key_in c.args.keys.now) (λ i _. lone-key c.args.keys.now c.in-Some.key c.in-Some.is i)
