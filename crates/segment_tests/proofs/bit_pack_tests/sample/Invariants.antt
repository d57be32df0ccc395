use Rattle.std.proofs.Common.{◌^◌, ◌<◌, All}
use Rattle.segment_tests.proofs.bit_pack_tests.sample.Given as goal

abbrev pub invariant-loop : goal.invariant-loop
invariant-loop l = All (λ code. code < 2 ^ l.width) l.codes.items
