use Rattle.std.proofs.Common.{true, arith}
use Rattle.std.proofs.lemmas.List.{length-set, length-replicate}
use Rattle.std.proofs.lemmas.Nat.{le_or_r}
use Rattle.delta_store.proofs.filter.Filter.for_keys.Goals as goal

-- the number of slots is odd
pub insert-requires : goal.insert-requires
insert-requires c = rw (c.none-slots.ensures, length-replicate) (omega (arith, le_or_r c.saturating_mul.result 1))

pub returns : goal.returns
returns c = rw (c.in_ok-insert.ensures.ok, length-set c.none-slots.result 0 true, c.none-slots.ensures, length-replicate) (omega (arith, le_or_r c.saturating_mul.result 1))
