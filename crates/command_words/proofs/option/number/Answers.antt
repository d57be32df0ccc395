use Rattle.std.proofs.Common.{ℕ, ◌<◌, ◌≤◌, ◌^◌, arith}
use Rattle.std.proofs.Math.Nat.{pow-le-pow_right}
use Rattle.command_words.proofs.option.number.Goals as goal

-- so far nine digits at most
small : (number i : ℕ) → number < 10 ^ i → i < 10 → number < 1000000000
small number i h l = let most : 10 ^ i ≤ 10 ^ 9 = pow-le-pow_right {n = 10} (omega arith) {i = i} {j = 9} (omega arith) in omega arith

pub overflow_mul-number : goal.overflow_mul-number
overflow_mul-number c = omega (arith, small c.loop-byte.number c.loop-byte.byte-index c.loop-byte.invariant.bound (omega arith))

pub overflow_add-number : goal.overflow_add-number
overflow_add-number c = omega (arith, small c.loop-byte.number c.loop-byte.byte-index c.loop-byte.invariant.bound (omega arith), c.from.ensures)
