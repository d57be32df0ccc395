-- Quotients and remainders of numbers with signs.
use Rattle.std.proofs.Common.{◌%◌, ◌≤◌, ℤ, pos, negsuc, ◌≤ℤ◌, int_rem, unsigned_abs, arith}
use Rattle.std.proofs.Math.Nat.{mod-le}
use Rattle.std.proofs.lemmas.Int.{ints}

pub rem_above : (a b : ℤ) → pos 0 ≤ℤ a → pos 0 ≤ℤ int_rem a b
rem_above (pos a) b h = omega (arith, ints)
rem_above (negsuc a) b h = absurd (omega (arith, ints))

pub rem_under : (a b : ℤ) → a ≤ℤ pos 0 → int_rem a b ≤ℤ pos 0
rem_under (pos a) b h = let least : a % unsigned_abs b ≤ a = mod-le a (unsigned_abs b) in omega (arith, ints)
rem_under (negsuc a) b h = omega (arith, ints)
