-- Numbers in units of 10 ^ -18.
use Rattle.std.proofs.Common.{ℕ, ◌-◌, ◌^◌, ◌≤◌, arith, lit<}
use Rattle.std.proofs.Math.Nat.{pow-le-pow_right}

pub power_bound : (s : ℕ) → 10 ^ (18 - s) ≤ 1000000000000000000
power_bound s = let small : 18 - s ≤ 18 = omega arith in pow-le-pow_right (lit< tt) small
