use Rattle.std.proofs.Common.{ℕ, ◌^◌, ◌<◌, ◌≤◌, sym, arith, lit<}
use Rattle.std.proofs.Math.Nat.{pow-le-pow_right, div-eq_of_lt, mod-eq_of_lt}
use Rattle.cs_types.proofs.print.split.Goals as goal

-- a number of 128 bits has at most 39 digits
below : (n s : ℕ) → n < 2 ^ 128 → 38 < s → n < 10 ^ s
below n s size far = let large : 10 ^ 39 ≤ 10 ^ s = pow-le-pow_right (lit< tt) far in omega arith

pub returns-else-s-le38-clause-whole : goal.returns-else-s-le38-clause-whole
returns-else-s-le38-clause-whole c =
    sym (div-eq_of_lt (below c.args.size c.args.s (omega arith) (omega arith)))

pub returns-else-s-le38-clause-rest : goal.returns-else-s-le38-clause-rest
returns-else-s-le38-clause-rest c =
    sym (mod-eq_of_lt (below c.args.size c.args.s (omega arith) (omega arith)))
