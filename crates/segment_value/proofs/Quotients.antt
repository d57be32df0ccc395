-- Quotients by a power of ten, and codes of numbers.
use Rattle.std.proofs.Common.{◌≡◌, ℕ, ◌*◌, ◌/◌, ◌^◌, ◌<◌, ◌≤◌, ℤ, pos, negsuc, ◌+ℤ◌, ◌-ℤ◌, ◌*ℤ◌, ◌≤ℤ◌, ◌<ℤ◌, arith, refl, unsigned_abs, int_div, suc}
use Rattle.std.specs.declared.cmp.Ordering.{Ordering}
use Rattle.std.specs.declared.cmp.Ordering.TheVariants.{Less, Equal, Greater}
use Rattle.std.specs.Ordering.{int_cmp, MatchOrdering}
use Rattle.std.proofs.lemmas.Cmp.{int_ranked}
use Rattle.std.proofs.lemmas.Int.{ints, quot-rem}
use Rattle.std.proofs.Math.Nat.{div-mul-le_self}
use Rattle.std.proofs.lemmas.Nat.{le-div, mul-le}
use Rattle.segment_value.specs.Scales.{Divides}
use Rattle.segment_value.proofs.Powers.{rem_from_Divides}

-- a multiple of the power of ten is the product of its quotient
pub quot-mul : (e : ℕ) (n : ℤ) → Divides e n → int_div n (pos (10 ^ e)) *ℤ pos (10 ^ e) ≡ n
quot-mul e n h = omega (arith, ints, quot-rem n (pos (10 ^ e)), rem_from_Divides e n h)

div-le : (a b d : ℕ) → 0 < d → a ≤ b → a / d ≤ b / d
div-le a b d some h = le-div (a / d) b d some (omega (arith, div-mul-le_self a d))

pub quot-le : (m n : ℤ) (d : ℕ) → 0 < d → m ≤ℤ n → int_div m (pos d) ≤ℤ int_div n (pos d)
quot-le (pos a) (pos b) d some h = omega (arith, ints, div-le a b d some (omega (arith, ints)))
quot-le (pos a) (negsuc b) d some h = absurd (omega (arith, ints))
quot-le (negsuc a) (pos b) d some h = omega (arith, ints)
quot-le (negsuc a) (negsuc b) d some h = omega (arith, ints, div-le (suc b) (suc a) d some (omega (arith, ints)))

pub distance : (q base : ℤ) → base ≤ℤ q → base +ℤ pos (unsigned_abs (q -ℤ base)) ≡ q
distance q base h = omega (arith, ints)

pub distance-le : (q r base : ℤ) → base ≤ℤ q → q ≤ℤ r → unsigned_abs (q -ℤ base) ≤ unsigned_abs (r -ℤ base)
distance-le q r base from to = omega (arith, ints)

more : (a b k : ℕ) → 0 < k → a < b → a * k < b * k
more a b k some h = let least : (suc a) * k ≤ b * k = mul-le (suc a) k b k (omega arith) (omega arith) in omega (arith, least)

-- products with a positive factor are in the order of the other factors
pub scaled-less : (m n : ℤ) (k : ℕ) → 0 < k → m <ℤ n → (m *ℤ pos k) <ℤ (n *ℤ pos k)
scaled-less (pos a) (pos b) k some h = omega (arith, ints, more a b k some (omega (arith, ints)))
scaled-less (pos a) (negsuc b) k some h = absurd (omega (arith, ints))
scaled-less (negsuc a) (pos b) k some h = omega (arith, ints, mul-le 1 k (suc a) k (omega arith) (omega arith))
scaled-less (negsuc a) (negsuc b) k some h = omega (arith, ints, more (suc b) (suc a) k some (omega (arith, ints)))

pub scaled-le : (m n : ℤ) (k : ℕ) → 0 < k → m ≤ℤ n → (m *ℤ pos k) ≤ℤ (n *ℤ pos k)
scaled-le m n k some h = go (int_cmp m n) (int_ranked m n (int_cmp m n) refl)
  where
    go : (r : Ordering) → MatchOrdering r (m <ℤ n) (m ≡ n) (n <ℤ m) → (m *ℤ pos k) ≤ℤ (n *ℤ pos k)
    go Less less = omega (arith, ints, scaled-less m n k some less)
    go Equal same = rw same (omega (arith, ints))
    go Greater past = absurd (omega (arith, ints))

-- a positive factor cancels
pub scaled-same : (m n : ℤ) (k : ℕ) → 0 < k → m *ℤ pos k ≡ n *ℤ pos k → m ≡ n
scaled-same m n k some e = go (int_cmp m n) (int_ranked m n (int_cmp m n) refl)
  where
    go : (r : Ordering) → MatchOrdering r (m <ℤ n) (m ≡ n) (n <ℤ m) → m ≡ n
    go Less less = absurd (omega (arith, ints, scaled-less m n k some less))
    go Equal same = same
    go Greater past = absurd (omega (arith, ints, scaled-less n m k some past))
