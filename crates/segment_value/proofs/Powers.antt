-- Powers of ten, and what they divide.
use Rattle.std.proofs.Common.{◌≡◌, ℕ, ◌-◌, ◌*◌, ◌^◌, ◌≤◌, ℤ, pos, negsuc, ◌∙◌, ap, lit<, arith, unsigned_abs, int_rem, neg_ℤ, pow-add}
use Rattle.std.proofs.Math.Nat.{one-le-pow, pow-le-pow_right, one-dvd, dvd-mul_right}
use Rattle.std.proofs.lemmas.Nat.Gcd.{dvd_trans, mod-eq-zero_of_dvd}
use Rattle.segment_value.specs.Scales.{Divides}

pub ten_positive : (e : ℕ) → 1 ≤ 10 ^ e
ten_positive e = one-le-pow e 10 (lit< tt)

pub ten_small : (e : ℕ) → e ≤ 18 → 10 ^ e ≤ 1_000_000_000_000_000_000
ten_small e small = pow-le-pow_right (lit< tt) small

pub ruleset powers = (ten_positive, ten_small)

pub Divides-less : (d e : ℕ) (n : ℤ) → d ≤ e → Divides e n → Divides d n
Divides-less d e n le h =
    let split : 10 ^ e ≡ 10 ^ d * 10 ^ (e - d) = ap (λ k. 10 ^ k) (omega arith) ∙ pow-add 10 d (e - d) in
    dvd_trans (10 ^ d) (rw split (dvd-mul_right (10 ^ d) (10 ^ (e - d)))) h

pub Divides-none : (n : ℤ) → Divides 0 n
Divides-none n = one-dvd (unsigned_abs n)

pub rem_from_Divides : (e : ℕ) (n : ℤ) → Divides e n → int_rem n (pos (10 ^ e)) ≡ pos 0
rem_from_Divides e (pos a) h = ap pos (mod-eq-zero_of_dvd (10 ^ e) h)
rem_from_Divides e (negsuc a) h = ap (λ k. neg_ℤ (pos k)) (mod-eq-zero_of_dvd (10 ^ e) h)
