-- Numbers of different scales.
use Rattle.std.proofs.Common.{◌≡◌, ℕ, zero, suc, ◌+◌, ◌-◌, ◌*◌, ◌^◌, ◌<◌, ◌≤◌, lit<, ℤ, pos, negsuc, ◌*ℤ◌, neg_ℤ, ◌<ℤ◌, FitsSigned, refl, sym, ap, ◌∙◌, arith, ⊎_elim}
use Rattle.std.specs.Int.{w128}
use Rattle.std.specs.declared.cmp.Ordering.{Ordering}
use Rattle.std.specs.declared.cmp.Ordering.TheVariants.{Less, Equal, Greater}
use Rattle.std.specs.Ordering.{int_cmp, MatchOrdering, ordering_reverse}
use Rattle.std.proofs.lemmas.Cmp.{int_cmp_total}
use Rattle.std.specs.Cmp.{int_cmp_is, int_ranks}
use Rattle.std.proofs.Math.Nat.{one-le-pow, pow-le-pow_right, mul-lt-mul_of_pos_right, mul_assoc}
use Rattle.std.proofs.lemmas.Nat.{pow-add}
use Rattle.std.proofs.lemmas.Bool.{cases_lt}
use Rattle.std.proofs.lemmas.Int.{ints}

pub ten_positive : (k : ℕ) → 1 ≤ 10 ^ k
ten_positive k = one-le-pow k 10 (lit< tt)

pub ten_small : (k : ℕ) → k ≤ 38 → 10 ^ k ≤ 10 ^ 38
ten_small k small = pow-le-pow_right (lit< tt) small

pub ten_large : (k : ℕ) → 38 < k → 10 ^ 39 ≤ 10 ^ k
ten_large k large = let h : 39 ≤ k = omega arith in pow-le-pow_right (lit< tt) h

-- ---- products keep the order

neg_mul : (n c : ℕ) → neg_ℤ (pos n) *ℤ pos c ≡ neg_ℤ (pos (n * c))
neg_mul zero c = let e : 0 * c ≡ 0 = omega arith in rw e refl
neg_mul (suc n) c = refl

less_mul : (a b : ℤ) (c : ℕ) → 1 ≤ c → a <ℤ b → (a *ℤ pos c) <ℤ (b *ℤ pos c)
less_mul (pos x) (pos y) c one less = let m : x * c < y * c = mul-lt-mul_of_pos_right (omega (arith, ints)) (omega arith) in omega (arith, ints)
less_mul (pos x) (negsuc y) c one less = absurd (omega (arith, ints))
less_mul (negsuc x) (pos y) c one less = let m : 0 * c < suc x * c = mul-lt-mul_of_pos_right (omega arith) (omega arith) in omega (arith, ints)
less_mul (negsuc x) (negsuc y) c one less = let m : suc y * c < suc x * c = mul-lt-mul_of_pos_right (omega (arith, ints)) (omega arith) in omega (arith, ints)

ranks_mul : (r : Ordering) (a b : ℤ) (c : ℕ) → 1 ≤ c → MatchOrdering r (a <ℤ b) (a ≡ b) (b <ℤ a)
    → MatchOrdering r ((a *ℤ pos c) <ℤ (b *ℤ pos c)) (a *ℤ pos c ≡ b *ℤ pos c) ((b *ℤ pos c) <ℤ (a *ℤ pos c))
ranks_mul Less a b c one h = less_mul a b c one h
ranks_mul Equal a b c one h = ap (λ z. z *ℤ pos c) h
ranks_mul Greater a b c one h = less_mul b a c one h

-- two numbers are in the order of their products with a positive number
pub same_mul : (a b : ℤ) (c : ℕ) → 1 ≤ c → int_cmp (a *ℤ pos c) (b *ℤ pos c) ≡ int_cmp a b
same_mul a b c one = sym (int_cmp_is (a *ℤ pos c) (b *ℤ pos c) (int_cmp a b) (ranks_mul (int_cmp a b) a b c one (int_ranks a b)))

split_nat : (x s t : ℕ) → s ≤ t → x * 10 ^ t ≡ x * 10 ^ (t - s) * 10 ^ s
split_nat x s t least =
    let e : t ≡ (t - s) + s = omega arith in
    let p : 10 ^ t ≡ 10 ^ (t - s) * 10 ^ s = ap (λ k. 10 ^ k) e ∙ pow-add 10 (t - s) s in
    ap (λ k. x * k) p ∙ sym (mul_assoc x (10 ^ (t - s)) (10 ^ s))

split : (m : ℤ) (s t : ℕ) → s ≤ t → m *ℤ pos (10 ^ t) ≡ m *ℤ pos (10 ^ (t - s)) *ℤ pos (10 ^ s)
split (pos x) s t least = ap pos (split_nat x s t least)
split (negsuc x) s t least = ap (λ k. neg_ℤ (pos k)) (split_nat (suc x) s t least) ∙ sym (neg_mul (suc x * 10 ^ (t - s)) (10 ^ s))

-- at the greater scale the number of the other scale is multiplied alone
pub at_greater : (m : ℤ) (s : ℕ) (n : ℤ) (t : ℕ) → s ≤ t → int_cmp (m *ℤ pos (10 ^ t)) (n *ℤ pos (10 ^ s)) ≡ int_cmp (m *ℤ pos (10 ^ (t - s))) n
at_greater m s n t least =
    ap (λ z. int_cmp z (n *ℤ pos (10 ^ s))) (split m s t least) ∙ same_mul (m *ℤ pos (10 ^ (t - s))) n (10 ^ s) (ten_positive s)

-- and so the other way round
pub at_lesser : (m : ℤ) (s : ℕ) (n : ℤ) (t : ℕ) → t ≤ s → int_cmp (m *ℤ pos (10 ^ t)) (n *ℤ pos (10 ^ s)) ≡ ordering_reverse (int_cmp (n *ℤ pos (10 ^ (s - t))) m)
at_lesser m s n t least =
    int_cmp_total.antisymm (m *ℤ pos (10 ^ t)) (n *ℤ pos (10 ^ s)) ∙ ap ordering_reverse (at_greater n t m s least)

-- ---- what 128 bits do not keep

beyond : (a k : ℕ) → ((a * k < 2 ^ 127) → ⊥) → 2 ^ 127 ≤ a * k
beyond a k not = ⊎_elim (λ (less : a * k < 2 ^ 127). absurd (not less)) (λ (more : 2 ^ 127 ≤ a * k). more) (cases_lt (a * k) (2 ^ 127))

neg_beyond : (n : ℕ) → (FitsSigned w128 (neg_ℤ (pos n)) → ⊥) → 2 ^ 127 < n
neg_beyond zero big = absurd (big (record { sfits = lit< tt }))
neg_beyond (suc n) big =
    ⊎_elim (λ (less : n < 2 ^ 127). absurd (big (record { sfits = less }))) (λ (more : 2 ^ 127 ≤ n). omega arith) (cases_lt n (2 ^ 127))

-- a product that 128 bits do not keep stands to what they keep as its sign to 0
pub far : (m n : ℤ) (k : ℕ) → FitsSigned w128 n → (FitsSigned w128 (m *ℤ pos k) → ⊥) → int_cmp m (pos 0) ≡ int_cmp (m *ℤ pos k) n
far (pos zero) n k small big = let less : 0 * k < 2 ^ 127 = omega arith in absurd (big (record { sfits = less }))
far (pos (suc a)) n k small big =
    let more : 2 ^ 127 ≤ suc a * k = beyond (suc a) k (λ less. big (record { sfits = less })) in
    sym (int_cmp_is (pos (suc a)) (pos 0) Greater (omega (arith, ints))) ∙ int_cmp_is (pos (suc a * k)) n Greater (omega (arith, ints))
far (negsuc a) n k small big =
    let more : 2 ^ 127 < suc a * k = neg_beyond (suc a * k) big in
    sym (int_cmp_is (negsuc a) (pos 0) Less (omega (arith, ints))) ∙ int_cmp_is (neg_ℤ (pos (suc a * k))) n Less (omega (arith, ints))

pub ruleset scales = (ten_positive, ten_small, ten_large)
