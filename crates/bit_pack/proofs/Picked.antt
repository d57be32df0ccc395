-- What two words say of one code.
use Rattle.std.proofs.Common.{◌≡◌, ℕ, zero, ◌+◌, ◌-◌, ◌*◌, ◌/◌, ◌%◌, ◌^◌, ◌<◌, ◌≤◌, suc, List, [], ◌∷◌, get_or, drop, refl, sym, ◌∙◌, ap, subst, arith, add_assoc, add_comm, add-zero}
use Rattle.std.specs.Prelude.{bit_and, bit_or}
use Rattle.std.proofs.lemmas.Nat.{pow-add, pow_pos, or_shifted, or_comm, and_mask, shr_below, mod_below, mod-pow-add, shl-shr}
use Rattle.std.proofs.lemmas.Nat.Bits.{ones_shr}
use Rattle.std.proofs.lemmas.List.{get_or-drop, drop-drop}
use Rattle.std.proofs.Math.Nat.{add-mul-div_left, add-mul-mod_self_left, mul_assoc, mul_comm, mul-add, div-div-eq-div-mul, div-one, zero-div, pow-suc, add-mod-mod, mul-mod_left, mul-suc}
use Rattle.std.proofs.Math.Pow.{mod-mod-pow}
use Rattle.bit_pack.specs.Codes.{number_of}

-- the quotient of a word and what stands above it
pub high_part : (x r j k : ℕ) → (x + 2 ^ (k + j) * r) / 2 ^ k ≡ x / 2 ^ k + 2 ^ j * r
high_part x r j k =
    ap (λ p. (x + p * r) / 2 ^ k) (pow-add 2 k j)
    ∙ ap (λ p. (x + p) / 2 ^ k) (mul_assoc (2 ^ k) (2 ^ j) r)
    ∙ add-mul-div_left x (2 ^ j * r) (pow_pos k)

-- what stands above the width is cut
pub low_part : (a r w t : ℕ) → (a + 2 ^ (w + t) * r) % 2 ^ w ≡ a % 2 ^ w
low_part a r w t =
    ap (λ p. (a + p * r) % 2 ^ w) (pow-add 2 w t)
    ∙ ap (λ p. (a + p) % 2 ^ w) (mul_assoc (2 ^ w) (2 ^ t) r)
    ∙ add-mul-mod_self_left a (2 ^ w) (2 ^ t * r)

pub joined_step : (ws : List ℕ) → number_of 64 ws ≡ get_or ws 0 0 + 2 ^ 64 * number_of 64 (drop 1 ws)
joined_step [] = refl
joined_step (x ∷ xs) = refl

-- one word less
pub joined_rest : (x : ℕ) (xs : List ℕ) → x < 2 ^ 64 → number_of 64 (x ∷ xs) / 2 ^ 64 ≡ number_of 64 xs
joined_rest x xs small = high_part x (number_of 64 xs) 0 64 ∙ grind arith

pub joined_drop : (k : ℕ) (ws : List ℕ) → ((i : ℕ) → get_or ws i 0 < 2 ^ 64) → number_of 64 ws / (2 ^ 64) ^ k ≡ number_of 64 (drop k ws)
joined_drop zero ws small = div-one (number_of 64 ws)
joined_drop (suc k) [] small = zero-div ((2 ^ 64) ^ suc k)
joined_drop (suc k) (x ∷ xs) small =
    ap (λ p. number_of 64 (x ∷ xs) / p) (pow-suc (2 ^ 64) k ∙ mul_comm ((2 ^ 64) ^ k) (2 ^ 64))
    ∙ sym (div-div-eq-div-mul (number_of 64 (x ∷ xs)) (2 ^ 64) ((2 ^ 64) ^ k))
    ∙ ap (λ n. n / (2 ^ 64) ^ k) (joined_rest x xs (small 0))
    ∙ joined_drop k xs (λ i. small (suc i))

-- the words from word k on, as two words and the rest
pub joined_two : (k : ℕ) (ws : List ℕ) → number_of 64 (drop k ws) ≡ get_or ws k 0 + 2 ^ 64 * (get_or ws (k + 1) 0 + 2 ^ 64 * number_of 64 (drop (k + 2) ws))
joined_two k ws =
    joined_step (drop k ws)
    ∙ ap (λ n. get_or (drop k ws) 0 0 + 2 ^ 64 * n) (joined_step (drop 1 (drop k ws)))
    ∙ ap (λ n. n + 2 ^ 64 * (get_or (drop 1 (drop k ws)) 0 0 + 2 ^ 64 * number_of 64 (drop 1 (drop 1 (drop k ws))))) (get_or-drop k ws 0 0 ∙ ap (λ i. get_or ws i 0) (add-zero k))
    ∙ ap (λ n. get_or ws k 0 + 2 ^ 64 * (n + 2 ^ 64 * number_of 64 (drop 1 (drop 1 (drop k ws))))) (get_or-drop 1 (drop k ws) 0 0 ∙ get_or-drop k ws 1 0)
    ∙ ap (λ l. get_or ws k 0 + 2 ^ 64 * (get_or ws (k + 1) 0 + 2 ^ 64 * number_of 64 l)) (ap (drop 1) (drop-drop 1 k ws) ∙ drop-drop 1 (k + 1) ws ∙ ap (λ i. drop i ws) (add_assoc k 1 1))

pow_words : (k : ℕ) → 2 ^ (64 * k) ≡ (2 ^ 64) ^ k
pow_words zero = refl
pow_words (suc k) = ap (λ e. 2 ^ e) (mul-suc 64 k) ∙ pow-add 2 (64 * k) 64 ∙ ap (λ p. p * 2 ^ 64) (pow_words k) ∙ sym (pow-suc (2 ^ 64) k)

-- the words from bit k * 64 + off on
pub joined_from : (ws : List ℕ) (k off : ℕ) → ((i : ℕ) → get_or ws i 0 < 2 ^ 64) → number_of 64 ws / 2 ^ (64 * k + off) ≡ number_of 64 (drop k ws) / 2 ^ off
joined_from ws k off small =
    ap (λ p. number_of 64 ws / p) (pow-add 2 (64 * k) off ∙ ap (λ p. p * 2 ^ off) (pow_words k))
    ∙ sym (div-div-eq-div-mul (number_of 64 ws) ((2 ^ 64) ^ k) (2 ^ off))
    ∙ ap (λ n. n / 2 ^ off) (joined_drop k ws small)

-- a code within one word
pub lane_in_one : (ws : List ℕ) (k off w t : ℕ) → ((i : ℕ) → get_or ws i 0 < 2 ^ 64) → off + (w + t) ≡ 64 → number_of 64 ws / 2 ^ (64 * k + off) % 2 ^ w ≡ get_or ws k 0 / 2 ^ off % 2 ^ w
lane_in_one ws k off w t small whole =
    let rest : ℕ = get_or ws (k + 1) 0 + 2 ^ 64 * number_of 64 (drop (k + 2) ws) in
    ap (λ n. n % 2 ^ w) (joined_from ws k off small ∙ ap (λ n. n / 2 ^ off) (joined_two k ws ∙ ap (λ e. get_or ws k 0 + 2 ^ e * rest) (sym whole)) ∙ high_part (get_or ws k 0) rest (w + t) off)
    ∙ low_part (get_or ws k 0 / 2 ^ off) rest w t

spread : (a b r j : ℕ) → a + 2 ^ j * (b + 2 ^ 64 * r) ≡ a + 2 ^ j * b + 2 ^ (j + 64) * r
spread a b r j =
    ap (λ n. a + n) (mul-add (2 ^ j) b (2 ^ 64 * r) ∙ ap (λ n. 2 ^ j * b + n) (sym (mul_assoc (2 ^ j) (2 ^ 64) r) ∙ ap (λ p. p * r) (sym (pow-add 2 j 64))))
    ∙ sym (add_assoc a (2 ^ j * b) (2 ^ (j + 64) * r))

-- a code in two words
pub lane_in_two : (ws : List ℕ) (k off j w t : ℕ) → ((i : ℕ) → get_or ws i 0 < 2 ^ 64) → off + j ≡ 64 → j + 64 ≡ w + t → number_of 64 ws / 2 ^ (64 * k + off) % 2 ^ w ≡ (get_or ws k 0 / 2 ^ off + 2 ^ j * get_or ws (k + 1) 0) % 2 ^ w
lane_in_two ws k off j w t small whole wide =
    let second : ℕ = get_or ws (k + 1) 0 in
    let rest : ℕ = number_of 64 (drop (k + 2) ws) in
    ap (λ n. n % 2 ^ w) (joined_from ws k off small ∙ ap (λ n. n / 2 ^ off) (joined_two k ws ∙ ap (λ e. get_or ws k 0 + 2 ^ e * (second + 2 ^ 64 * rest)) (sym whole)) ∙ high_part (get_or ws k 0) (second + 2 ^ 64 * rest) j off ∙ spread (get_or ws k 0 / 2 ^ off) second rest j)
    ∙ ap (λ e. (get_or ws k 0 / 2 ^ off + 2 ^ j * second + 2 ^ e * rest) % 2 ^ w) wide
    ∙ low_part (get_or ws k 0 / 2 ^ off + 2 ^ j * second) rest w t

-- what the code computes in one word
pub masked : (n w t : ℕ) → w + t ≡ 64 → bit_and n ((2 ^ 64 - 1) / 2 ^ t) ≡ n % 2 ^ w
masked n w t whole =
    ap (λ m. bit_and n m) (ones_shr 64 t (omega arith) ∙ ap (λ e. 2 ^ e - 1) (let e : 64 - t ≡ w = omega arith in e))
    ∙ and_mask n w

-- a shift to the left drops the high bits
pub cut : (y off j : ℕ) → off + j ≡ 64 → y * 2 ^ j % 2 ^ 64 ≡ y % 2 ^ off * 2 ^ j
cut y off j whole =
    ap (λ e. y * 2 ^ j % 2 ^ e) (sym whole)
    ∙ mod-pow-add (y * 2 ^ j) off j
    ∙ ap (λ n. n % 2 ^ off * 2 ^ j + y * 2 ^ j % 2 ^ j) (shl-shr y j)
    ∙ ap (λ n. y % 2 ^ off * 2 ^ j + n) (mul-mod_left y (2 ^ j))
    ∙ add-zero (y % 2 ^ off * 2 ^ j)

narrowed : (n w t : ℕ) → w + t ≡ 64 → n % 2 ^ 64 % 2 ^ w ≡ n % 2 ^ w
narrowed n w t wide = ap (λ e. n % 2 ^ e % 2 ^ w) (sym wide ∙ add_comm w t) ∙ mod-mod-pow n t w

-- what the code computes in two words
pub two_masked : (x y off j w t : ℕ) → x < 2 ^ 64 → off + j ≡ 64 → w + t ≡ 64 → bit_and (bit_or (x / 2 ^ off) (y * 2 ^ j % 2 ^ 64)) ((2 ^ 64 - 1) / 2 ^ t) ≡ (x / 2 ^ off + 2 ^ j * y) % 2 ^ w
two_masked x y off j w t small whole wide =
    masked (bit_or (x / 2 ^ off) (y * 2 ^ j % 2 ^ 64)) w t wide
    ∙ ap (λ n. n % 2 ^ w) (ap (λ n. bit_or (x / 2 ^ off) n) (cut y off j whole) ∙ or_comm (x / 2 ^ off) (y % 2 ^ off * 2 ^ j) ∙ or_shifted (y % 2 ^ off) j (x / 2 ^ off) (shr_below x j off (let e : j + off ≡ 64 = omega arith in let P : ℕ → Type 0 = λ n. x < 2 ^ n in subst P (sym e) small)))
    ∙ ap (λ n. (n + x / 2 ^ off) % 2 ^ w) (sym (cut y off j whole))
    ∙ ap (λ n. n % 2 ^ w) (add_comm (y * 2 ^ j % 2 ^ 64) (x / 2 ^ off))
    ∙ sym (add-mod-mod (x / 2 ^ off) (y * 2 ^ j % 2 ^ 64) (2 ^ w))
    ∙ ap (λ n. (x / 2 ^ off + n) % 2 ^ w) (narrowed (y * 2 ^ j) w t wide)
    ∙ add-mod-mod (x / 2 ^ off) (y * 2 ^ j) (2 ^ w)
    ∙ ap (λ n. (x / 2 ^ off + n) % 2 ^ w) (mul_comm y (2 ^ j))

-- the place of a bit, by its word
place : (base bit : ℕ) → 64 * base + bit ≡ 64 * (base + bit / 64) + bit % 64
place base bit = omega arith

pub picked_one : (ws : List ℕ) (base bit w : ℕ) → ((i : ℕ) → get_or ws i 0 < 2 ^ 64) → bit % 64 + w ≤ 64 → bit_and (get_or ws (base + bit / 64) 0 / 2 ^ (bit % 64)) ((2 ^ 64 - 1) / 2 ^ (64 - w)) ≡ number_of 64 ws / 2 ^ (64 * base + bit) % 2 ^ w
picked_one ws base bit w small within =
    masked (get_or ws (base + bit / 64) 0 / 2 ^ (bit % 64)) w (64 - w) (omega arith)
    ∙ sym (ap (λ b. number_of 64 ws / 2 ^ b % 2 ^ w) (place base bit) ∙ lane_in_one ws (base + bit / 64) (bit % 64) w (64 - (bit % 64 + w)) small (omega arith))

pub picked_two : (ws : List ℕ) (base bit w : ℕ) → ((i : ℕ) → get_or ws i 0 < 2 ^ 64) → w ≤ 64 → bit_and (bit_or (get_or ws (base + bit / 64) 0 / 2 ^ (bit % 64)) (get_or ws (base + bit / 64 + 1) 0 * 2 ^ (64 - bit % 64) % 2 ^ 64)) ((2 ^ 64 - 1) / 2 ^ (64 - w)) ≡ number_of 64 ws / 2 ^ (64 * base + bit) % 2 ^ w
picked_two ws base bit w small wide =
    two_masked (get_or ws (base + bit / 64) 0) (get_or ws (base + bit / 64 + 1) 0) (bit % 64) (64 - bit % 64) w (64 - w) (small (base + bit / 64)) (omega (arith, mod_below bit 64 (omega arith))) (omega arith)
    ∙ sym (ap (λ b. number_of 64 ws / 2 ^ b % 2 ^ w) (place base bit) ∙ lane_in_two ws (base + bit / 64) (bit % 64) (64 - bit % 64) w (64 - bit % 64 + 64 - w) small (omega (arith, mod_below bit 64 (omega arith))) (omega arith))

-- a bit of the words
pub bit_of_word : (ws : List ℕ) → ((i : ℕ) → get_or ws i 0 < 2 ^ 64) → (b : ℕ) → number_of 64 ws / 2 ^ b % 2 ≡ get_or ws (b / 64) 0 / 2 ^ (b % 64) % 2
bit_of_word ws small b =
    ap (λ e. number_of 64 ws / 2 ^ e % 2) (let e : b ≡ 64 * (b / 64) + b % 64 = omega arith in e)
    ∙ lane_in_one ws (b / 64) (b % 64) 1 (63 - b % 64) small (omega (arith, mod_below b 64 (omega arith)))
