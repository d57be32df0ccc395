-- Codes put into words, one after another.
use Rattle.std.proofs.Common.{◌≡◌, ℕ, suc, ◌+◌, ◌-◌, ◌*◌, ◌/◌, ◌%◌, ◌^◌, ◌<◌, ◌≤◌, List, [], ◌∷◌, ◌++◌, length, get_or, set, take, refl, sym, ◌∙◌, ap, subst, arith, add_comm, add-one}
use Rattle.std.proofs.Math.Seq.{take-length}
use Rattle.std.specs.Prelude.{bit_or}
use Rattle.std.proofs.lemmas.Grind.{take-set_at}
use Rattle.std.proofs.lemmas.Nat.{pow-add, pow_pos, or_shifted, or_comm, mod-pow-add, shr_high, mod_low, mul-le, shr_below, shr-shr, pow_below, mod_below}
use Rattle.std.proofs.Math.Nat.{add-mul-div_left, mul_assoc, mul_comm, add-mul, one-mul, mul-suc, zero-mul, mod-eq_of_lt}
use Rattle.bit_pack.specs.Codes.{number_of, words_of, packed, IsWritten}
use Rattle.bit_pack.proofs.Picked.{cut}
use Rattle.bit_pack.proofs.Numbers.{number_more, number_lt, all_lt, more_lt, words_more, words_low}

-- what `merged` computes
pub merged_is : (word used c : ℕ) → used < 64 → word < 2 ^ used → bit_or word (c * 2 ^ used % 2 ^ 64) ≡ (word + 2 ^ used * c) % 2 ^ 64
merged_is word used c small low =
    let j : ℕ = 64 - used in
    let whole : j + used ≡ 64 = omega (arith, small) in
    let n : ℕ = word + 2 ^ used * c in
    let n-is : n ≡ c * 2 ^ used + word = add_comm word (2 ^ used * c) ∙ ap (λ m. m + word) (mul_comm (2 ^ used) c) in
    ap (bit_or word) (cut c j used whole)
    ∙ or_comm word (c % 2 ^ j * 2 ^ used)
    ∙ or_shifted (c % 2 ^ j) used word low
    ∙ ap (λ m. m % 2 ^ j * 2 ^ used + word) (sym (ap (λ m. m / 2 ^ used) n-is ∙ shr_high c used word low))
    ∙ ap (λ m. n / 2 ^ used % 2 ^ j * 2 ^ used + m) (sym (ap (λ m. m % 2 ^ used) n-is ∙ mod_low c used word low))
    ∙ sym (mod-pow-add n j used)
    ∙ ap (λ e. n % 2 ^ e) whole

-- of a number of p bits the whole words stand first, and the last bits in a word of their own
abbrev pub Stands : ℕ → ℕ → List ℕ → ℕ → Type 0
Stands p v front last = (front ≡ words_of (p / 64) v) × (last ≡ v / 2 ^ (64 * (p / 64)))

split : (p : ℕ) → 2 ^ p ≡ 2 ^ (64 * (p / 64)) * 2 ^ (p % 64)
split p = ap (λ e. 2 ^ e) (let e : p ≡ 64 * (p / 64) + p % 64 = omega arith in e) ∙ pow-add 2 (64 * (p / 64)) (p % 64)

-- a code more, by the number of words before it
above : (p v c : ℕ) → v + 2 ^ p * c ≡ v + 2 ^ (64 * (p / 64)) * (2 ^ (p % 64) * c)
above p v c = ap (λ q. v + q * c) (split p) ∙ ap (λ n. v + n) (mul_assoc (2 ^ (64 * (p / 64))) (2 ^ (p % 64)) c)

open_word : (p v c : ℕ) → (v + 2 ^ p * c) / 2 ^ (64 * (p / 64)) ≡ v / 2 ^ (64 * (p / 64)) + 2 ^ (p % 64) * c
open_word p v c = ap (λ n. n / 2 ^ (64 * (p / 64))) (above p v c) ∙ add-mul-div_left v (2 ^ (p % 64) * c) (pow_pos (64 * (p / 64)))

word_lt : (p v : ℕ) → v < 2 ^ p → v / 2 ^ (64 * (p / 64)) < 2 ^ (p % 64)
word_lt p v low =
    let P : ℕ → Type 0 = λ e. v < 2 ^ e in
    shr_below v (p % 64) (64 * (p / 64)) (subst P (let e : p ≡ p % 64 + 64 * (p / 64) = omega arith in e) low)

low_word : (p v : ℕ) (front : List ℕ) (word : ℕ) → v < 2 ^ p → Stands p v front word → word < 2 ^ (p % 64)
low_word p v front word low is =
    let R : ℕ → Type 0 = λ n. n < 2 ^ (p % 64) in
    subst R (sym is.1) (word_lt p v low)

-- a code that leaves its word last
stays : (p v w c : ℕ) (front : List ℕ) (word : ℕ) → v < 2 ^ p → c < 2 ^ w → Stands p v front word → p % 64 + w < 64 → Stands (p + w) (v + 2 ^ p * c) front ((word + 2 ^ (p % 64) * c) % 2 ^ 64)
stays p v w c front word low small is short =
    let here : (p + w) / 64 ≡ p / 64 = omega (arith, short) in
    let k : ℕ = 64 * (p / 64) in
    let used : ℕ = p % 64 in
    let P : ℕ → Type 0 = λ e. v + 2 ^ p * c < 2 ^ e in
    let wide : v + 2 ^ p * c < 2 ^ (used + w + k) = subst P (let e : p + w ≡ p % 64 + w + 64 * (p / 64) = omega arith in e) (more_lt p v w c low small) in
    let within : (v + 2 ^ p * c) / 2 ^ k < 2 ^ (used + w) = shr_below (v + 2 ^ p * c) (used + w) k wide in
    let least : 2 ^ (used + w) < 2 ^ 64 = pow_below (used + w) 64 short in
    let word-is : word + 2 ^ used * c ≡ (v + 2 ^ p * c) / 2 ^ k = ap (λ n. n + 2 ^ used * c) is.1 ∙ sym (open_word p v c) in (
      is.0 ∙ sym (ap (λ n. words_of n (v + 2 ^ p * c)) here ∙ ap (words_of (p / 64)) (above p v c) ∙ words_low (p / 64) v (2 ^ used * c)),
      ap (λ n. n % 2 ^ 64) word-is ∙ mod-eq_of_lt (omega (arith, within, least)) ∙ ap (λ n. (v + 2 ^ p * c) / 2 ^ (64 * n)) (sym here),
    )

-- a code that fills its word
fills : (p v w c : ℕ) (front : List ℕ) (word : ℕ) → v < 2 ^ p → w ≤ 64 → Stands p v front word → 64 ≤ p % 64 + w → Stands (p + w) (v + 2 ^ p * c) (front ++ (word + 2 ^ (p % 64) * c) % 2 ^ 64 ∷ []) (c / 2 ^ (64 - p % 64))
fills p v w c front word low most is long =
    let k : ℕ = p / 64 in
    let used : ℕ = p % 64 in
    let here : (p + w) / 64 ≡ suc (p / 64) = omega (arith, long, most) in
    let word-is : word + 2 ^ used * c ≡ (v + 2 ^ p * c) / 2 ^ (64 * k) = ap (λ n. n + 2 ^ used * c) is.1 ∙ sym (open_word p v c) in
    let word-low : word < 2 ^ used = low_word p v front word low is in
    let high : (word + 2 ^ used * c) / 2 ^ used ≡ c = ap (λ n. n / 2 ^ used) (add_comm word (2 ^ used * c) ∙ ap (λ m. m + word) (mul_comm (2 ^ used) c)) ∙ shr_high c used word word-low in (
      ap (λ l. l ++ (word + 2 ^ used * c) % 2 ^ 64 ∷ []) (is.0 ∙ sym (ap (words_of k) (above p v c) ∙ words_low k v (2 ^ used * c)))
          ∙ ap (λ n. words_of k (v + 2 ^ p * c) ++ n % 2 ^ 64 ∷ []) word-is
          ∙ sym (words_more k (v + 2 ^ p * c))
          ∙ ap (λ n. words_of n (v + 2 ^ p * c)) (sym here),
      ap (λ n. n / 2 ^ (64 - used)) (sym high)
          ∙ shr-shr (word + 2 ^ used * c) used (64 - used)
          ∙ ap (λ e. (word + 2 ^ used * c) / 2 ^ e) (let e : p % 64 + (64 - p % 64) ≡ 64 = omega (arith, mod_below p 64 (omega arith)) in e)
          ∙ ap (λ n. n / 2 ^ 64) word-is
          ∙ shr-shr (v + 2 ^ p * c) (64 * k) 64
          ∙ ap (λ e. (v + 2 ^ p * c) / 2 ^ e) (sym (ap (λ n. 64 * n) here ∙ mul-suc 64 k)),
    )

next_bits : (i w : ℕ) → i * w + w ≡ (i + 1) * w
next_bits i w = sym (add-mul i 1 w ∙ ap (λ n. i * w + n) (one-mul w))

next_number : (w : ℕ) (cs : List ℕ) (i : ℕ) → number_of w (take i cs) + 2 ^ (i * w) * get_or cs i 0 ≡ number_of w (take (i + 1) cs)
next_number w cs i = sym (ap (λ n. number_of w (take n cs)) (add-one i) ∙ number_more w cs i)

-- what stands of i codes and one more, as what stands of i + 1 codes
next : (w : ℕ) (cs : List ℕ) (i : ℕ) (front : List ℕ) (last : ℕ) → Stands (i * w + w) (number_of w (take i cs) + 2 ^ (i * w) * get_or cs i 0) front last → Stands ((i + 1) * w) (number_of w (take (i + 1) cs)) front last
next w cs i front last is =
    let P : ℕ → Type 0 = λ p. Stands p (number_of w (take (i + 1) cs)) front last in
    let Q : ℕ → Type 0 = λ v. Stands (i * w + w) v front last in
    subst P (next_bits i w) (subst Q (next_number w cs i) is)

pub low : (w : ℕ) (cs : List ℕ) (i : ℕ) (words : List ℕ) (last : ℕ) → ((k : ℕ) → get_or cs k 0 < 2 ^ w) → IsWritten w cs i words last → last < 2 ^ (i * w % 64)
low w cs i words last small is = low_word (i * w) (number_of w (take i cs)) (take (i * w / 64) words) last (number_lt w cs small i) is

pub nothing : (w : ℕ) (cs words : List ℕ) → IsWritten w cs 0 words 0
nothing w cs words =
    let P : ℕ → Type 0 = λ p. Stands p 0 (take (p / 64) words) 0 in
    subst P (sym (zero-mul w)) (refl, refl)

-- one code more
pub stays_more : (w : ℕ) (cs : List ℕ) (i : ℕ) (words : List ℕ) (last : ℕ) → ((k : ℕ) → get_or cs k 0 < 2 ^ w) → IsWritten w cs i words last → i * w % 64 + w < 64 → IsWritten w cs (i + 1) words ((last + 2 ^ (i * w % 64) * get_or cs i 0) % 2 ^ 64)
stays_more w cs i words last small is short =
    let next-last : ℕ = (last + 2 ^ (i * w % 64) * get_or cs i 0) % 2 ^ 64 in
    let same : i * w / 64 ≡ (i + 1) * w / 64 = omega (arith, next_bits i w, short) in
    let P : ℕ → Type 0 = λ n. Stands ((i + 1) * w) (number_of w (take (i + 1) cs)) (take n words) next-last in
    subst P same (next w cs i (take (i * w / 64) words) next-last
    (stays (i * w) (number_of w (take i cs)) w (get_or cs i 0) (take (i * w / 64) words) last (number_lt w cs small i) (small i) is short))

pub fills_more : (w : ℕ) (cs : List ℕ) (i : ℕ) (words : List ℕ) (last : ℕ) → w ≤ 64 → ((k : ℕ) → get_or cs k 0 < 2 ^ w) → IsWritten w cs i words last → 64 ≤ i * w % 64 + w → i * w / 64 < length words → IsWritten w cs (i + 1) (set words (i * w / 64) ((last + 2 ^ (i * w % 64) * get_or cs i 0) % 2 ^ 64)) (get_or cs i 0 / 2 ^ (64 - i * w % 64))
fills_more w cs i words last most small is long room =
    let full : ℕ = (last + 2 ^ (i * w % 64) * get_or cs i 0) % 2 ^ 64 in
    let rest : ℕ = get_or cs i 0 / 2 ^ (64 - i * w % 64) in
    let more : (i + 1) * w / 64 ≡ i * w / 64 + 1 = omega (arith, next_bits i w, long, most) in
    let P : List ℕ → Type 0 = λ l. Stands ((i + 1) * w) (number_of w (take (i + 1) cs)) l rest in
    subst P (sym (take-set_at words (i * w / 64) ((i + 1) * w / 64) full more room)) (next w cs i (take (i * w / 64) words ++ full ∷ []) rest
    (fills (i * w) (number_of w (take i cs)) w (get_or cs i 0) (take (i * w / 64) words) last (number_lt w cs small i) most is long))

-- fewer than sixty-four codes leave a word
pub rest_lt : (n w : ℕ) → n < 64 → w ≤ 64 → n * w / 64 < 64
rest_lt n w few most =
    let below : n * w ≤ 63 * 64 = mul-le n w 63 64 (omega (arith, few)) most in
    omega (arith, below)

whole_list : (w : ℕ) (cs words : List ℕ) (last n : ℕ) → n ≡ length cs → IsWritten w cs n words last → Stands (length cs * w) (number_of w cs) (take (length cs * w / 64) words) last
whole_list w cs words last n e is =
    let P : ℕ → Type 0 = λ m. IsWritten w cs m words last in
    let Q : List ℕ → Type 0 = λ l. Stands (length cs * w) (number_of w l) (take (length cs * w / 64) words) last in
    subst Q (take-length cs) (subst P e is)

-- the words are whole where no bit is left over
pub ends_whole : (w : ℕ) (cs words : List ℕ) (last n : ℕ) → n ≡ length cs → IsWritten w cs n words last → length cs * w % 64 ≡ 0 → take (length cs * w / 64) words ≡ packed w cs
ends_whole w cs words last n e is none =
    (whole_list w cs words last n e is).0
    ∙ ap (λ m. words_of m (number_of w cs)) (let e : length cs * w / 64 ≡ (length cs * w + 63) / 64 = omega (arith, none) in e)

pub ends_open : (w : ℕ) (cs words : List ℕ) (last n : ℕ) → n ≡ length cs → ((k : ℕ) → get_or cs k 0 < 2 ^ w) → IsWritten w cs n words last → 0 < length cs * w % 64 → length cs * w / 64 < length words → take (length cs * w / 64 + 1) (set words (length cs * w / 64) last) ≡ packed w cs
ends_open w cs words last n e small is some room =
    let p : ℕ = length cs * w in
    let v : ℕ = number_of w cs in
    let stands : Stands p v (take (p / 64) words) last = whole_list w cs words last n e is in
    let least : 2 ^ (p % 64) < 2 ^ 64 = pow_below (p % 64) 64 (mod_below p 64 (omega arith)) in
    let within : v / 2 ^ (64 * (p / 64)) < 2 ^ (p % 64) = word_lt p v (all_lt w cs small) in
    take-set_at words (p / 64) (p / 64 + 1) last refl room
    ∙ ap (λ l. l ++ last ∷ []) stands.0
    ∙ ap (λ m. words_of (p / 64) v ++ m ∷ []) (stands.1 ∙ sym (mod-eq_of_lt (omega (arith, within, least))))
    ∙ sym (words_more (p / 64) v)
    ∙ ap (λ m. words_of m v) (let e : suc (length cs * w / 64) ≡ (length cs * w + 63) / 64 = omega (arith, some) in e)

pub block_ends : (w : ℕ) (cs words : List ℕ) (last : ℕ) → length cs ≡ 64 → IsWritten w cs 64 words last → take w words ≡ packed w cs
block_ends w cs words last e is =
    let bits : length cs * w ≡ 64 * w = ap (λ n. n * w) e in
    ap (λ n. take n words) (let k : w ≡ length cs * w / 64 = omega (arith, bits) in k)
    ∙ ends_whole w cs words last 64 (sym e) is (omega (arith, bits))
