-- Long numbers, their words and their codes.
use Rattle.std.proofs.Common.{◌≡◌, ℕ, zero, suc, ◌+◌, ◌*◌, ◌/◌, ◌%◌, ◌^◌, ◌<◌, ◌≤◌, List, [], ◌∷◌, ◌++◌, length, get_or, take, refl, sym, ◌∙◌, ap, subst, arith, add_assoc, add-zero, zero-add, length-append}
use Rattle.std.specs.Prelude.{All}
use Rattle.std.proofs.Math.Seq.{take-length}
use Rattle.std.proofs.lemmas.Nat.{pow-add, pow_pos, mul-le, shr_below}
use Rattle.std.proofs.Math.Nat.{add-mul-div_left, add-mul-mod_self_left, mul_assoc, mul_comm, mul-add, add-mul, one-mul, mul-one, mul-zero, div-div-eq-div-mul, div-one, mul-suc, zero-mul, suc-mul, le_refl, mod-eq_of_lt, div-eq_of_lt, mod-add-div, zero-div}
use Rattle.std.proofs.Math.Pow.{pow_mono}
use Rattle.bit_pack.specs.Codes.{number_of, code_at, words_of, packed}

-- a list of codes has a code of their width at each place, 0 past its end
pub small : (w : ℕ) (cs : List ℕ) → All (λ c. c < 2 ^ w) cs → (k : ℕ) → get_or cs k 0 < 2 ^ w
small w [] all k = pow_pos w
small w (c ∷ cs) all zero = all 0 0 (omega arith)
small w (c ∷ cs) all (suc k) = small w cs (λ i d h. all (suc i) d (omega (arith, h))) k

-- a code below, and what stands above it
power_shift : (w e : ℕ) → 2 ^ (suc e * w) ≡ 2 ^ w * 2 ^ (e * w)
power_shift w e = ap (λ n. 2 ^ n) (suc-mul e w) ∙ pow-add 2 (e * w) w ∙ mul_comm (2 ^ (e * w)) (2 ^ w)

above_digit : (x w a b e : ℕ) → x + 2 ^ w * (a + 2 ^ (e * w) * b) ≡ x + 2 ^ w * a + 2 ^ (suc e * w) * b
above_digit x w a b e =
    ap (λ n. x + n) (mul-add (2 ^ w) a (2 ^ (e * w) * b))
    ∙ sym (add_assoc x (2 ^ w * a) (2 ^ w * (2 ^ (e * w) * b)))
    ∙ ap (λ n. x + 2 ^ w * a + n) (sym (mul_assoc (2 ^ w) (2 ^ (e * w)) b) ∙ ap (λ p. p * b) (sym (power_shift w e)))

-- the number of two lists
pub number_of-append : (w : ℕ) (xs ys : List ℕ) → number_of w (xs ++ ys) ≡ number_of w xs + 2 ^ (length xs * w) * number_of w ys
number_of-append w [] ys = sym (zero-add (2 ^ (0 * w) * number_of w ys) ∙ ap (λ e. 2 ^ e * number_of w ys) (zero-mul w) ∙ one-mul (number_of w ys))
number_of-append w (x ∷ xs) ys =
    ap (λ n. x + 2 ^ w * n) (number_of-append w xs ys)
    ∙ above_digit x w (number_of w xs) (number_of w ys) (length xs)

-- the number of one code more
pub number_more : (w : ℕ) (cs : List ℕ) (i : ℕ) → number_of w (take (suc i) cs) ≡ number_of w (take i cs) + 2 ^ (i * w) * get_or cs i 0
number_more w [] zero = sym (zero-add (2 ^ (0 * w) * 0) ∙ mul-zero (2 ^ (0 * w)))
number_more w [] (suc i) = sym (zero-add (2 ^ (suc i * w) * 0) ∙ mul-zero (2 ^ (suc i * w)))
number_more w (x ∷ xs) zero =
    ap (λ n. x + n) (mul-zero (2 ^ w)) ∙ add-zero x ∙ sym (zero-add (2 ^ (0 * w) * x) ∙ ap (λ e. 2 ^ e * x) (zero-mul w) ∙ one-mul x)
number_more w (x ∷ xs) (suc i) =
    ap (λ n. x + 2 ^ w * n) (number_more w xs i)
    ∙ above_digit x w (number_of w (take i xs)) (get_or xs i 0) i

power_words : (k : ℕ) → 2 ^ (64 * suc k) ≡ 2 ^ 64 * 2 ^ (64 * k)
power_words k = ap (λ e. 2 ^ e) (mul-suc 64 k) ∙ pow-add 2 (64 * k) 64 ∙ mul_comm (2 ^ (64 * k)) (2 ^ 64)

pub length-words_of : (k v : ℕ) → length (words_of k v) ≡ k
length-words_of zero v = refl
length-words_of (suc k) v = ap suc (length-words_of k (v / 2 ^ 64))

pub length-packed : (w : ℕ) (cs : List ℕ) → length (packed w cs) ≡ (length cs * w + 63) / 64
length-packed w cs = length-words_of ((length cs * w + 63) / 64) (number_of w cs)

-- the first words, and those above them
pub words_of-add : (k m v : ℕ) → words_of (k + m) v ≡ words_of k v ++ words_of m (v / 2 ^ (64 * k))
words_of-add zero m v = ap (λ n. words_of n v) (zero-add m) ∙ ap (words_of m) (sym (div-one v))
words_of-add (suc k) m v =
    let e : suc k + m ≡ suc (k + m) = omega arith in
    ap (λ n. words_of n v) e
    ∙ ap (λ l. v % 2 ^ 64 ∷ l)
    (words_of-add k m (v / 2 ^ 64)
    ∙ ap (λ n. words_of k (v / 2 ^ 64) ++ words_of m n) (div-div-eq-div-mul v (2 ^ 64) (2 ^ (64 * k)) ∙ ap (λ p. v / p) (sym (power_words k))))

-- the next word
pub words_more : (k v : ℕ) → words_of (suc k) v ≡ words_of k v ++ (v / 2 ^ (64 * k) % 2 ^ 64) ∷ []
words_more k v = ap (λ n. words_of n v) (let e : suc k ≡ k + 1 = omega arith in e) ∙ words_of-add k 1 v

-- what stands above the words changes none of them
pub words_low : (k v x : ℕ) → words_of k (v + 2 ^ (64 * k) * x) ≡ words_of k v
words_low zero v x = refl
words_low (suc k) v x =
    let q : ℕ = 2 ^ (64 * k) * x in
    let e : v + 2 ^ (64 * suc k) * x ≡ v + 2 ^ 64 * q = ap (λ p. v + p * x) (power_words k) ∙ ap (λ n. v + n) (mul_assoc (2 ^ 64) (2 ^ (64 * k)) x) in
    ap (words_of (suc k)) e
    ∙ ap (λ n. n ∷ words_of k ((v + 2 ^ 64 * q) / 2 ^ 64)) (add-mul-mod_self_left v (2 ^ 64) q)
    ∙ ap (λ n. v % 2 ^ 64 ∷ words_of k n) (add-mul-div_left v q (pow_pos 64))
    ∙ ap (λ l. v % 2 ^ 64 ∷ l) (words_low k (v / 2 ^ 64) x)

-- a number of p bits, and a code above it
pub more_lt : (p v w c : ℕ) → v < 2 ^ p → c < 2 ^ w → v + 2 ^ p * c < 2 ^ (p + w)
more_lt p v w c low small =
    let most : 2 ^ p * (c + 1) ≤ 2 ^ p * 2 ^ w = mul-le (2 ^ p) (c + 1) (2 ^ p) (2 ^ w) (le_refl (2 ^ p)) (omega (arith, small)) in
    let step : 2 ^ p * (c + 1) ≡ 2 ^ p * c + 2 ^ p = mul-add (2 ^ p) c 1 ∙ ap (λ n. 2 ^ p * c + n) (mul-one (2 ^ p)) in
    let power : 2 ^ (p + w) ≡ 2 ^ p * 2 ^ w = pow-add 2 p w in
    omega (arith, most, step, power, low)

pub number_lt : (w : ℕ) (cs : List ℕ) → ((i : ℕ) → get_or cs i 0 < 2 ^ w) → (i : ℕ) → number_of w (take i cs) < 2 ^ (i * w)
number_lt w cs small zero = pow_pos (0 * w)
number_lt w cs small (suc i) =
    let P : ℕ → Type 0 = λ n. n < 2 ^ (suc i * w) in
    let Q : ℕ → Type 0 = λ e. number_of w (take i cs) + 2 ^ (i * w) * get_or cs i 0 < 2 ^ e in
    subst P (sym (number_more w cs i)) (subst Q (sym (suc-mul i w)) (more_lt (i * w) (number_of w (take i cs)) w (get_or cs i 0) (number_lt w cs small i) (small i)))

pub all_lt : (w : ℕ) (cs : List ℕ) → ((i : ℕ) → get_or cs i 0 < 2 ^ w) → number_of w cs < 2 ^ (length cs * w)
all_lt w cs small =
    let Q : List ℕ → Type 0 = λ l. number_of w l < 2 ^ (length cs * w) in
    subst Q (take-length cs) (number_lt w cs small (length cs))

-- the number of the words of a number
pub number_of-words_of : (n v : ℕ) → v < 2 ^ (64 * n) → number_of 64 (words_of n v) ≡ v
number_of-words_of zero v low = omega (arith, low)
number_of-words_of (suc n) v low =
    let P : ℕ → Type 0 = λ e. v < 2 ^ e in
    ap (λ m. v % 2 ^ 64 + 2 ^ 64 * m) (number_of-words_of n (v / 2 ^ 64) (shr_below v (64 * n) 64 (subst P (mul-suc 64 n) low)))
    ∙ mod-add-div v (2 ^ 64)

pub number_of-packed : (w : ℕ) (cs : List ℕ) → ((i : ℕ) → get_or cs i 0 < 2 ^ w) → number_of 64 (packed w cs) ≡ number_of w cs
number_of-packed w cs small =
    let n : ℕ = (length cs * w + 63) / 64 in
    let room : length cs * w ≤ 64 * n = omega arith in
    let most : 2 ^ (length cs * w) ≤ 2 ^ (64 * n) = pow_mono room in
    number_of-words_of n (number_of w cs) (omega (arith, all_lt w cs small, most))

digit_at : (w : ℕ) (cs : List ℕ) → ((i : ℕ) → get_or cs i 0 < 2 ^ w) → (i : ℕ) → number_of w cs / 2 ^ (i * w) % 2 ^ w ≡ get_or cs i 0
digit_at w [] small i = ap (λ n. n % 2 ^ w) (zero-div (2 ^ (i * w))) ∙ mod-eq_of_lt (pow_pos w)
digit_at w (c ∷ cs) small zero =
    ap (λ e. (c + 2 ^ w * number_of w cs) / 2 ^ e % 2 ^ w) (zero-mul w)
    ∙ ap (λ n. n % 2 ^ w) (div-one (c + 2 ^ w * number_of w cs))
    ∙ add-mul-mod_self_left c (2 ^ w) (number_of w cs)
    ∙ mod-eq_of_lt (small 0)
digit_at w (c ∷ cs) small (suc i) =
    ap (λ p. (c + 2 ^ w * number_of w cs) / p % 2 ^ w) (power_shift w i)
    ∙ ap (λ n. n % 2 ^ w) (sym (div-div-eq-div-mul (c + 2 ^ w * number_of w cs) (2 ^ w) (2 ^ (i * w))) ∙ ap (λ n. n / 2 ^ (i * w)) (add-mul-div_left c (number_of w cs) (pow_pos w) ∙ ap (λ n. n + number_of w cs) (div-eq_of_lt (small 0)) ∙ zero-add (number_of w cs)))
    ∙ digit_at w cs (λ j. small (suc j)) i

-- code i of what was packed is code i
pub code_at-packed : (w : ℕ) (cs : List ℕ) → ((i : ℕ) → get_or cs i 0 < 2 ^ w) → (i : ℕ) → code_at w (packed w cs) i ≡ get_or cs i 0
code_at-packed w cs small i =
    ap (λ v. v / 2 ^ (i * w) % 2 ^ w) (number_of-packed w cs small)
    ∙ digit_at w cs small i

-- codes that fill whole words, and more codes
pub packed-append : (w k : ℕ) (xs ys : List ℕ) → ((i : ℕ) → get_or xs i 0 < 2 ^ w) → length xs * w ≡ 64 * k → packed w (xs ++ ys) ≡ packed w xs ++ packed w ys
packed-append w k xs ys small whole =
    let a : ℕ = number_of w xs in
    let b : ℕ = number_of w ys in
    let m : ℕ = (length ys * w + 63) / 64 in
    let joined : number_of w (xs ++ ys) ≡ a + 2 ^ (64 * k) * b = number_of-append w xs ys ∙ ap (λ e. a + 2 ^ e * b) whole in
    let bits : length (xs ++ ys) * w ≡ 64 * k + length ys * w = ap (λ n. n * w) (length-append xs ys) ∙ add-mul (length xs) (length ys) w ∙ ap (λ n. n + length ys * w) whole in
    let count : (length (xs ++ ys) * w + 63) / 64 ≡ k + m = omega (arith, bits) in
    let first : (length xs * w + 63) / 64 ≡ k = omega (arith, whole) in
    let P : ℕ → Type 0 = λ e. a < 2 ^ e in
    let low : a < 2 ^ (64 * k) = subst P whole (all_lt w xs small) in
    ap (λ n. words_of n (number_of w (xs ++ ys))) count
    ∙ ap (words_of (k + m)) joined
    ∙ words_of-add k m (a + 2 ^ (64 * k) * b)
    ∙ ap (λ l. l ++ words_of m ((a + 2 ^ (64 * k) * b) / 2 ^ (64 * k))) (words_low k a b ∙ ap (λ n. words_of n a) (sym first))
    ∙ ap (λ n. packed w xs ++ words_of m n) (add-mul-div_left a b (pow_pos (64 * k)) ∙ ap (λ n. n + b) (div-eq_of_lt low) ∙ zero-add b)
