-- Codes packed block by block.
use Rattle.std.proofs.Common.{◌≡◌, ℕ, zero, suc, ◌+◌, ◌-◌, ◌*◌, ◌/◌, ◌%◌, ◌^◌, ◌<◌, ◌≤◌, List, [], ◌∷◌, ◌++◌, length, get_or, take, drop, refl, sym, ◌∙◌, ap, arith, append_assoc, zero-add, length-take, length-drop, lit<}
use Rattle.std.proofs.Math.Seq.{take-length}
use Rattle.std.proofs.lemmas.Nat.{pow_pos, mod_below}
use Rattle.std.proofs.lemmas.List.{take-append-drop}
use Rattle.std.proofs.Math.Nat.{mul_assoc}
use Rattle.std.specs.Int.{bit_at}
use Rattle.bit_pack.specs.Codes.{number_of, words_of, packed}
use Rattle.bit_pack.proofs.Picked.{bit_of_word}
use Rattle.bit_pack.proofs.Numbers.{packed-append, number_of-packed}

-- a part of a list of small numbers
take_small : (m n : ℕ) (xs : List ℕ) → 0 < n → ((i : ℕ) → get_or xs i 0 < n) → (k : ℕ) → get_or (take m xs) k 0 < n
take_small zero n xs some small k = some
take_small (suc m) n [] some small k = some
take_small (suc m) n (x ∷ xs) some small zero = small 0
take_small (suc m) n (x ∷ xs) some small (suc k) = take_small m n xs some (λ i. small (suc i)) k

take_none : (k : ℕ) → take {A = ℕ} k [] ≡ []
take_none zero = refl
take_none (suc k) = refl

take-add : (n m : ℕ) (xs : List ℕ) → take (n + m) xs ≡ take n xs ++ take m (drop n xs)
take-add zero m xs = ap (λ k. take k xs) (zero-add m)
take-add (suc n) m [] = ap (λ k. take {A = ℕ} k []) (let e : suc n + m ≡ suc (n + m) = omega arith in e) ∙ sym (take_none m)
take-add (suc n) m (x ∷ xs) = ap (λ k. take k (x ∷ xs)) (let e : suc n + m ≡ suc (n + m) = omega arith in e) ∙ ap (λ l. x ∷ l) (take-add n m xs)

-- the codes of whole blocks take whole words
whole_blocks : (w b : ℕ) (cs : List ℕ) → 64 * b ≤ length cs → length (take (64 * b) cs) * w ≡ 64 * (b * w)
whole_blocks w b cs there =
    let all : length (take (64 * b) cs) ≡ 64 * b = omega (arith, length-take (64 * b) cs, there) in
    ap (λ n. n * w) all ∙ mul_assoc 64 b w

-- one block more
pub block_next : (w b : ℕ) (cs old out new words : List ℕ) → ((i : ℕ) → get_or cs i 0 < 2 ^ w) → 64 * (b + 1) ≤ length cs → new ≡ out ++ words → out ≡ old ++ packed w (take (64 * b) cs) → words ≡ packed w (take (64 * b + 64 - 64 * b) (drop (64 * b) cs)) → new ≡ old ++ packed w (take (64 * (b + 1)) cs)
block_next w b cs old out new words small there more before block =
    let a : List ℕ = take (64 * b) cs in
    let width : 64 * b + 64 - 64 * b ≡ 64 = omega arith in
    let next : 64 * b + 64 ≡ 64 * (b + 1) = omega arith in
    let bits = whole_blocks w b cs (omega (arith, there)) in
    more
    ∙ ap (λ l. l ++ words) before
    ∙ append_assoc old (packed w a) words
    ∙ ap (λ l. old ++ (packed w a ++ l)) (block ∙ ap (λ n. packed w (take n (drop (64 * b) cs))) width)
    ∙ ap (λ l. old ++ l)
    (sym (packed-append w (b * w) a (take 64 (drop (64 * b) cs)) (take_small (64 * b) (2 ^ w) cs (pow_pos w) small) bits)
    ∙ ap (packed w) (sym (take-add (64 * b) 64 cs) ∙ ap (λ n. take n cs) next))

whole_rest : (a : ℕ) (cs : List ℕ) → take (length cs - a) (drop a cs) ≡ drop a cs
whole_rest a cs = ap (λ n. take n (drop a cs)) (sym (length-drop a cs)) ∙ take-length (drop a cs)

-- the codes after the blocks
pub blocks_end : (w b : ℕ) (cs old out new words : List ℕ) → ((i : ℕ) → get_or cs i 0 < 2 ^ w) → 64 * b ≤ length cs → new ≡ out ++ words → out ≡ old ++ packed w (take (64 * b) cs) → words ≡ packed w (take (length cs - 64 * b) (drop (64 * b) cs)) → new ≡ old ++ packed w cs
blocks_end w b cs old out new words small there more before rest =
    let a : List ℕ = take (64 * b) cs in
    more
    ∙ ap (λ l. l ++ words) before
    ∙ append_assoc old (packed w a) words
    ∙ ap (λ l. old ++ (packed w a ++ l)) (rest ∙ ap (packed w) (whole_rest (64 * b) cs))
    ∙ ap (λ l. old ++ l)
    (sym (packed-append w (b * w) a (drop (64 * b) cs) (take_small (64 * b) (2 ^ w) cs (pow_pos w) small) (whole_blocks w b cs there))
    ∙ ap (packed w) (take-append-drop (64 * b) cs))

words_small : (n v i : ℕ) → get_or (words_of n v) i 0 < 2 ^ 64
words_small zero v i = lit< tt
words_small (suc n) v zero = mod_below v (2 ^ 64) (lit< tt)
words_small (suc n) v (suc i) = words_small n (v / 2 ^ 64) i

-- bit b of the long number of the codes
pub bits-packed : (w : ℕ) (cs : List ℕ) → ((i : ℕ) → get_or cs i 0 < 2 ^ w) → (b : ℕ) → bit_at (get_or (packed w cs) (b / 64) 0) (b % 64) ≡ bit_at (number_of w cs) b
bits-packed w cs small b =
    sym (bit_of_word (packed w cs) (words_small ((length cs * w + 63) / 64) (number_of w cs)) b)
    ∙ ap (λ n. n / 2 ^ b % 2) (number_of-packed w cs small)
