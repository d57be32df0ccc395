-- Codes in their places, some after others.
use Rattle.std.proofs.Common.{◌≡◌, ℕ, ◌+◌, ◌-◌, ◌*◌, ◌/◌, ◌%◌, ◌^◌, ◌<◌, ◌≤◌, ◌⊎◌, inl, inr, min, List, length, refl, sym, ◌∙◌, ap, subst, arith, zero-add, add-zero}
use Rattle.std.specs.Prelude.{slice_index, slice_set}
use Rattle.std.proofs.lemmas.Grind.{get_or-set_at}
use Rattle.std.proofs.lemmas.List.{get_or-set_other}
use Rattle.std.proofs.lemmas.Bool.{cases_lt}
use Rattle.std.proofs.lemmas.Nat.{mul-le}
use Rattle.std.proofs.Math.Nat.{add-mul, one-mul, mul_assoc, div-add-mod, le_refl}
use Rattle.bit_pack.specs.Codes.{number_of, code_at, HasCodes}

pub none : (w : ℕ) (ws : List ℕ) (f a : ℕ) (old : List ℕ) → HasCodes w ws f a 0 old old
none w ws f a old = ((λ i h. absurd (omega arith)), (λ i h. refl))

pub append : (w : ℕ) (ws : List ℕ) (f a m n : ℕ) (old mid new : List ℕ) → HasCodes w ws f a m old mid → HasCodes w ws (f + m) (a + m) n mid new → HasCodes w ws f a (m + n) old new
append w ws f a m n old mid new one two = (
  (λ i h. elim (cases_lt i m) [
    | inl low ↦ two.1 (a + i) (inl (omega arith)) ∙ one.0 i low
    | inr high ↦
        ap (λ k. slice_index new k) (let e : a + i ≡ a + m + (i - m) = omega arith in e)
        ∙ two.0 (i - m) (omega arith)
        ∙ ap (λ k. code_at w ws k) (let e : f + m + (i - m) ≡ f + i = omega arith in e)
  ]),
  (λ i h. elim h [
    | inl low ↦ two.1 i (inl (omega arith)) ∙ one.1 i (inl low)
    | inr high ↦ two.1 i (inr (omega arith)) ∙ one.1 i (inr (omega arith))
  ]),
)

pub one : (w : ℕ) (ws : List ℕ) (f a : ℕ) (old : List ℕ) (v : ℕ) → a < length old → v ≡ code_at w ws f → HasCodes w ws f a 1 old (slice_set old a v)
one w ws f a old v within is = (
  (λ i h. let z : i ≡ 0 = omega arith in
      get_or-set_at old a (a + i) v 0 (omega arith) within ∙ is
      ∙ ap (λ k. code_at w ws k) (let e : f ≡ f + i = omega arith in e)),
  (λ i h. get_or-set_other old a i v 0 (elim h [ inl low ↦ (λ e. absurd (omega arith)) | inr high ↦ (λ e. absurd (omega arith)) ])),
)

-- the bit of a code, by its block
pub block_bit : (q r w : ℕ) → 64 * (q * w) + r * w ≡ (64 * q + r) * w
block_bit q r w = sym (add-mul (64 * q) r w ∙ ap (λ n. n + r * w) (mul_assoc 64 q w))

pub lane_bit : (i w : ℕ) → 64 * (i / 64 * w) + i % 64 * w ≡ i * w
lane_bit i w = block_bit (i / 64) (i % 64) w ∙ ap (λ n. n * w) (div-add-mod i 64)

-- a code of a block lies in the block's words
pub block_there : (b r w len : ℕ) → r + 1 ≤ 64 → (b + 1) * w ≤ len → 64 * (b * w) + r * w + w ≤ 64 * len
block_there b r w len small there =
    let above : (b + 1) * w ≡ b * w + w = add-mul b 1 w ∙ ap (λ n. b * w + n) (one-mul w) in
    let inside : (r + 1) * w ≡ r * w + w = add-mul r 1 w ∙ ap (λ n. r * w + n) (one-mul w) in
    let most : (r + 1) * w ≤ 64 * w = mul-le (r + 1) w 64 w small (le_refl w) in
    omega (arith, above, inside, most, there)

pub lane_there : (i w len : ℕ) → (i + 1) * w ≤ 64 * len → 64 * (i / 64 * w) + i % 64 * w + w ≤ 64 * len
lane_there i w len there =
    let above : (i + 1) * w ≡ i * w + w = add-mul i 1 w ∙ ap (λ n. i * w + n) (one-mul w) in
    let bit : 64 * (i / 64 * w) + i % 64 * w ≡ i * w = lane_bit i w in
    omega (arith, above, bit, there)

-- the code that `picked` gives in a block
pub block_lane : (ws : List ℕ) (q r w : ℕ) → number_of 64 ws / 2 ^ (64 * (q * w) + r * w) % 2 ^ w ≡ code_at w ws (64 * q + r)
block_lane ws q r w = ap (λ b. number_of 64 ws / 2 ^ b % 2 ^ w) (block_bit q r w)

pub lane_is : (ws : List ℕ) (i w : ℕ) → number_of 64 ws / 2 ^ (64 * (i / 64 * w) + i % 64 * w) % 2 ^ w ≡ code_at w ws i
lane_is ws i w = ap (λ b. number_of 64 ws / 2 ^ b % 2 ^ w) (lane_bit i w)

pub start : (w : ℕ) (ws : List ℕ) (f a n : ℕ) (old new : List ℕ) → HasCodes w ws (f + 0) (a + 0) n old new → HasCodes w ws f a n old new
start w ws f a n old new h =
    let P : ℕ → Type 0 = λ g. HasCodes w ws g (a + 0) n old new in
    let Q : ℕ → Type 0 = λ b. HasCodes w ws f b n old new in
    subst Q (add-zero a) (subst P (add-zero f) h)

-- eight times eight codes
pub eights : (w : ℕ) (ws : List ℕ) (f a : ℕ) (l0 l1 l2 l3 l4 l5 l6 l7 l8 : List ℕ) → HasCodes w ws (f + 0) (a + 0) 8 l0 l1 → HasCodes w ws (f + 8) (a + 8) 8 l1 l2 → HasCodes w ws (f + 16) (a + 16) 8 l2 l3 → HasCodes w ws (f + 24) (a + 24) 8 l3 l4 → HasCodes w ws (f + 32) (a + 32) 8 l4 l5 → HasCodes w ws (f + 40) (a + 40) 8 l5 l6 → HasCodes w ws (f + 48) (a + 48) 8 l6 l7 → HasCodes w ws (f + 56) (a + 56) 8 l7 l8 → HasCodes w ws f a 64 l0 l8
eights w ws f a l0 l1 l2 l3 l4 l5 l6 l7 l8 h0 h1 h2 h3 h4 h5 h6 h7 =
    append w ws f a 56 8 l0 l7 l8
    (append w ws f a 48 8 l0 l6 l7
    (append w ws f a 40 8 l0 l5 l6
    (append w ws f a 32 8 l0 l4 l5
    (append w ws f a 24 8 l0 l3 l4
    (append w ws f a 16 8 l0 l2 l3
    (append w ws f a 8 8 l0 l1 l2 (start w ws f a 8 l0 l1 h0) h1)
    h2)
    h3)
    h4)
    h5)
    h6)
    h7

-- a block more
pub block_more : (w : ℕ) (ws : List ℕ) (q a b : ℕ) (old mid new : List ℕ) → HasCodes w ws (64 * q) a (64 * b) old mid → HasCodes w ws (64 * (q + b)) (a + 64 * b) 64 mid new → HasCodes w ws (64 * q) a (64 * (b + 1)) old new
block_more w ws q a b old mid new h k =
    let P : ℕ → Type 0 = λ f. HasCodes w ws f (a + 64 * b) 64 mid new in
    let Q : ℕ → Type 0 = λ n. HasCodes w ws (64 * q) a n old new in
    subst Q (let e : 64 * b + 64 ≡ 64 * (b + 1) = omega arith in e)
    (append w ws (64 * q) a (64 * b) 64 old mid new h (subst P (let e : 64 * (q + b) ≡ 64 * q + 64 * b = omega arith in e) k))

-- the bit of a code that stands some codes after a block's beginning
single_bit : (from i w : ℕ) → 64 * (from / 64 * w) + (from % 64 + i) * w ≡ (from + i) * w
single_bit from i w =
    block_bit (from / 64) (from % 64 + i) w
    ∙ ap (λ n. n * w) (let e : 64 * (from / 64) + (from % 64 + i) ≡ from + i = omega arith in e)

pub single_there : (from i end w len : ℕ) → i < end → (from + end) * w ≤ 64 * len → 64 * (from / 64 * w) + (from % 64 + i) * w + w ≤ 64 * len
single_there from i end w len before there =
    let bit : 64 * (from / 64 * w) + (from % 64 + i) * w ≡ (from + i) * w = single_bit from i w in
    let next : (from + i + 1) * w ≡ (from + i) * w + w = add-mul (from + i) 1 w ∙ ap (λ n. (from + i) * w + n) (one-mul w) in
    let most : (from + i + 1) * w ≤ (from + end) * w = mul-le (from + i + 1) w (from + end) w (omega (arith, before)) (le_refl w) in
    omega (arith, bit, next, most, there)

pub single_more : (w : ℕ) (ws : List ℕ) (from a i v : ℕ) (old mid : List ℕ) → a ≤ i → i < length mid → v ≡ number_of 64 ws / 2 ^ (64 * (from / 64 * w) + (from % 64 + i) * w) % 2 ^ w → HasCodes w ws (from + a) a (i - a) old mid → HasCodes w ws (from + a) a (i + 1 - a) old (slice_set mid i v)
single_more w ws from a i v old mid past within is h =
    let here : a + (i - a) ≡ i = omega (arith, past) in
    let there : from + a + (i - a) ≡ from + i = omega (arith, past) in
    let P : ℕ → Type 0 = λ b. HasCodes w ws (from + a + (i - a)) b 1 mid (slice_set mid i v) in
    let Q : ℕ → Type 0 = λ n. HasCodes w ws (from + a) a n old (slice_set mid i v) in
    let code : v ≡ code_at w ws (from + a + (i - a)) = is ∙ ap (λ b. number_of 64 ws / 2 ^ b % 2 ^ w) (single_bit from i w) ∙ ap (λ n. code_at w ws n) (sym there) in
    subst Q (let e : i - a + 1 ≡ i + 1 - a = omega (arith, past) in e)
    (append w ws (from + a) a (i - a) 1 old mid (slice_set mid i v) h (subst P (sym here) (one w ws (from + a + (i - a)) i mid v within code)))

-- the codes before the first whole block, those of the blocks, and those after them
pub front_there : (from head count w len : ℕ) → head ≤ count → (from + count) * w ≤ 64 * len → (from + head) * w ≤ 64 * len
front_there from head count w len within there =
    let most : (from + head) * w ≤ (from + count) * w = mul-le (from + head) w (from + count) w (omega (arith, within)) (le_refl w) in
    omega (arith, most, there)

pub whole_there : (from head first b count w len : ℕ) → from + head ≡ 64 * first → head + 64 * (b + 1) ≤ count → (from + count) * w ≤ 64 * len → (first + b + 1) * w ≤ len
whole_there from head first b count w len whole within there =
    let inside : 64 * (first + b + 1) * w ≤ (from + count) * w = mul-le (64 * (first + b + 1)) w (from + count) w (omega (arith, whole, within)) (le_refl w) in
    let turned : 64 * (first + b + 1) * w ≡ 64 * ((first + b + 1) * w) = mul_assoc 64 (first + b + 1) w in
    omega (arith, inside, turned, there)

moved : (w : ℕ) (ws : List ℕ) (f g a n : ℕ) (old new : List ℕ) → (n ≡ 0) ⊎ (f ≡ g) → HasCodes w ws f a n old new → HasCodes w ws g a n old new
moved w ws f g a n old new (inl none) h = ((λ i low. absurd (omega (arith, none, low))), h.1)
moved w ws f g a n old new (inr same) h = let P : ℕ → Type 0 = λ k. HasCodes w ws k a n old new in subst P same h

pub three : (w : ℕ) (ws : List ℕ) (from first head blocks count : ℕ) (old fst snd new : List ℕ) → (64 * blocks ≡ 0) ⊎ (64 * first ≡ from + head) → head + 64 * blocks ≤ count → HasCodes w ws (from + 0) 0 (head - 0) old fst → HasCodes w ws (64 * first) head (64 * blocks) fst snd → HasCodes w ws (from + (head + 64 * blocks)) (head + 64 * blocks) (count - (head + 64 * blocks)) snd new → HasCodes w ws from 0 count old new
three w ws from first head blocks count old fst snd new joins within h k l =
    let m : ℕ = head + 64 * blocks in
    let P : ℕ → Type 0 = λ f. HasCodes w ws f 0 (head - 0) old fst in
    let N : ℕ → Type 0 = λ n. HasCodes w ws from 0 n old fst in
    let Q : ℕ → Type 0 = λ a. HasCodes w ws (from + head) a (64 * blocks) fst snd in
    let R : ℕ → Type 0 = λ a. HasCodes w ws (from + m) a (count - m) snd new in
    let S : ℕ → Type 0 = λ n. HasCodes w ws from 0 n old new in
    let front : HasCodes w ws from 0 head old fst = subst N (let e : head - 0 ≡ head = omega arith in e) (subst P (add-zero from) h) in
    let blocked : HasCodes w ws (from + head) (0 + head) (64 * blocks) fst snd = subst Q (sym (zero-add head)) (moved w ws (64 * first) (from + head) head (64 * blocks) fst snd joins k) in
    let both : HasCodes w ws from 0 m old snd = append w ws from 0 head (64 * blocks) old fst snd front blocked in
    subst S (let e : m + (count - m) ≡ count = omega (arith, within) in e)
    (append w ws from 0 m (count - m) old snd new both (subst R (sym (zero-add m)) l))

-- where a block is read whole, the codes before it end at its beginning
pub aligned : (from count head first b : ℕ) → head ≡ min count ((64 - from % 64) % 64) → first ≡ from / 64 + min 1 (from % 64) → b < (count - head) / 64 → from + head ≡ 64 * first
aligned from count head first b head-is first-is some = omega arith

pub joined : (from count head first : ℕ) → head ≡ min count ((64 - from % 64) % 64) → first ≡ from / 64 + min 1 (from % 64) → (64 * ((count - head) / 64) ≡ 0) ⊎ (64 * first ≡ from + head)
joined from count head first head-is first-is = elim (cases_lt 0 ((count - head) / 64)) [
  | inl some ↦ inr (sym (aligned from count head first 0 head-is first-is some))
  | inr none ↦ inl (omega (arith, none))
]
