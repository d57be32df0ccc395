-- What a line is read as: the bytes before its first digit, and the numbers that its digits write.
use Rattle.std.proofs.Common.{◌≡◌, ℕ, ◌+◌, ◌-◌, ◌*◌, ◌/◌, ◌%◌, ◌<◌, ◌^◌, List, [], ◌∷◌, ◌++◌, ap, ◌∙◌, append_assoc, Bool, true, false, cond, ◌==◌, ◌||◌, arith, decimal, nat_le}
use Rattle.std.proofs.lemmas.Bool.{and_from, le-leb}
use Rattle.std.proofs.lemmas.Fmt.{decimal_by_steps}
use Rattle.cs_types.specs.Calendar.{is_digit}

-- the bytes before the first digit of a line, or before its end
abbrev pub head_of : List ℕ → List ℕ
head_of [] = []
head_of (c ∷ bytes) = cond (is_digit c || (c == 10)) [] (c ∷ head_of bytes)

-- the number so far, where its digits have begun
abbrev pub so_far : Bool → ℕ → List ℕ
so_far true n = n ∷ []
so_far false n = []

-- the number with one more digit, and 0 where there is none
abbrev pub with_digit : Bool → ℕ → ℕ → ℕ
with_digit true c n = 10 * n + (c - 48)
with_digit false c n = 0

-- the numbers from a byte on, by those of the bytes after it
abbrev pub from_byte : Bool → Bool → List ℕ → List ℕ → List ℕ
from_byte true ends before later = later
from_byte false true before later = before
from_byte false false before later = before ++ later

-- the numbers of a line, where the digits before it have begun one, or not
abbrev pub numbers_in : List ℕ → Bool → ℕ → List ℕ
numbers_in [] begun n = so_far begun n
numbers_in (c ∷ bytes) begun n = from_byte (is_digit c) (c == 10) (so_far begun n) (numbers_in bytes (is_digit c) (with_digit (is_digit c) c n))

-- ---- the digits of a number

digit_of : (d : ℕ) → d < 10 → is_digit (48 + d) ≡ true
digit_of d low = and_from (nat_le 48 (48 + d)) (nat_le (48 + d) 57) (le-leb 48 (48 + d) (omega arith)) (le-leb (48 + d) 57 (omega arith))

one_digit : (d : ℕ) (bytes : List ℕ) (begun : Bool) (n : ℕ) → d < 10 → numbers_in ((48 + d) ∷ bytes) begun n ≡ numbers_in bytes true (10 * n + (48 + d - 48))
one_digit d bytes begun n low = ap (λ t. from_byte t (48 + d == 10) (so_far begun n) (numbers_in bytes t (with_digit t (48 + d) n))) (digit_of d low)

-- no byte stands before the first digit
pub head_number : (n : ℕ) → n < 2 ^ 64 → (bytes : List ℕ) → head_of (decimal n ++ bytes) ≡ []
head_number = decimal_by_steps (λ m digits. (bytes : List ℕ) → head_of (digits ++ bytes) ≡ [])
    (λ m low bytes. ap (λ t. cond (t || (48 + m == 10)) [] ((48 + m) ∷ head_of bytes)) (digit_of m low))
    (λ m digits high before bytes. ap head_of (append_assoc digits ((48 + m % 10) ∷ []) bytes) ∙ before ((48 + m % 10) ∷ bytes))

-- the digits of a number begin it
pub read_number : (n : ℕ) → n < 2 ^ 64 → (bytes : List ℕ) → numbers_in (decimal n ++ bytes) false 0 ≡ numbers_in bytes true n
read_number = decimal_by_steps (λ m digits. (bytes : List ℕ) → numbers_in (digits ++ bytes) false 0 ≡ numbers_in bytes true m)
    (λ m low bytes.
    let same : 10 * 0 + (48 + m - 48) ≡ m = omega arith in
    one_digit m bytes false 0 low ∙ ap (numbers_in bytes true) same)
    (λ m digits high before bytes.
    let same : 10 * (m / 10) + (48 + m % 10 - 48) ≡ m = omega arith in
    ap (λ z. numbers_in z false 0) (append_assoc digits ((48 + m % 10) ∷ []) bytes) ∙ before ((48 + m % 10) ∷ bytes)
    ∙ one_digit (m % 10) bytes true (m / 10) (omega arith) ∙ ap (numbers_in bytes true) same)
