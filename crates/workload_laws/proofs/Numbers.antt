-- The numbers that lines have: those of sessions, and those below 1000.
use Rattle.std.proofs.Common.{◌≡◌, ℕ, zero, suc, ◌+◌, ◌≤◌, ◌<◌, ◌^◌, List, [], ◌∷◌, length, refl, sym, ap, ◌∙◌, Bool, true, false, ◌&&◌, ◌==◌, arith, decimal, mod-lt, ◌%◌, if◌then◌else◌, nat_le}
use Rattle.std.proofs.lemmas.Bool.{and_from, and_parts, le-leb, eqb-true}
use Rattle.std.proofs.lemmas.Fmt.{decimal_is_IsNumeral, decimal_nonempty, length-decimal-le}
use Rattle.std.proofs.lemmas.Str.Parse.{digit_from_value}
use Rattle.std.specs.Fmt.{digits}
use Rattle.std.specs.List.{list_all, range_with_len}
use Rattle.std.specs.Str.Parse.{AllDigits}
use Rattle.cs_types.specs.Calendar.{is_digit, digits_value}
use Rattle.script_reader.specs.Lines.{is_number}
use Rattle.script_reader.specs.Grammar.{IsNumber}
use Rattle.script_workload.specs.declared.statement.Statement.{Statement}
use Rattle.script_workload.specs.declared.statement.Statement.TheVariants.{Begin, Commit, Rollback, Insert, Update, Delete, Select, Mover}
use Rattle.script_workload.specs.Sequence.{drawn}
use Rattle.script_workload.specs.Workload.{chosen, statement_after}

-- ---- their digits

are_digits : (bytes : List ℕ) → AllDigits 10 bytes → list_all is_digit bytes ≡ true
are_digits [] all = refl
are_digits (c ∷ bytes) all =
    let value = digit_from_value c all.0 in
    let digit : is_digit c ≡ true = and_from (nat_le 48 c) (nat_le c 57) (le-leb 48 c value.0) (le-leb c 57 value.1) in
    and_from (is_digit c) (list_all is_digit bytes) digit (are_digits bytes all.1)

-- the decimal digits of a number, of which there are so many at most
pub record HasDigits (n most : ℕ) : Type 0 where
  pub are : list_all is_digit (decimal n) ≡ true
  pub some : 0 < length (decimal n)
  pub few : length (decimal n) ≤ most

pub has_digits : (n most : ℕ) → n < 10 ^ most → 0 < most → n < 2 ^ 64 → HasDigits n most
has_digits n most low some small = record {
  are = are_digits (decimal n) (decimal_is_IsNumeral n small).0.1;
  some = decimal_nonempty n small;
  few = length-decimal-le most n some low small;
}

pub three_digits : (n : ℕ) → n < 1000 → HasDigits n 3
three_digits n low = has_digits n 3 low (omega arith) (omega arith)

-- what holds of each number of a range holds of this one
among_range : (p : ℕ → Bool) (from many n : ℕ) → list_all p (range_with_len from many) ≡ true → from ≤ n → n < from + many → p n ≡ true
among_range p from zero n all low high = absurd (omega arith)
among_range p from (suc many) n all low high = at (from == n) refl (λ above. among_range p (from + 1) many n both.1 above (omega arith))
  where
    both : (p from ≡ true) × (list_all p (range_with_len (from + 1) many) ≡ true)
    both = and_parts (p from) (list_all p (range_with_len (from + 1) many)) all

    at : (t : Bool) → (from == n) ≡ t → (from + 1 ≤ n → p n ≡ true) → p n ≡ true
    at true same later = ap p (sym (eqb-true from n same)) ∙ both.0
    at false other later = later (grind arith)

-- the decimal digits of a session are its number in a script
abbrev numbers_session : ℕ → Bool
numbers_session n = is_number (decimal n) && (n == digits_value (decimal n))

all_number_sessions : list_all numbers_session (range_with_len 1 64) ≡ true
unfolding digits
all_number_sessions = refl

pub session_number : (n : ℕ) → 1 ≤ n → n ≤ 64 → IsNumber (decimal n) n
session_number n low high =
    let two = has_digits n 2 (omega arith) (omega arith) (omega arith) in
    let both = and_parts (is_number (decimal n)) (n == digits_value (decimal n)) (among_range numbers_session 1 64 n all_number_sessions low (omega arith)) in
    (two.are, both.0, eqb-true n (digits_value (decimal n)) both.1)

-- ---- the numbers of statements

-- each number of the statement is below 1000
abbrev pub HasSmallNumbers : Statement → Type 0
HasSmallNumbers Begin = Unit {0}
HasSmallNumbers Commit = Unit {0}
HasSmallNumbers Rollback = Unit {0}
HasSmallNumbers (Insert key value word) = (key < 1000) × (value < 1000) × (word < 1000)
HasSmallNumbers (Update key) = key < 1000
HasSmallNumbers (Delete key) = key < 1000
HasSmallNumbers (Select key) = key < 1000
HasSmallNumbers Mover = Unit {0}

one_of : (t : Bool) (a b : Statement) → HasSmallNumbers a → HasSmallNumbers b → HasSmallNumbers (if t then a else b)
one_of true a b p q = p
one_of false a b p q = q

rest_below : (n most limit : ℕ) → 0 < most → most ≤ limit → n % most < limit
rest_below n most limit some low = omega (arith, mod-lt n some)

chosen_small : (choice x : ℕ) → HasSmallNumbers (chosen choice x)
chosen_small choice x =
    one_of (choice == 0) Begin _ tt
    (one_of (choice == 1) Commit _ tt
    (one_of (choice == 2) Rollback _ tt
    (one_of (nat_le choice 7) (Insert (drawn 2 x % 1000) (drawn 3 x % 100) (drawn 4 x % 10)) _
    (rest_below (drawn 2 x) 1000 1000 (omega arith) (omega arith), rest_below (drawn 3 x) 100 1000 (omega arith) (omega arith), rest_below (drawn 4 x) 10 1000 (omega arith) (omega arith))
    (one_of (nat_le choice 9) (Update (drawn 2 x % 1000)) _ (rest_below (drawn 2 x) 1000 1000 (omega arith) (omega arith))
    (one_of (choice == 10) (Delete (drawn 2 x % 1000)) _ (rest_below (drawn 2 x) 1000 1000 (omega arith) (omega arith))
    (one_of (nat_le choice 14) (Select (drawn 2 x % 1000)) Mover (rest_below (drawn 2 x) 1000 1000 (omega arith) (omega arith)) tt))))))

pub drawn_small : (x : ℕ) → HasSmallNumbers (statement_after x)
drawn_small x = chosen_small (drawn 1 x % 16) x
