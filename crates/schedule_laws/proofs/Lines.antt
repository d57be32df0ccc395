-- A summary of five lines says that no event is short.
use Rattle.std.proofs.Common.{◌≡◌, ℕ, zero, suc, ◌+◌, ◌/◌, ◌%◌, List, [], ◌∷◌, ◌++◌, length, refl, sym, ap, ◌∙◌, cond, Bool, true, false, arith, decimal}
use Rattle.std.specs.Prelude.{codes, count_by, ◌==◌, nat_lt}
use Rattle.std.specs.Fmt.{digit_glyph, digits, digits_onto}
use Rattle.std.proofs.lemmas.Bool.Decides.{nat_tests}
use Rattle.std.proofs.lemmas.List.Sums.{sum_by-cons, sum_by-append}
use Rattle.cs_model.specs.declared.entry.Entry.{Entry}
use Rattle.cs_model.specs.Actors.{is_end}
use Rattle.log_summary.specs.Summary.{is_ok, is_refused, is_short_event, count_line, short_line, summary}
use Rattle.schedule_laws.specs.Agreeing.{HasFiveLines}

abbrev line_count : List ℕ → ℕ
line_count text = count_by (λ byte. byte == 10) text

lines-append : (xs ys : List ℕ) → line_count (xs ++ ys) ≡ line_count xs + line_count ys
lines-append xs ys = sum_by-append (λ byte. cond (byte == 10) 1 0) xs ys

-- ---- a number

-- the ASCII digit of a number is no byte 10
no_line : (d : ℕ) → (digit_glyph false d == 10) ≡ false
no_line d = at (nat_lt d 10)
  where
    at : (t : Bool) → (cond t (48 + d) (87 + d) == 10) ≡ false
    at true = grind (arith, nat_tests)
    at false = grind (arith, nat_tests)

abbrev one_if : Bool → ℕ
one_if t = cond t 1 0

digit_more : (d : ℕ) (text : List ℕ) → line_count (digit_glyph false d ∷ text) ≡ line_count text
digit_more d text =
    let all : line_count (digit_glyph false d ∷ text) ≡ one_if (digit_glyph false d == 10) + line_count text = sum_by-cons (λ byte. one_if (byte == 10)) (digit_glyph false d) text in
    let none : one_if (digit_glyph false d == 10) ≡ 0 = ap one_if (no_line d) in
    omega (arith, all, none)

digits_more : (k n : ℕ) (text : List ℕ) → line_count (digits_onto k 10 false n text) ≡ line_count text
digits_more zero n text = refl
digits_more (suc k) n text = at (n / 10 == 0) (digits_more k (n / 10) (digit_glyph false (n % 10) ∷ text))
  where
    more : List ℕ
    more = digit_glyph false (n % 10) ∷ text

    at : (t : Bool) → line_count (digits_onto k 10 false (n / 10) more) ≡ line_count more → line_count (cond t more (digits_onto k 10 false (n / 10) more)) ≡ line_count text
    at true rest = digit_more (n % 10) text
    at false rest = rest ∙ digit_more (n % 10) text

number_lines : (n : ℕ) → line_count (decimal n) ≡ 0
unfolding digits
number_lines n = digits_more 64 n []

-- ---- the lines

one_line : (name : List ℕ) (n : ℕ) → line_count name ≡ 0 → line_count (count_line name n) ≡ 1
one_line name n none =
    let number = number_lines n in
    lines-append (name ++ codes " " ++ decimal n) (codes "\n")
    ∙ ap (λ k. k + 1) (lines-append (name ++ codes " ") (decimal n) ∙ ap (λ k. k + line_count (decimal n)) (lines-append name (codes " ")))
    ∙ (λ i. ((none i + 0) + number i) + 1)

no_short_line : (n : ℕ) → line_count (short_line n) ≡ 0 → n ≡ 0
no_short_line n = at (n == 0) refl
  where
    at : (t : Bool) → (n == 0) ≡ t → line_count (cond t [] (count_line (codes "short") n)) ≡ 0 → n ≡ 0
    at true is none = grind (arith, nat_tests)
    at false is none = let one : 0 ≡ 1 = sym none ∙ one_line (codes "short") n refl in absurd (omega (arith, one))

six : (a b c d e f : List ℕ) → line_count (a ++ b ++ c ++ d ++ e ++ f) ≡ ((((line_count a + line_count b) + line_count c) + line_count d) + line_count e) + line_count f
six a b c d e f =
    lines-append (a ++ b ++ c ++ d ++ e) f
    ∙ ap (λ n. n + line_count f) (lines-append (a ++ b ++ c ++ d) e
    ∙ ap (λ n. n + line_count e) (lines-append (a ++ b ++ c) d
    ∙ ap (λ n. n + line_count d) (lines-append (a ++ b) c
    ∙ ap (λ n. n + line_count c) (lines-append a b))))

pub none_short : (log : List Entry) (rows : ℕ) → HasFiveLines (summary log rows) → count_by is_short_event log ≡ 0
none_short log rows five =
    let events = one_line (codes "events") (length log) refl in
    let ok = one_line (codes "ok") (count_by is_ok log) refl in
    let refused = one_line (codes "refused") (count_by is_refused log) refl in
    let ends = one_line (codes "ends") (count_by is_end log) refl in
    let table = one_line (codes "rows") rows refl in
    let last : List ℕ = short_line (count_by is_short_event log) in
    let counts : 5 + line_count last ≡ line_count (summary log rows) =
    sym (six (count_line (codes "events") (length log)) (count_line (codes "ok") (count_by is_ok log)) (count_line (codes "refused") (count_by is_refused log)) (count_line (codes "ends") (count_by is_end log))
    (count_line (codes "rows") rows) last
    ∙ (λ i. ((((events i + ok i) + refused i) + ends i) + table i) + line_count last)) in
    let all : 5 + line_count last ≡ 5 = counts ∙ five in
    no_short_line (count_by is_short_event log) (omega (arith, all))
