-- Bytes that print, and how they end.
use Rattle.std.proofs.Common.{◌≡◌, ℕ, ◌<◌, List, [], ◌∷◌, ◌++◌, length, reverse, refl, sym, ap, ◌∙◌, append_assoc, true, false, cond, ◌==◌, nat_le, arith}
use Rattle.std.proofs.lemmas.Bool.{and_from, and_parts, or_from, or_right, leb-true, le-leb, ne_eqb}
use Rattle.std.proofs.lemmas.List.{reverse-append, reverse-reverse}
use Rattle.std.proofs.lemmas.List.Folds.{list_all-append}
use Rattle.std.specs.List.{list_all}
use Rattle.cs_types.specs.Calendar.{is_digit}
use Rattle.cs_types.specs.Kinds.{is_text_byte}
use Rattle.script_reader.specs.Lines.{is_line_byte, is_blank, unblanked, stripped}

-- each byte is a space, or prints
abbrev pub IsPrinted : List ℕ → Type 0
IsPrinted bytes = list_all is_text_byte bytes ≡ true

pub printed_append : (front rest : List ℕ) → IsPrinted front → IsPrinted rest → IsPrinted (front ++ rest)
printed_append front rest p q = list_all-append is_text_byte front rest ∙ and_from (list_all is_text_byte front) (list_all is_text_byte rest) p q

-- a byte that prints is not below 32
pub other_byte : (b low : ℕ) → low < 32 → is_text_byte b ≡ true → (b == low) ≡ false
other_byte b low small printed = let high = leb-true 32 b (and_parts (nat_le 32 b) (nat_le b 126) printed).0 in ne_eqb b low (λ same. absurd (omega arith))

-- bytes that print may stand in a line
pub printed_is_line : (bytes : List ℕ) → IsPrinted bytes → list_all is_line_byte bytes ≡ true
printed_is_line [] printed = refl
printed_is_line (b ∷ bytes) printed =
    let both = and_parts (is_text_byte b) (list_all is_text_byte bytes) printed in
    and_from (is_line_byte b) (list_all is_line_byte bytes) (or_right (b == 9) (is_text_byte b) both.0) (printed_is_line bytes both.1)

-- bytes whose last one is no blank
pub record EndsBare (bytes : List ℕ) : Type 0 where
  pub front : List ℕ
  pub last : ℕ
  pub cut : bytes ≡ front ++ last ∷ []
  pub bare : is_blank last ≡ false

pub bare_append : (front rest : List ℕ) → EndsBare rest → EndsBare (front ++ rest)
bare_append front rest e = record {
  front = front ++ e.front;
  last = e.last;
  cut = ap (λ z. front ++ z) e.cut ∙ sym (append_assoc front e.front (e.last ∷ []));
  bare = e.bare;
}

bare_end : (bytes : List ℕ) → EndsBare bytes → unblanked (reverse bytes) ≡ reverse bytes
bare_end bytes e =
    let turned : reverse bytes ≡ e.last ∷ reverse e.front = ap reverse e.cut ∙ reverse-append e.front (e.last ∷ []) in
    ap unblanked turned ∙ ap (λ t. cond t (unblanked (reverse e.front)) (e.last ∷ reverse e.front)) e.bare ∙ sym turned

-- a line without blanks at its ends is itself without them
pub stripped_same : (first : ℕ) (rest : List ℕ) → is_blank first ≡ false → EndsBare (first ∷ rest) → stripped (first ∷ rest) ≡ first ∷ rest
stripped_same first rest bare ends =
    ap (λ t. reverse (unblanked (reverse (cond t (unblanked rest) (first ∷ rest))))) bare ∙ ap reverse (bare_end (first ∷ rest) ends) ∙ reverse-reverse (first ∷ rest)

-- ---- digits

-- a digit prints
pub digit_printed : (c : ℕ) → is_digit c ≡ true → is_text_byte c ≡ true
digit_printed c digit =
    let both = and_parts (nat_le 48 c) (nat_le c 57) digit in
    let low = leb-true 48 c both.0 in
    let high = leb-true c 57 both.1 in
    and_from (nat_le 32 c) (nat_le c 126) (le-leb 32 c (omega arith)) (le-leb c 126 (omega arith))

pub digits_printed : (digits : List ℕ) → list_all is_digit digits ≡ true → IsPrinted digits
digits_printed [] all = refl
digits_printed (c ∷ digits) all =
    let both = and_parts (is_digit c) (list_all is_digit digits) all in
    and_from (is_text_byte c) (list_all is_text_byte digits) (digit_printed c both.0) (digits_printed digits both.1)

digit_bare : (c : ℕ) → is_digit c ≡ true → is_blank c ≡ false
digit_bare c digit =
    let low = leb-true 48 c (and_parts (nat_le 48 c) (nat_le c 57) digit).0 in
    or_from (c == 9) (c == 32) (ne_eqb c 9 (λ same. absurd (omega arith))) (ne_eqb c 32 (λ same. absurd (omega arith)))

pub digits_bare : (digits : List ℕ) → 0 < length digits → list_all is_digit digits ≡ true → EndsBare digits
digits_bare [] some all = absurd (omega arith)
digits_bare (c ∷ []) some all = record { front = []; last = c; cut = refl; bare = digit_bare c (and_parts (is_digit c) true all).0 }
digits_bare (c ∷ d ∷ digits) some all = bare_append (c ∷ []) (d ∷ digits) (digits_bare (d ∷ digits) (omega arith) (and_parts (is_digit c) (list_all is_digit (d ∷ digits)) all).1)
