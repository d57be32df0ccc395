-- The forms of lines: their texts are no longer than the line.
use Rattle.std.proofs.Common.{◌≡◌, ℕ, ◌+◌, ◌≤◌, List, [], ◌∷◌, length, take, drop, reverse, refl, cond, Bool, true, false, arith}
use Rattle.std.proofs.Math.Numerals.{one-add}
use Rattle.std.proofs.lemmas.List.{length-drop, length-reverse}
use Rattle.std.specs.Prelude.{Option, None, Some, codes, nat_eq, nat_lt, ◌||◌, ◌==◌}
use Rattle.std.specs.List.{list_all, prefix_len, take_while, starts_with}
use Rattle.std.specs.Option.{option_map_or}
use Rattle.cs_types.specs.Calendar.{is_digit, digits_value}
use Rattle.script_reader.specs.declared.script.Step.TheVariants.{Whole, Begun, Claiming, Installing}
use Rattle.script_reader.specs.declared.form.Form.{Form}
use Rattle.script_reader.specs.declared.form.Form.TheVariants.{Skipped, Setup, Ask, Other}
use Rattle.script_reader.specs.Lines.{is_line_byte, line_reason, is_blank, unblanked, stripped, behind, some_text, blanked_text, finish_form, session_form, is_number, mover_form, numbered_form, setup_form, named_form, bare_form, form_of}
use Rattle.script_reader.specs.Reading.{IsShort}

-- the digits that a line begins with are digits
pub digits_all : (line : List ℕ) → list_all is_digit (take (prefix_len is_digit line) line) ≡ true
digits_all [] = refl
digits_all (c ∷ rest) = at (is_digit c) refl (digits_all rest)
  where
    at : (t : Bool) → is_digit c ≡ t → list_all is_digit (take (prefix_len is_digit rest) rest) ≡ true → list_all is_digit (take (cond t (1 + prefix_len is_digit rest) 0) (c ∷ rest)) ≡ true
    at true e all = rw (one-add, e) all
    at false e all = refl

unblanked_short : (line : List ℕ) → length (unblanked line) ≤ length line
unblanked_short [] = omega arith
unblanked_short (c ∷ rest) = at (is_blank c) (unblanked_short rest)
  where
    at : (t : Bool) → length (unblanked rest) ≤ length rest → length (cond t (unblanked rest) (c ∷ rest)) ≤ length (c ∷ rest)
    at true l = omega arith
    at false l = omega arith

stripped_short : (line : List ℕ) → length (stripped line) ≤ length line
stripped_short line =
    omega (arith, length-reverse (unblanked (reverse (unblanked line))), unblanked_short (reverse (unblanked line)), length-reverse (unblanked line), unblanked_short line)

module _ (n : ℕ) where
  some_short : (form : List ℕ → Form) (text : List ℕ) → ((t : List ℕ) → length t ≤ n → IsShort n (form t)) → length text ≤ n → IsShort n (option_map_or form (some_text text) Other)
  some_short form [] h l = tt
  some_short form (b ∷ text) h l = h (b ∷ text) l

  blanked_short : (form : List ℕ → Form) (rest : List ℕ) → ((t : List ℕ) → length t ≤ n → IsShort n (form t)) → length rest ≤ n → IsShort n (option_map_or form (blanked_text rest) Other)
  blanked_short form [] h l = tt
  blanked_short form (c ∷ rest) h l = at (is_blank c)
    where
      at : (t : Bool) → IsShort n (option_map_or form (cond t (some_text (unblanked rest)) None) Other)
      at true = some_short form (unblanked rest) h (omega (arith, unblanked_short rest))
      at false = tt

  finish_short : (session : ℕ) (rest : List ℕ) → IsShort n (finish_form session rest)
  finish_short session [] = omega arith
  finish_short session (b ∷ rest) = tt

  session_short : (session : ℕ) (rest : List ℕ) → length rest ≤ n → IsShort n (session_form session rest)
  session_short session [] l = tt
  session_short session (c ∷ rest) l = at (c == 62) (c == 60)
    where
      at : (t u : Bool) → IsShort n (cond t (option_map_or (λ text. Ask (Begun session text)) (some_text (unblanked rest)) Other) (cond u (finish_form session rest) (option_map_or (λ text. Ask (Whole session text)) (blanked_text (c ∷ rest)) Other)))
      at true u = some_short (λ text. Ask (Begun session text)) (unblanked rest) (λ t h. h) (omega (arith, unblanked_short rest))
      at false true = finish_short session rest
      at false false = blanked_short (λ text. Ask (Whole session text)) (c ∷ rest) (λ t h. h) l

  mover_short : (mover : ℕ) (rest : List ℕ) → IsShort n (mover_form mover rest)
  mover_short mover [] = omega arith
  mover_short mover (c ∷ []) = at (c == 62) (c == 60)
    where
      at : (t u : Bool) → IsShort n (cond t (Ask (Claiming mover)) (cond u (Ask (Installing mover)) Other))
      at true u = omega arith
      at false true = omega arith
      at false false = tt
  mover_short mover (c ∷ d ∷ rest) = tt

  numbered_short : (form : ℕ → List ℕ → Form) → ((number : ℕ) (rest : List ℕ) → length rest ≤ n → IsShort n (form number rest)) → (line : List ℕ) → length line ≤ n → IsShort n (numbered_form form line)
  numbered_short form each line l = at (is_number (take_while is_digit line))
    where
      at : (t : Bool) → IsShort n (cond t (form (digits_value (take_while is_digit line)) (drop (prefix_len is_digit line) line)) Other)
      at true = each (digits_value (take_while is_digit line)) (drop (prefix_len is_digit line) line) (omega (arith, length-drop (prefix_len is_digit line) line))
      at false = tt

  behind_short : (form : List ℕ → Form) (front line : List ℕ) (other : Form) → length line ≤ n → ((rest : List ℕ) → length rest ≤ n → IsShort n (form rest)) → IsShort n other → IsShort n (option_map_or form (behind front line) other)
  behind_short form front line other l h o = at (starts_with nat_eq line front)
    where
      at : (t : Bool) → IsShort n (option_map_or form (cond t (Some (drop (length front) line)) None) other)
      at true = h (drop (length front) line) (omega (arith, length-drop (length front) line))
      at false = o

  named_short : (line : List ℕ) → length line ≤ n → IsShort n (named_form line)
  named_short line l =
      behind_short setup_form (codes "setup") line _ l (λ rest m. blanked_short Setup rest (λ t h. h) m)
      (behind_short (numbered_form session_form) (codes "s") line _ l (numbered_short session_form session_short)
      (behind_short (numbered_form mover_form) (codes "m") line Other l (numbered_short mover_form (λ mover rest m. mover_short mover rest)) tt))

  bare_short : (line : List ℕ) → length line ≤ n → IsShort n (bare_form line)
  bare_short line l = at ((length line == 0) || starts_with nat_eq line (codes "--"))
    where
      at : (t : Bool) → IsShort n (cond t Skipped (named_form line))
      at true = tt
      at false = named_short line l

not_long : (line : List ℕ) → line_reason line ≡ None → length line ≤ 65536
not_long line e = at (nat_lt 65536 (length line)) refl e
  where
    at : (t : Bool) → nat_lt 65536 (length line) ≡ t → cond {A = Option ℕ} t (Some 5) (cond {A = Option ℕ} (list_all is_line_byte line) None (Some 6)) ≡ None → length line ≤ 65536
    at true long e = absurd (cc)
    at false short e = grind arith

pub form_short : (line : List ℕ) → line_reason line ≡ None → IsShort 65536 (form_of line)
unfolding form_of
form_short line none = bare_short 65536 (stripped line) (omega (arith, stripped_short line, not_long line none))
