-- The lines of a script, and the form that each of them has.
use Rattle.std.specs.Prelude.{ℕ, List, [], ◌∷◌, map, ◌==◌, length, reverse, drop, codes, nat_eq, nat_lt, nat_le, Bool, false, not, ◌||◌, ◌&&◌, if◌then◌else◌, Option, None, Some}
use Rattle.std.specs.List.{list_all, starts_with, prefix_len, take_while}
use Rattle.std.specs.Option.{option_map_or}
use Rattle.cs_types.specs.Calendar.{is_digit, digits_value}
use Rattle.cs_types.specs.Kinds.{is_text_byte}
use Rattle.script_reader.specs.declared.script.Step.TheVariants.{Whole, Begun, Finished, Turn, Claiming, Installing}
use Rattle.script_reader.specs.declared.form.Form.{Form}
use Rattle.script_reader.specs.declared.form.Form.TheVariants.{Skipped, Setup, Ask, Other}

-- ---- cutting

-- a byte before the first piece
abbrev pub onto : ℕ → List (List ℕ) → List (List ℕ)
onto b [] = (b ∷ []) ∷ []
onto b (piece ∷ pieces) = (b ∷ piece) ∷ pieces

-- the bytes cut at each byte 10: so many cuts leave one piece more
abbrev pub pieces : List ℕ → List (List ℕ)
pieces [] = [] ∷ []
pieces (b ∷ bytes) = if b == 10 then [] ∷ pieces bytes else onto b (pieces bytes)

-- without a byte 13 at the end, which stands before a byte 10 or at the script's end
abbrev pub trimmed : List ℕ → List ℕ
trimmed [] = []
trimmed (b ∷ []) = if b == 13 then [] else b ∷ []
trimmed (b ∷ c ∷ bytes) = b ∷ trimmed (c ∷ bytes)

-- an empty last piece is no line
abbrev pub without_empty_end : List (List ℕ) → List (List ℕ)
without_empty_end [] = []
without_empty_end ([] ∷ []) = []
without_empty_end ((b ∷ piece) ∷ []) = (b ∷ piece) ∷ []
without_empty_end (piece ∷ next ∷ pieces) = piece ∷ without_empty_end (next ∷ pieces)

-- the lines of a script
abbrev pub lines : List ℕ → List (List ℕ)
lines bytes = without_empty_end (map trimmed (pieces bytes))

-- ---- its bytes

-- a byte that a line may have: a tab, or one from 32 to 126
abbrev pub is_line_byte : ℕ → Bool
is_line_byte c = (c == 9) || is_text_byte c

-- why a line is bad whatever it says: over 65,536 bytes (reason 5), or another byte (reason 6)
abbrev pub line_reason : List ℕ → Option ℕ
line_reason line = if nat_lt 65536 (length line) then Some 5 else (if list_all is_line_byte line then None else Some 6)

-- a blank: a tab or a space
abbrev pub is_blank : ℕ → Bool
is_blank c = (c == 9) || (c == 32)

-- without the blanks at the start
abbrev pub unblanked : List ℕ → List ℕ
unblanked [] = []
unblanked (c ∷ rest) = if is_blank c then unblanked rest else c ∷ rest

-- without the blanks at both ends
abbrev pub stripped : List ℕ → List ℕ
stripped line = reverse (unblanked (reverse (unblanked line)))

-- ---- its form

-- what stands after a prefix, where the line begins with it
abbrev pub behind : List ℕ → List ℕ → Option (List ℕ)
behind front line = if starts_with nat_eq line front then Some (drop (length front) line) else None

-- a text, which is not empty
abbrev pub some_text : List ℕ → Option (List ℕ)
some_text [] = None
some_text (b ∷ text) = Some (b ∷ text)

-- the text after blanks, of which there is one at least
abbrev pub blanked_text : List ℕ → Option (List ℕ)
blanked_text [] = None
blanked_text (c ∷ rest) = if is_blank c then some_text (unblanked rest) else None

abbrev pub finish_form : ℕ → List ℕ → Form
finish_form session [] = Ask (Finished session)
finish_form session (b ∷ rest) = Other

-- after `s<n>`: `>` (byte 62) and a text with or without blanks before it, `<` (byte 60) and nothing, or blanks and a text
abbrev pub session_form : ℕ → List ℕ → Form
session_form session [] = Other
session_form session (c ∷ rest) =
    if c == 62 then option_map_or (λ text. Ask (Begun session text)) (some_text (unblanked rest)) Other
    else (if c == 60 then finish_form session rest else option_map_or (λ text. Ask (Whole session text)) (blanked_text (c ∷ rest)) Other)

-- one to nine digits, the first not 0
abbrev pub is_number : List ℕ → Bool
is_number [] = false
is_number (d ∷ digits) = not (d == 48) && nat_le (length digits) 8

-- after `m<n>`: nothing, or `>` or `<` alone
abbrev pub mover_form : ℕ → List ℕ → Form
mover_form mover [] = Ask (Turn mover)
mover_form mover (c ∷ []) = if c == 62 then Ask (Claiming mover) else (if c == 60 then Ask (Installing mover) else Other)
mover_form mover (c ∷ d ∷ rest) = Other

-- after `s` or `m`: a number, and what follows its digits
abbrev pub numbered_form : (ℕ → List ℕ → Form) → List ℕ → Form
numbered_form form line = if is_number (take_while is_digit line) then form (digits_value (take_while is_digit line)) (drop (prefix_len is_digit line) line) else Other

-- after `setup`: blanks and a text
abbrev pub setup_form : List ℕ → Form
setup_form rest = option_map_or Setup (blanked_text rest) Other

-- what stands after `setup`, `s` or `m`
abbrev pub named_form : List ℕ → Form
named_form line =
    option_map_or setup_form (behind (codes "setup") line)
    (option_map_or (numbered_form session_form) (behind (codes "s") line)
    (option_map_or (numbered_form mover_form) (behind (codes "m") line) Other))

-- the form of a line without blanks at its ends
abbrev pub bare_form : List ℕ → Form
bare_form line =
    if (length line == 0) || starts_with nat_eq line (codes "--") then Skipped else named_form line

-- the form of a line: skipped where it is empty or begins with `--`, `setup` with blanks and a text, a step of a session or a
-- mover, or none
unfoldable pub form_of : List ℕ → Form
form_of line = bare_form (stripped line)
