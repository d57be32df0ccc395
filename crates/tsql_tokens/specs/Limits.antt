-- The limits of tokens.
use Rattle.std.specs.Prelude.{ℕ, ◌+◌, ◌-◌, List, [], ◌∷◌, length, drop, Bool, ◌==◌, ◌&&◌, ◌||◌, nat_lt, nat_le, count_by, if◌then◌else◌, Option, None, Some}
use Rattle.std.specs.List.{list_any}
use Rattle.tsql_tokens.specs.declared.lexeme.Lexeme.{Lexeme}
use Rattle.tsql_tokens.specs.declared.lexeme.Lexeme.TheVariants.{Blank, LineComment, Comment, Word, Bracketed, Number, Text, Sign}
use Rattle.tsql_tokens.specs.Bytes.{is_digit, next_is, skip_while}
use Rattle.tsql_tokens.specs.Lexemes.{opens, closes}

-- whether a name is too long: over 128 bytes
abbrev pub is_long_name : ℕ → Bool
is_long_name size = nat_lt 128 size

-- whether a number is too long: over 19 digits in all, or over 18 after the point
unfoldable pub is_long_number : List ℕ → Bool
is_long_number bytes = nat_lt 19 (count_by is_digit bytes) || nat_lt 18 (length (drop 1 (skip_while is_digit bytes)))

-- whether a text has a tab, which it may not
unfoldable pub has_tab : List ℕ → Bool
has_tab bytes = list_any (λ b. b == 9) bytes

-- how many parentheses and comments may be open at one place
abbrev pub most_open : ℕ
most_open = 64

-- the bytes of a comment from the opening on that is one too many, where n parentheses and comments are open before it
unfoldable pub too_deep : ℕ → List ℕ → Option (List ℕ)
too_deep n [] = None
too_deep n (b ∷ []) = None
too_deep n (b ∷ c ∷ bytes) =
    if opens (b ∷ c ∷ bytes) then (if nat_le most_open n then Some (b ∷ c ∷ bytes) else too_deep (n + 1) bytes)
    else if closes (b ∷ c ∷ bytes) then too_deep (n - 1) bytes
    else too_deep n (c ∷ bytes)

abbrev pub whole_if : Bool → List ℕ → Option (List ℕ)
whole_if over bytes = if over then Some bytes else None

-- the bytes of a lexeme from the one on that is over a limit, where n parentheses are open before it
unfoldable pub over_limit : ℕ → Lexeme → List ℕ → Option (List ℕ)
over_limit n Blank bytes = None
over_limit n LineComment bytes = None
over_limit n Comment bytes = too_deep n bytes
over_limit n Word bytes = whole_if (is_long_name (length bytes)) bytes
over_limit n Bracketed bytes = whole_if (is_long_name (length bytes - 2)) bytes
over_limit n Number bytes = whole_if (is_long_number bytes) bytes
over_limit n Text bytes = whole_if (has_tab bytes) bytes
over_limit n Sign bytes = whole_if (next_is (λ b. b == 40) bytes && nat_le most_open n) bytes

-- how many parentheses are open after a lexeme
unfoldable pub open_after : ℕ → Lexeme → List ℕ → ℕ
open_after n Sign bytes = if next_is (λ b. b == 40) bytes then n + 1 else if next_is (λ b. b == 41) bytes then n - 1 else n
open_after n _ bytes = n
