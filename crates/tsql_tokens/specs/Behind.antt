-- What is after a lexeme, by a function of the text. What a lexeme is stands in Lexemes; this is how it is found.
use Rattle.std.specs.Prelude.{ℕ, ◌+◌, ◌-◌, List, [], ◌∷◌, length, take, drop, Bool, not, ◌==◌, if◌then◌else◌, Option, None, Some}
use Rattle.std.specs.Option.{option_map}
use Rattle.tsql_tokens.specs.declared.lexeme.Lexeme.{Lexeme}
use Rattle.tsql_tokens.specs.declared.lexeme.Lexeme.TheVariants.{Blank, LineComment, Comment, Word, Bracketed, Number, Text, Sign}
use Rattle.tsql_tokens.specs.declared.lexeme.Piece.{Piece as Seen}
use Rattle.tsql_tokens.specs.Bytes.{is_digit, goes_on_word, skip_while}
use Rattle.tsql_tokens.specs.Lexemes.{lexeme_at, opens, closes, is_single, is_pair}

-- after a point and the digits after it
abbrev pub after_point : List ℕ → List ℕ
after_point [] = []
after_point (b ∷ bytes) = if b == 46 then skip_while is_digit bytes else b ∷ bytes

abbrev pub after_number : List ℕ → List ℕ
after_number text = after_point (skip_while is_digit text)

-- after the next byte
abbrev pub after_one : List ℕ → Option (List ℕ)
after_one [] = None
after_one (b ∷ bytes) = Some bytes

-- after the bracket that closes a name, whose first byte is next
abbrev pub after_bracket : List ℕ → Option (List ℕ)
after_bracket [] = None
after_bracket (b ∷ bytes) = if b == 93 then None else after_one (skip_while (λ c. not (c == 93)) bytes)

-- after the quote that ends a text; a quote ends it unless another one follows
abbrev pub after_text : List ℕ → Option (List ℕ)
after_text [] = None
after_text (b ∷ []) = if b == 39 then Some [] else None
after_text (b ∷ c ∷ bytes) = if b == 39 then (if c == 39 then after_text bytes else Some (c ∷ bytes)) else after_text (c ∷ bytes)

-- after the last of n open comments
unfoldable pub after_comment : ℕ → List ℕ → Option (List ℕ)
after_comment n [] = None
after_comment n (b ∷ []) = None
after_comment n (b ∷ c ∷ bytes) =
    if closes (b ∷ c ∷ bytes) then (if n == 1 then Some bytes else after_comment (n - 1) bytes)
    else if opens (b ∷ c ∷ bytes) then after_comment (n + 1) bytes
    else after_comment n (c ∷ bytes)

-- after the longest sign
abbrev pub after_sign : List ℕ → Option (List ℕ)
after_sign [] = None
after_sign (b ∷ []) = if is_single b then Some [] else None
after_sign (b ∷ c ∷ bytes) = if is_pair b c then Some bytes else if is_single b then Some (c ∷ bytes) else None

unfoldable pub behind : Lexeme → List ℕ → Option (List ℕ)
behind Blank text = Some (drop 1 text)
behind LineComment text = Some []
behind Comment text = after_comment 1 (drop 2 text)
behind Word text = Some (skip_while goes_on_word text)
behind Bracketed text = after_bracket (drop 1 text)
behind Number text = Some (after_number text)
behind Text text = after_text (drop 1 text)
behind Sign text = after_sign text

-- the lexeme at the beginning of a text, its bytes, and what is after it
abbrev pub Found : Type 0
Found = Lexeme × List ℕ × List ℕ

abbrev pub piece_of : Lexeme → List ℕ → List ℕ → Found
piece_of lexeme text after = (lexeme, take (length text - length after) text, after)

unfoldable pub piece_at : Bool → List ℕ → Option Found
piece_at named text = option_map (piece_of (lexeme_at named text) text) (behind (lexeme_at named text) text)

abbrev pub seen : Seen → Found
seen piece = (piece.lexeme, piece.bytes.now, piece.after.now)
