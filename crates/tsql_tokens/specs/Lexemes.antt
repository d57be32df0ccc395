-- The lexemes: what a word, a number, a text, a sign, a comment and a blank are.
use Rattle.std.specs.Prelude.{◌≡◌, ◌≢◌, ℕ, ◌+◌, ◌-◌, List, [], ◌∷◌, ◌++◌, length, Bool, true, false, not, ◌==◌, ◌&&◌, ◌||◌, ◌⊎◌, if◌then◌else◌}
use Rattle.std.specs.List.{list_all}
use Rattle.tsql_tokens.specs.declared.lexeme.Lexeme.{Lexeme}
use Rattle.tsql_tokens.specs.declared.lexeme.Lexeme.TheVariants.{Blank, LineComment, Comment, Word, Bracketed, Number, Text, Sign}
use Rattle.tsql_tokens.specs.Bytes.{is_blank, is_digit, begins_word, goes_on_word, next_is, is_empty}

-- ---- what begins

-- a number begins with a digit, or with a point that a digit follows and that stands after no name
unfoldable pub begins_number : Bool → ℕ → List ℕ → Bool
begins_number named b next = is_digit b || b == 46 && next_is is_digit next && not named

-- two bytes: "--"
unfoldable pub begins_line_comment : ℕ → List ℕ → Bool
begins_line_comment b next = b == 45 && next_is (λ c. c == 45) next

-- two bytes: "/*"
unfoldable pub begins_comment : ℕ → List ℕ → Bool
begins_comment b next = b == 47 && next_is (λ c. c == 42) next

-- what the first bytes of a text begin; what begins nothing else is a sign, or none
unfoldable pub begun : Bool → ℕ → List ℕ → Lexeme
begun named b next =
    if is_blank b then Blank
    else if begins_word b then Word
    else if begins_number named b next then Number
    else if b == 39 then Text
    else if b == 91 then Bracketed
    else if begins_line_comment b next then LineComment
    else if begins_comment b next then Comment
    else Sign

abbrev pub lexeme_at : Bool → List ℕ → Lexeme
lexeme_at named [] = Sign
lexeme_at named (b ∷ next) = begun named b next

-- ---- the lexemes, each with the bytes after it

-- a word goes on as far as it can; that it begins with a letter or '_' is said by which lexeme begins
abbrev pub IsWord : List ℕ → List ℕ → Type 0
IsWord bytes after = (list_all goes_on_word bytes ≡ true) × (next_is goes_on_word after ≡ false)

-- a bracket, 1 or more bytes other than "]", and "]"
abbrev pub IsBracketed : List ℕ → Type 0
IsBracketed bytes = (name : List ℕ) × (bytes ≡ 91 ∷ name ++ 93 ∷ []) × (list_all (λ b. not (b == 93)) name ≡ true) × (name ≢ [])

-- digits, or digits with one point before, among or after them, as far as they go; that there is a digit is said by which
-- lexeme begins
abbrev pub IsNumber : List ℕ → List ℕ → Type 0
IsNumber bytes after = (whole : List ℕ) × (list_all is_digit whole ≡ true) × (next_is is_digit after ≡ false) ×
    (((bytes ≡ whole) × (next_is (λ b. b == 46) after ≡ false))
    ⊎ ((part : List ℕ) × (list_all is_digit part ≡ true) × (bytes ≡ whole ++ 46 ∷ part)))

-- each quote twice
abbrev pub doubled : List ℕ → List ℕ
doubled [] = []
doubled (b ∷ bytes) = if b == 39 then 39 ∷ 39 ∷ doubled bytes else b ∷ doubled bytes

-- a quote, bytes in which each quote stands twice, and a quote that no quote follows
abbrev pub IsText : List ℕ → List ℕ → Type 0
IsText bytes after = (content : List ℕ) × (bytes ≡ 39 ∷ doubled content ++ 39 ∷ []) × (next_is (λ b. b == 39) after ≡ false)

-- "/*" opens a comment and "*/" closes one
abbrev pub next_two : ℕ → ℕ → List ℕ → Bool
next_two x y [] = false
next_two x y (b ∷ []) = false
next_two x y (b ∷ c ∷ bytes) = b == x && c == y

unfoldable pub opens : List ℕ → Bool
opens bytes = next_two 47 42 bytes

unfoldable pub closes : List ℕ → Bool
closes bytes = next_two 42 47 bytes

-- where n comments are open, these bytes close the last of them, at their end
unfoldable pub closes_all : ℕ → List ℕ → Bool
closes_all n [] = false
closes_all n (b ∷ []) = false
closes_all n (b ∷ c ∷ bytes) =
    if closes (b ∷ c ∷ bytes) then (if n == 1 then is_empty bytes else closes_all (n - 1) bytes)
    else if opens (b ∷ c ∷ bytes) then closes_all (n + 1) bytes
    else closes_all n (c ∷ bytes)

-- comments stand in one another
abbrev pub IsComment : List ℕ → Type 0
IsComment bytes = (inner : List ℕ) × (bytes ≡ 47 ∷ 42 ∷ inner) × (closes_all 1 inner ≡ true)

-- ( ) , . ; * + - / % = < >
unfoldable pub is_single : ℕ → Bool
is_single b = b == 40 || b == 41 || b == 44 || b == 46 || b == 59 || b == 42 || b == 43 || b == 45 || b == 47 || b == 37 || b == 61 || b == 60 || b == 62

-- <> != <= >=
unfoldable pub is_pair : ℕ → ℕ → Bool
is_pair b c = b == 60 && c == 62 || b == 33 && c == 61 || b == 60 && c == 61 || b == 62 && c == 61

abbrev pub is_sign : List ℕ → Bool
is_sign [] = false
is_sign (b ∷ []) = is_single b
is_sign (b ∷ c ∷ []) = is_pair b c
is_sign (b ∷ c ∷ d ∷ bytes) = false

-- no sign is longer by the next byte
abbrev pub IsLongest : List ℕ → List ℕ → Type 0
IsLongest bytes [] = Unit {0}
IsLongest bytes (b ∷ after) = is_sign (bytes ++ b ∷ []) ≡ false

abbrev pub IsSign : List ℕ → List ℕ → Type 0
IsSign bytes after = (is_sign bytes ≡ true) × IsLongest bytes after

abbrev pub Is : Lexeme → List ℕ → List ℕ → Type 0
Is Blank bytes after = length bytes ≡ 1
Is LineComment bytes after = after ≡ []
Is Comment bytes after = IsComment bytes
Is Word bytes after = IsWord bytes after
Is Bracketed bytes after = IsBracketed bytes
Is Number bytes after = IsNumber bytes after
Is Text bytes after = IsText bytes after
Is Sign bytes after = IsSign bytes after

-- at the beginning of a text, which is the bytes and what is after them, these bytes are the lexeme; named says whether
-- the last token before it is a name
abbrev pub Stands : Bool → Lexeme → List ℕ → List ℕ → Type 0
Stands named lexeme bytes after = (lexeme_at named (bytes ++ after) ≡ lexeme) × Is lexeme bytes after × (bytes ≢ [])
