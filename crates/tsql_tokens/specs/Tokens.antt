-- The tokens of a text, and where a text that cannot be cut into tokens is refused. A text of blanks and comments alone has
-- the empty list of tokens.
use Rattle.std.specs.Prelude.{◌≡◌, ◌≢◌, ℕ, ◌+◌, ◌-◌, ◌<◌, ◌≤◌, List, [], ◌∷◌, ◌++◌, length, Bool, true, false, ◌⊎◌, Option, None, Some, if◌then◌else◌}
use Rattle.tsql_tokens.specs.declared.lexeme.Lexeme.{Lexeme}
use Rattle.tsql_tokens.specs.declared.lexeme.Lexeme.TheVariants.{Blank, LineComment, Comment, Word, Bracketed, Number, Text, Sign}
use Rattle.tsql_tokens.specs.declared.token.TokenKind.{TokenKind}
use Rattle.tsql_tokens.specs.declared.token.TokenKind.TheVariants as kind
use Rattle.tsql_tokens.specs.declared.token.Token.{Token}
use Rattle.tsql_tokens.specs.declared.token.TokenRefusal.{TokenRefusal}
use Rattle.tsql_tokens.specs.declared.token.TokenRefusal.TheVariants as refusal
use Rattle.tsql_tokens.specs.Lexemes.{Stands}
use Rattle.tsql_tokens.specs.Limits.{over_limit, open_after}
use Rattle.tsql_tokens.specs.Reserved.{is_reserved}

-- blanks and comments are no tokens
unfoldable pub kind_of : Lexeme → List ℕ → Option TokenKind
kind_of Blank bytes = None
kind_of LineComment bytes = None
kind_of Comment bytes = None
kind_of Word bytes = Some (if is_reserved bytes then kind.Reserved else kind.Name)
kind_of Bracketed bytes = Some kind.Name
kind_of Number bytes = Some kind.Number
kind_of Text bytes = Some kind.Text
kind_of Sign bytes = Some kind.Sign

-- whether the last token after a lexeme is a name: as before it, where it is no token
abbrev pub is_name : Bool → Option TokenKind → Bool
is_name named None = named
is_name named (Some kind.Name) = true
is_name named (Some _) = false

abbrev pub named_after : Bool → Lexeme → List ℕ → Bool
named_after named lexeme bytes = is_name named (kind_of lexeme bytes)

pub record Piece : Type 0 where
  pub lexeme : Lexeme
  pub bytes : List ℕ

-- these lexemes stand one after another at the beginning of the text, and the rest is after them
abbrev pub IsFront : Bool → List ℕ → List Piece → List ℕ → Type 0
IsFront named text [] rest = text ≡ rest
IsFront named text (p ∷ pieces) rest = (after : List ℕ) × (text ≡ p.bytes ++ after)
    × Stands named p.lexeme p.bytes after × IsFront (named_after named p.lexeme p.bytes) after pieces rest

-- none of these lexemes is over a limit
abbrev pub AreWithin : ℕ → List Piece → Type 0
AreWithin n [] = Unit {0}
AreWithin n (p ∷ pieces) = (over_limit n p.lexeme p.bytes ≡ None) × AreWithin (open_after n p.lexeme p.bytes) pieces

-- the span of a token, which begins at a place counted from 0
abbrev pub spanned : Option TokenKind → ℕ → ℕ → List Token
spanned None from to = []
spanned (Some kind) from to = record { kind = kind; from = from; to = to } ∷ []

-- the tokens among these lexemes, the first of which begins at this place
abbrev pub tokens_of : ℕ → List Piece → List Token
tokens_of from [] = []
tokens_of from (p ∷ pieces) =
    spanned (kind_of p.lexeme p.bytes) from (from + length p.bytes) ++ tokens_of (from + length p.bytes) pieces

-- a text has these tokens where they are those of lexemes that make up the whole text, and none is over a limit
abbrev pub HasTokens : List ℕ → List Token → Type 0
HasTokens text tokens = (pieces : List Piece) × IsFront false text pieces [] × AreWithin 0 pieces × (tokens ≡ tokens_of 0 pieces)

-- how many bytes lexemes have, what is open after them, and whether the last token is a name
abbrev pub size_of : List Piece → ℕ
size_of [] = 0
size_of (p ∷ pieces) = length p.bytes + size_of pieces

abbrev pub open_behind : ℕ → List Piece → ℕ
open_behind n [] = n
open_behind n (p ∷ pieces) = open_behind (open_after n p.lexeme p.bytes) pieces

abbrev pub named_behind : Bool → List Piece → Bool
named_behind named [] = named
named_behind named (p ∷ pieces) = named_behind (named_after named p.lexeme p.bytes) pieces

-- no lexeme stands at the beginning of a text that goes on
abbrev pub NothingStands : Bool → List ℕ → Type 0
NothingStands named text = (text ≢ []) × ((lexeme : Lexeme) (bytes after : List ℕ) → text ≡ bytes ++ after → Stands named lexeme bytes after → ⊥)

-- the lexeme at the beginning of a text is over a limit, this many bytes after its beginning
abbrev pub GoesOver : Bool → ℕ → List ℕ → ℕ → Type 0
GoesOver named n text offset = (lexeme : Lexeme) × (bytes : List ℕ) × (after : List ℕ) × (part : List ℕ) × (text ≡ bytes ++ after)
    × Stands named lexeme bytes after × (over_limit n lexeme bytes ≡ Some part) × (offset ≡ length bytes - length part)

-- a text is at fault at its beginning: there nothing stands, which is 102, or a limit is passed, which is 50001
abbrev pub IsFault : Bool → ℕ → List ℕ → ℕ → ℕ → Type 0
IsFault named n text number offset =
    ((number ≡ 102) × (offset ≡ 0) × NothingStands named text) ⊎ ((number ≡ 50001) × GoesOver named n text offset)

-- a text is refused with a number at a place, counted from 1, where lexemes within the limits lead up to a fault
abbrev pub IsRefused : List ℕ → ℕ → ℕ → Type 0
IsRefused text number at = (pieces : List Piece) × (rest : List ℕ) × (offset : ℕ) × IsFront false text pieces rest × AreWithin 0 pieces
    × IsFault (named_behind false pieces) (open_behind 0 pieces) rest number offset × (at ≡ size_of pieces + offset + 1)

-- a refusal is one of the text's
abbrev pub Refuses : List ℕ → TokenRefusal → Type 0
Refuses text (refusal.At number at) = IsRefused text number at
Refuses text refusal.Memory = Unit {0}

-- a refusal is this one, unless memory ran out
abbrev pub AnswersOnly : ℕ → ℕ → TokenRefusal → Type 0
AnswersOnly number at (refusal.At n place) = (n ≡ number) × (place ≡ at)
AnswersOnly number at refusal.Memory = Unit {0}

-- a token has at least one byte, and its bytes are among the first `size` bytes
abbrev pub IsSpan : ℕ → Token → Type 0
IsSpan size token = (token.from < token.to) × (token.to ≤ size)
