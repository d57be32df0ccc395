-- How a text is cut into tokens, from the left. What its tokens are stands in Tokens.
use Rattle.std.specs.Prelude.{◌≡◌, ℕ, zero, suc, ◌+◌, ◌-◌, List, [], ◌∷◌, ◌++◌, length, Bool, Result, Ok, Err, Option, None, Some}
use Rattle.tsql_tokens.specs.declared.lexeme.Lexeme.{Lexeme}
use Rattle.tsql_tokens.specs.declared.token.Token.{Token}
use Rattle.tsql_tokens.specs.declared.token.TokenRefusal.{TokenRefusal}
use Rattle.tsql_tokens.specs.declared.token.TokenRefusal.TheVariants as refusal
use Rattle.tsql_tokens.specs.Behind.{Found, piece_at}
use Rattle.tsql_tokens.specs.Limits.{over_limit, open_after}
use Rattle.tsql_tokens.specs.Tokens.{kind_of, named_after, spanned}

abbrev pub Outcome : Type 0
Outcome = Result (List Token) TokenRefusal

abbrev pub refused : ℕ → ℕ → Outcome
refused number at = Err (refusal.At number at)

-- these tokens, and then those of what is left
abbrev pub with_front : List Token → Outcome → Outcome
with_front front (Ok tokens) = Ok (front ++ tokens)
with_front front (Err e) = Err e

abbrev pub Cut : Type 0
Cut = ℕ → Bool → ℕ → List ℕ → Outcome

abbrev pub cut_within : Cut → ℕ → Bool → ℕ → Lexeme → List ℕ → List ℕ → Option (List ℕ) → Outcome
cut_within more at named n lexeme bytes after (Some part) = refused 50001 (at + (length bytes - length part) + 1)
cut_within more at named n lexeme bytes after None =
    with_front (spanned (kind_of lexeme bytes) at (at + length bytes))
    (more (at + length bytes) (named_after named lexeme bytes) (open_after n lexeme bytes) after)

abbrev pub cut_piece : Cut → ℕ → Bool → ℕ → Option Found → Outcome
cut_piece more at named n None = refused 102 (at + 1)
cut_piece more at named n (Some (lexeme, bytes, after)) = cut_within more at named n lexeme bytes after (over_limit n lexeme bytes)

-- the tokens of a text that begins at a place, by at most as many lexemes as the first number says; since each has a byte,
-- the text's length is always enough
unfoldable pub cut : ℕ → Cut
cut fuel at named n [] = Ok []
cut zero at named n (b ∷ text) = Ok []
cut (suc fuel) at named n (b ∷ text) = cut_piece (cut fuel) at named n (piece_at named (b ∷ text))

-- what a call answered is this outcome, unless memory ran out
abbrev pub Refused : TokenRefusal → Outcome → Type 0
Refused refusal.Memory outcome = Unit {0}
Refused (refusal.At number at) outcome = outcome ≡ refused number at

abbrev pub Gives : Result (List Token) TokenRefusal → Outcome → Type 0
Gives (Ok tokens) outcome = outcome ≡ Ok tokens
Gives (Err e) outcome = Refused e outcome
