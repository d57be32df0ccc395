-- A text that begins with a letter other than A has another first token than the word ALTER.
use Rattle.std.proofs.Common.{◌≡◌, ℕ, zero, suc, ◌+◌, ◌-◌, ◌++◌, List, [], ◌∷◌, length, take, codes, refl, sym, ap, ◌∙◌, Bool, true, false, true≢false, ◌&&◌, ◌==◌, if◌then◌else◌, Option, None, Some, unwrap_or}
use Rattle.std.proofs.lemmas.Bool.{or_parts, or_from}
use Rattle.std.specs.Char.{to_ascii_lowercase}
use Rattle.std.specs.List.{list_any}
use Rattle.tsql_tokens.specs.declared.lexeme.Lexeme.{Lexeme}
use Rattle.tsql_tokens.specs.declared.lexeme.Lexeme.TheVariants.{Word}
use Rattle.tsql_tokens.specs.declared.token.Token.{Token}
use Rattle.tsql_tokens.specs.declared.token.TokenKind.{TokenKind}
use Rattle.tsql_tokens.specs.declared.token.TokenKind.TheVariants as kind
use Rattle.tsql_tokens.specs.Bytes.{is_blank, begins_word}
use Rattle.tsql_tokens.specs.Lexemes.{begun, lexeme_at}
use Rattle.tsql_tokens.specs.Reserved.{is_word, is_reserved}
use Rattle.tsql_tokens.specs.Tokens.{kind_of, spanned, Piece, IsFront, tokens_of}
use Rattle.tsql_grammar.specs.declared.terminal.Terminal.{Terminal}
use Rattle.tsql_grammar.specs.declared.terminal.Terminal.TheVariants as terminal
use Rattle.tsql_grammar.specs.Terminals.{among}
use Rattle.tsql_grammar.specs.Forms.{next_among}
use Rattle.tsql_grammar.specs.Words.{looked_up, or_else, reserved_1, reserved_2, reserved_3, reserved_4, reserved_5, placed_1, placed_2, placed_3, signs_1, signs_2, reserved_terminal, name_terminal, sign_terminal, unbracketed, terminal_of, bytes_at, symbols_of}

-- ---- which words are ALTER

abbrev pub alter : List Terminal
alter = terminal.Alter ∷ []

abbrev is_alter : Option Terminal → Bool
is_alter None = false
is_alter (Some t) = among t alter

-- an entry of a table is that of ALTER, and these bytes are its word
abbrev has_alter : List ℕ → List ℕ × Terminal → Bool
has_alter bytes (word, t) = among t alter && is_word bytes word

first_false : (x y : Bool) → (x && y) ≡ false → y ≡ true → x ≡ false
first_false true y e is = absurd (true≢false (sym is ∙ e))
first_false false y e is = refl

not_found : (bytes : List ℕ) (words : List (List ℕ × Terminal)) → list_any (has_alter bytes) words ≡ false → is_alter (looked_up words bytes) ≡ false
not_found bytes [] e = refl
not_found bytes ((word, t) ∷ words) e =
    let both = or_parts (among t alter && is_word bytes word) (list_any (has_alter bytes) words) e in
    at both.0 (not_found bytes words both.1) (is_word bytes word) refl
  where
    at : (among t alter && is_word bytes word) ≡ false → is_alter (looked_up words bytes) ≡ false → (same : Bool) → is_word bytes word ≡ same → is_alter (if same then Some t else looked_up words bytes) ≡ false
    at here behind true is = first_false (among t alter) (is_word bytes word) here is
    at here behind false is = behind

not_either : (a b : Option Terminal) → is_alter a ≡ false → is_alter b ≡ false → is_alter (or_else a b) ≡ false
not_either (Some t) b p q = p
not_either None b p q = q

not_found_or : (found : Option Terminal) (other : Terminal) → is_alter found ≡ false → among other alter ≡ false → among (unwrap_or found other) alter ≡ false
not_found_or (Some t) other p q = p
not_found_or None other p q = q

module _ (bytes : List ℕ) where
  not_in : (words : List (List ℕ × Terminal)) (found : Option Terminal) → list_any (has_alter bytes) words ≡ false → is_alter found ≡ false → is_alter (or_else (looked_up words bytes) found) ≡ false
  not_in words found p q = not_either (looked_up words bytes) found (not_found bytes words p) q

  reserved_other : is_word bytes (codes "ALTER") ≡ false → among (reserved_terminal bytes) alter ≡ false
  unfolding reserved_terminal
  reserved_other other =
      let fifth : Option Terminal = looked_up reserved_5 bytes in
      let fourth : Option Terminal = or_else (looked_up reserved_4 bytes) fifth in
      let third : Option Terminal = or_else (looked_up reserved_3 bytes) fourth in
      let second : Option Terminal = or_else (looked_up reserved_2 bytes) third in
      not_found_or (or_else (looked_up reserved_1 bytes) second) terminal.Outside
      (not_in reserved_1 second (or_from (is_word bytes (codes "ALTER")) false other refl) (not_in reserved_2 third refl (not_in reserved_3 fourth refl (not_in reserved_4 fifth refl (not_found bytes reserved_5 refl))))) refl

  name_other : among (name_terminal bytes) alter ≡ false
  unfolding name_terminal
  name_other =
      let third : Option Terminal = looked_up placed_3 bytes in
      let second : Option Terminal = or_else (looked_up placed_2 bytes) third in
      not_found_or (or_else (looked_up placed_1 bytes) second) terminal.Plain (not_in placed_1 second refl (not_in placed_2 third refl (not_found bytes placed_3 refl))) refl

  sign_other : among (sign_terminal bytes) alter ≡ false
  unfolding sign_terminal
  sign_other =
      let second : Option Terminal = looked_up signs_2 bytes in
      not_found_or (or_else (looked_up signs_1 bytes) second) terminal.Outside (not_in signs_1 second refl (not_found bytes signs_2 refl)) refl

terminal_other : (k : TokenKind) (bytes : List ℕ) → is_word bytes (codes "ALTER") ≡ false → among (terminal_of k bytes) alter ≡ false
unfolding terminal_of
terminal_other kind.Reserved bytes other = reserved_other bytes other
terminal_other kind.Name bytes other = name_other (unbracketed bytes)
terminal_other kind.Number bytes other = refl
terminal_other kind.Text bytes other = refl
terminal_other kind.Sign bytes other = sign_other bytes

-- ---- the first token

-- a text that is empty, or begins with `_` or a letter other than A
abbrev pub BeginsOtherwise : List ℕ → Type 0
BeginsOtherwise [] = Unit {0}
BeginsOtherwise (b ∷ text) = (is_blank b ≡ false) × (begins_word b ≡ true) × ((to_ascii_lowercase b == 97) ≡ false)

front_other : (n : ℕ) (text : List ℕ) → BeginsOtherwise text → is_word (take n text) (codes "ALTER") ≡ false
unfolding is_word
front_other zero text other = refl
front_other (suc n) [] other = refl
front_other (suc n) (b ∷ text) other = rw other.2 refl

token_other : (text : List ℕ) → BeginsOtherwise text → (k : TokenKind) (to : ℕ) (more : List Token) → next_among alter (symbols_of text (spanned (Some k) 0 to ++ more)) ≡ false
token_other text other k to more = terminal_other k (bytes_at text (0 + 1) (to - 0)) (front_other (to - 0) text other)

word_first : (b : ℕ) (text : List ℕ) → is_blank b ≡ false → begins_word b ≡ true → lexeme_at false (b ∷ text) ≡ Word
unfolding begun
word_first b text blank word = rw (blank, word) refl

word_kind : (lexeme : Lexeme) (bytes : List ℕ) → lexeme ≡ Word → kind_of lexeme bytes ≡ Some (if is_reserved bytes then kind.Reserved else kind.Name)
unfolding kind_of
word_kind lexeme bytes e = ap (λ l. kind_of l bytes) e

no_bytes : (bytes after : List ℕ) → [] ≡ bytes ++ after → bytes ≡ []
no_bytes [] after e = refl
no_bytes (b ∷ bytes) after e = absurd (cc)

-- the tokens of such a text do not begin with ALTER
pub first_other : (text : List ℕ) (pieces : List Piece) → BeginsOtherwise text → IsFront false text pieces [] → next_among alter (symbols_of text (tokens_of 0 pieces)) ≡ false
first_other text [] other front = refl
first_other [] (p ∷ pieces) other (after, cut, stands, front) = absurd (stands.2 (no_bytes p.bytes after cut))
first_other (b ∷ text) (p ∷ pieces) other (after, cut, stands, front) =
    let word : p.lexeme ≡ Word = sym stands.0 ∙ ap (lexeme_at false) (sym cut) ∙ word_first b text other.0 other.1 in
    ap (λ k. next_among alter (symbols_of (b ∷ text) (spanned k 0 (0 + length p.bytes) ++ tokens_of (0 + length p.bytes) pieces))) (word_kind p.lexeme p.bytes word)
    ∙ token_other (b ∷ text) other _ (0 + length p.bytes) (tokens_of (0 + length p.bytes) pieces)
