-- A text means one thing over a schema.
use Rattle.std.proofs.Common.{◌≡◌, ℕ, zero, suc, ◌+◌, List, [], ◌∷◌, length, Bool, false, Result, Ok, Err, refl, sym, ap, ◌∙◌, inl, inr}
use Rattle.std.specs.Prelude.{Option, None, Some, MatchResult}
use Rattle.cs_types.specs.declared.Schema.{Schema}
use Rattle.cs_model.specs.declared.entry.Bound.{Bound}
use Rattle.cs_model.specs.declared.entry.Bound.TheVariants.{Nothing, Refused}
use Rattle.cs_model.specs.declared.entry.Refusal.TheVariants.{Reading}
use Rattle.tsql_trees.specs.declared.statement.Statement.{Statement}
use Rattle.tsql_tokens.specs.declared.lexeme.Lexeme.{Lexeme}
use Rattle.tsql_tokens.specs.declared.token.Token.{Token}
use Rattle.tsql_tokens.specs.declared.token.TokenRefusal.TheVariants as by_token
use Rattle.tsql_tokens.specs.Behind.{Found, piece_at}
use Rattle.tsql_tokens.specs.Cutting.{Outcome, cut, cut_piece, cut_within, with_front}
use Rattle.tsql_tokens.specs.Limits.{over_limit, open_after}
use Rattle.tsql_tokens.specs.Tokens.{kind_of, named_after, spanned, HasTokens, IsRefused}
use Rattle.tsql_tokens.specs.Tokens as of_tokens
use Rattle.tsql_tokens.proofs.Steps.{gives_only, gives_place}
use Rattle.tsql_grammar.specs.Forms.{Symbols}
use Rattle.tsql_grammar.specs.Places.{to_end}
use Rattle.tsql_grammar.specs.Words.{symbols_of}
use Rattle.tsql_exprs.specs.declared.refusal.ReadRefusal.{ReadRefusal}
use Rattle.tsql_exprs.specs.declared.refusal.ReadRefusal.TheVariants as refusal
use Rattle.tsql_exprs.specs.Refusals.{number_at, place_at, AnswersOnly}
use Rattle.tsql_reader.specs.Limits.{passed_limit}
use Rattle.tsql_reader.specs.Statements.{grammar, IsStatement, IsNoStatement, FollowsTokens}
use Rattle.tsql_reader.proofs.Clauses.{ok_only, ok_place, err_only, err_place}
use Rattle.tsql_binder.specs.Meaning.{bound_of}
use Rattle.script_turns.specs.Texts.{bound_or, Means}

-- ---- its tokens

-- cutting answers no want of memory
never_short : (fuel at : ℕ) (named : Bool) (n : ℕ) (text : List ℕ) → cut fuel at named n text ≡ Err by_token.Memory → ⊥
unfolding cut
never_short zero at named n [] e = cc
never_short (suc fuel) at named n [] e = cc
never_short zero at named n (b ∷ text) e = cc
never_short (suc fuel) at named n (b ∷ text) e = piece (never_short fuel) (piece_at named (b ∷ text)) e
  where
    front : (tokens : List Token) (o : Outcome) → (o ≡ Err by_token.Memory → ⊥) → with_front tokens o ≡ Err by_token.Memory → ⊥
    front tokens (Ok more) h e = cc
    front tokens (Err d) h e = h e

    within : ((at : ℕ) (named : Bool) (n : ℕ) (text : List ℕ) → cut fuel at named n text ≡ Err by_token.Memory → ⊥) → (lexeme : Lexeme) (bytes after : List ℕ) (o : Option (List ℕ))
        → cut_within (cut fuel) at named n lexeme bytes after o ≡ Err by_token.Memory → ⊥
    within ih lexeme bytes after (Some part) e = cc
    within ih lexeme bytes after None e =
        front (spanned (kind_of lexeme bytes) at (at + length bytes)) (cut fuel (at + length bytes) (named_after named lexeme bytes) (open_after n lexeme bytes) after)
        (ih (at + length bytes) (named_after named lexeme bytes) (open_after n lexeme bytes) after) e

    piece : ((at : ℕ) (named : Bool) (n : ℕ) (text : List ℕ) → cut fuel at named n text ≡ Err by_token.Memory → ⊥) → (o : Option Found) → cut_piece (cut fuel) at named n o ≡ Err by_token.Memory → ⊥
    piece ih None e = cc
    piece ih (Some (lexeme, bytes, after)) e = within ih lexeme bytes after (over_limit n lexeme bytes) e

module _ (text : List ℕ) where
  pub tokens_one : (tokens others : List Token) → HasTokens text tokens → HasTokens text others → tokens ≡ others
  tokens_one tokens others has also = go (cut (length text) 0 false 0 text) refl
    where
      go : (o : Outcome) → cut (length text) 0 false 0 text ≡ o → tokens ≡ others
      go (Ok found) e = sym (gives_only (Ok found) text e tokens has) ∙ gives_only (Ok found) text e others also
      go (Err by_token.Memory) e = absurd (never_short (length text) 0 false 0 text e)
      go (Err (by_token.At number at)) e = let none : by_token.At number at ≡ by_token.Memory = gives_only (Err (by_token.At number at)) text e tokens has in absurd cc

  tokens_stand : (tokens : List Token) (number at : ℕ) → HasTokens text tokens → IsRefused text number at → ⊥
  tokens_stand tokens number at has is = go (cut (length text) 0 false 0 text) refl
    where
      go : (o : Outcome) → cut (length text) 0 false 0 text ≡ o → ⊥
      go (Ok found) e = gives_place (Ok found) text e number at is
      go (Err by_token.Memory) e = never_short (length text) 0 false 0 text e
      go (Err (by_token.At n p)) e = let none : by_token.At n p ≡ by_token.Memory = gives_only (Err (by_token.At n p)) text e tokens has in absurd cc

  -- a text that is refused is refused at one place
  refused_once : (number at n p : ℕ) → IsRefused text number at → IsRefused text n p → of_tokens.AnswersOnly n p (by_token.At number at)
  refused_once number at n p is also = go (cut (length text) 0 false 0 text) refl
    where
      go : (o : Outcome) → cut (length text) 0 false 0 text ≡ o → of_tokens.AnswersOnly n p (by_token.At number at)
      go (Ok found) e = absurd (gives_place (Ok found) text e number at is)
      go (Err by_token.Memory) e = absurd (never_short (length text) 0 false 0 text e)
      go (Err (by_token.At m q)) e =
          let one = gives_place (Err (by_token.At m q)) text e number at is in
          let two = gives_place (Err (by_token.At m q)) text e n p also in
          (sym one.0 ∙ two.0, sym one.1 ∙ two.1)

  -- ---- what reading it gives

  -- this is what a text gives that has all the memory that it wants
  record Reads (r : Result Statement ReadRefusal) : Type 0 where
    sure : r ≡ Err refusal.Memory → ⊥
    only : (other : Statement) → IsStatement text other → MatchResult r (λ s. s ≡ other) (λ e. e ≡ refusal.Memory)
    place : (number at : ℕ) → IsNoStatement text number at → MatchResult r (λ s. ⊥) (λ e. AnswersOnly number at e)

  -- what its tokens give
  record Gives (tokens : List Token) : Type 0 where
    result : Result Statement ReadRefusal
    sure : result ≡ Err refusal.Memory → ⊥
    follows : FollowsTokens text (symbols_of text tokens) result

  given : (tokens : List Token) → Gives tokens
  given tokens = go (to_end ((grammar text).reads (symbols_of text tokens))) refl
    where
      within : (s : Statement) → to_end ((grammar text).reads (symbols_of text tokens)) ≡ Ok s → (o : Option (ℕ × ℕ)) → passed_limit (symbols_of text tokens) s ≡ o → Gives tokens
      within s e None l = record { result = Ok s; sure = λ q. cc; follows = (e, l) }
      within s e (Some (number, at)) l = record { result = Err (refusal.At number at); sure = λ q. cc; follows = inr (s, e, l) }

      go : (read : Result Statement Symbols) → to_end ((grammar text).reads (symbols_of text tokens)) ≡ read → Gives tokens
      go (Ok s) e = within s e (passed_limit (symbols_of text tokens) s) refl
      go (Err rest) e = record {
        result = Err (refusal.At (number_at (symbols_of text tokens) rest) (place_at (length text) rest));
        sure = λ q. cc;
        follows = inl (rest, e, refl, refl);
      }

  by_tokens : (tokens : List Token) → HasTokens text tokens → (r : Result Statement ReadRefusal) × Reads r
  by_tokens tokens has =
      let one : (others : List Token) → HasTokens text others → tokens ≡ others = λ others also. tokens_one tokens others has also in
      let none : (number at : ℕ) → IsRefused text number at → ⊥ = λ number at is. tokens_stand tokens number at has is in
      let g = given tokens in (
        g.result,
        record {
          sure = g.sure;
          only = ok_only text tokens has one g.result g.follows;
          place = ok_place text tokens has one none g.result g.follows;
        },
      )

  by_refusal : (number at : ℕ) → IsRefused text number at → (r : Result Statement ReadRefusal) × Reads r
  by_refusal number at is = (
    Err (refusal.At number at),
    record {
      sure = λ q. cc;
      only = err_only text (by_token.At number at) (refusal.At number at) (λ n p e. at_is number at n p e) (λ e. absurd cc) (λ others has. absurd (tokens_stand others number at has is));
      place = err_place text (by_token.At number at) (refusal.At number at) (λ n p e. at_is number at n p e) (λ e. absurd cc) (λ others has. absurd (tokens_stand others number at has is))
          (λ n p also. refused_once number at n p is also);
    },
  )
    where
      at_is : (number at n p : ℕ) → by_token.At number at ≡ by_token.At n p → refusal.At number at ≡ refusal.At n p
      at_is number at n p e = cc

  -- ---- what it means

  abbrev bound_by : Schema → Result Statement ReadRefusal → Bound
  bound_by schema (Ok s) = bound_or (bound_of schema s)
  bound_by schema (Err (refusal.At number at)) = Refused (Reading number at)
  bound_by schema (Err refusal.Memory) = Nothing

  meant : (schema : Schema) (bound : Bound) (r : Result Statement ReadRefusal) → Reads r → Means schema text bound → bound ≡ bound_by schema r
  meant schema bound (Ok s) r (inl (other, is, e)) = e ∙ ap (λ (z : Statement). bound_or (bound_of schema z)) (sym (r.only other is))
  meant schema bound (Ok s) r (inr (number, at, none, e)) = absurd (r.place number at none)
  meant schema bound (Err refusal.Memory) r means = absurd (r.sure refl)
  meant schema bound (Err (refusal.At n p)) r (inl (other, is, e)) = let none : refusal.At n p ≡ refusal.Memory = r.only other is in absurd cc
  meant schema bound (Err (refusal.At n p)) r (inr (number, at, none, e)) =
      let same = r.place number at none in e ∙ sym (λ i. Refused (Reading (same.0 i) (same.1 i)))

  read_by : (schema : Schema) (bound : Bound) → Means schema text bound → (r : Result Statement ReadRefusal) × Reads r
  read_by schema bound (inl (s, is, e)) = by_tokens is.0 is.1
  read_by schema bound (inr (number, at, inl is, e)) = by_refusal number at is
  read_by schema bound (inr (number, at, inr is, e)) = by_tokens is.0 is.1

pub means_one : (schema : Schema) (text : List ℕ) (bound other : Bound) → Means schema text bound → Means schema text other → bound ≡ other
means_one schema text bound other means also =
    let read = read_by text schema bound means in meant text schema bound read.0 read.1 means ∙ sym (meant text schema other read.0 read.1 also)
