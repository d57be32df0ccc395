-- The clauses of reading a text, from those of its tokens and of its symbols.
use Rattle.std.proofs.Common.{◌≡◌, ℕ, List, [], ◌∷◌, length, Result, Ok, Err, refl, sym, ap, subst, ◌∙◌, append_assoc, inl, inr}
use Rattle.std.specs.Prelude.{Option, None, Some, IfOk, IfErr, MatchResult}
use Rattle.std.proofs.lemmas.List.{append-nil}
use Rattle.tsql_trees.specs.declared.statement.Statement.{Statement}
use Rattle.tsql_tokens.specs.declared.token.Token.{Token}
use Rattle.tsql_tokens.specs.declared.token.TokenRefusal.{TokenRefusal}
use Rattle.tsql_tokens.specs.declared.token.TokenRefusal.TheVariants as by_token
use Rattle.tsql_tokens.specs.Tokens.{HasTokens, IsRefused, Refuses}
use Rattle.tsql_tokens.specs.Tokens as of_tokens
use Rattle.tsql_grammar.specs.Forms.{Symbols, Form}
use Rattle.tsql_grammar.specs.Places.{IsRefusedAt, to_end}
use Rattle.tsql_grammar.specs.Words.{symbols_of}
use Rattle.tsql_grammar.proofs.Laws.{Laws}
use Rattle.tsql_grammar.proofs.Lines.{line_laws}
use Rattle.tsql_grammar.proofs.Whole.{whole_ok, whole_only, whole_err, one_place}
use Rattle.tsql_exprs.specs.declared.refusal.ReadRefusal.{ReadRefusal}
use Rattle.tsql_exprs.specs.declared.refusal.ReadRefusal.TheVariants as refusal
use Rattle.tsql_exprs.specs.Refusals.{number_at, place_at, AnswersOnly}
use Rattle.tsql_reader.specs.Limits.{passed_limit}
use Rattle.tsql_reader.specs.Statements.{grammar, IsStatement, StopsAt, PassesAt, IsNoStatement, RefusesStatement, FollowsTokens}

grammar_laws : (text : List ℕ) → Laws (grammar text)
unfolding grammar
grammar_laws text = line_laws text 64

-- a text that has a tree is refused nowhere
refused_none : {X : Type 0} (a : Form X) (ts rest : Symbols) (x : X) → IsRefusedAt a ts rest → a.Has ts x → ⊥
refused_none {X} a ts [] x (u, e, begins, stuck) has =
    stuck x (subst (λ (z : Symbols). a.Has z x) (e ∙ append-nil u) has)
refused_none {X} a ts (t ∷ rest) x (u, e, begins, stuck) has =
    stuck (rest, x, subst (λ (z : Symbols). a.Has z x) (e ∙ sym (append_assoc u (t ∷ []) rest)) has)

abbrev numbered : ℕ → ℕ → Option (ℕ × ℕ)
numbered number at = Some (number, at)

abbrev pair_of : ℕ → ℕ → ℕ × ℕ
pair_of a b = (a, b)

numbered_is : (m p number at : ℕ) → numbered m p ≡ numbered number at → (m ≡ number) × (p ≡ at)
numbered_is m p number at e =
    let same : pair_of m p ≡ pair_of number at = cc in
    (ap (λ (z : ℕ × ℕ). z.0) same, ap (λ (z : ℕ × ℕ). z.1) same)

module _ (text : List ℕ) (ts : List Token) (has : HasTokens text ts) where
  pub ok_found : (r : Result Statement ReadRefusal) → FollowsTokens text (symbols_of text ts) r → IfOk r (λ s. IsStatement text s)
  ok_found (Ok s) (e, l) = (ts, has, whole_ok (grammar text) (grammar_laws text) (symbols_of text ts) s e, l)
  ok_found (Err e) f = tt

  pub ok_only : ((others : List Token) → HasTokens text others → ts ≡ others) → (r : Result Statement ReadRefusal) → FollowsTokens text (symbols_of text ts) r
      → (other : Statement) → IsStatement text other → MatchResult r (λ s. s ≡ other) (λ e. e ≡ refusal.Memory)
  ok_only only r f other (us, hus, hh, hl) = go r f (subst (λ (z : List Token). to_end ((grammar text).reads (symbols_of text z)) ≡ Ok other) (sym (only us hus)) (whole_only (grammar text) (grammar_laws text) (symbols_of text us) other hh))
      (subst (λ (z : List Token). passed_limit (symbols_of text z) other ≡ None) (sym (only us hus)) hl)
    where
      go : (r : Result Statement ReadRefusal) → FollowsTokens text (symbols_of text ts) r → to_end ((grammar text).reads (symbols_of text ts)) ≡ Ok other → passed_limit (symbols_of text ts) other ≡ None
          → MatchResult r (λ s. s ≡ other) (λ e. e ≡ refusal.Memory)
      go (Ok s) (e, l) read none = cc
      go (Err refusal.Memory) f read none = refl
      go (Err (refusal.At number at)) (inl (rest, e, en, ep)) read none = absurd cc
      go (Err (refusal.At number at)) (inr (s, e, l)) read none =
          let same : s ≡ other = cc in
          let both : passed_limit (symbols_of text ts) other ≡ Some (number, at) = subst (λ (z : Statement). passed_limit (symbols_of text ts) z ≡ Some (number, at)) same l in
          absurd cc

  pub ok_refused : (r : Result Statement ReadRefusal) → FollowsTokens text (symbols_of text ts) r → IfErr r (λ e. RefusesStatement text e)
  ok_refused (Ok s) f = tt
  ok_refused (Err refusal.Memory) f = tt
  ok_refused (Err (refusal.At number at)) (inl (rest, e, en, ep)) =
      inr (ts, has, inl (rest, whole_err (grammar text) (grammar_laws text) (symbols_of text ts) rest e, en, ep))
  ok_refused (Err (refusal.At number at)) (inr (s, e, l)) =
      inr (ts, has, inr (s, whole_ok (grammar text) (grammar_laws text) (symbols_of text ts) s e, l))

  stops_place : (r : Result Statement ReadRefusal) → FollowsTokens text (symbols_of text ts) r → (number at : ℕ) → StopsAt text (symbols_of text ts) number at
      → MatchResult r (λ s. ⊥) (λ e. AnswersOnly number at e)
  stops_place (Ok s) (e, l) number at (rest, is, en, ep) =
      refused_none (grammar text) (symbols_of text ts) rest s is (whole_ok (grammar text) (grammar_laws text) (symbols_of text ts) s e)
  stops_place (Err refusal.Memory) f number at is = tt
  stops_place (Err (refusal.At m p)) (inl (here, e, em, ep)) number at (rest, is, en, eq) =
      let same : here ≡ rest = one_place (grammar text) (symbols_of text ts) here rest (whole_err (grammar text) (grammar_laws text) (symbols_of text ts) here e) is in
      (em ∙ ap (number_at (symbols_of text ts)) same ∙ sym en, ep ∙ ap (place_at (length text)) same ∙ sym eq)
  stops_place (Err (refusal.At m p)) (inr (s, e, l)) number at (rest, is, en, ep) =
      absurd (refused_none (grammar text) (symbols_of text ts) rest s is (whole_ok (grammar text) (grammar_laws text) (symbols_of text ts) s e))

  passes_place : (r : Result Statement ReadRefusal) → FollowsTokens text (symbols_of text ts) r → (number at : ℕ) → PassesAt text (symbols_of text ts) number at
      → MatchResult r (λ s. ⊥) (λ e. AnswersOnly number at e)
  passes_place r f number at (x, hx, lx) = go r f (whole_only (grammar text) (grammar_laws text) (symbols_of text ts) x hx)
    where
      over : (s : Statement) → s ≡ x → passed_limit (symbols_of text ts) s ≡ Some (number, at)
      over s same = subst (λ (z : Statement). passed_limit (symbols_of text ts) z ≡ Some (number, at)) (sym same) lx

      go : (r : Result Statement ReadRefusal) → FollowsTokens text (symbols_of text ts) r → to_end ((grammar text).reads (symbols_of text ts)) ≡ Ok x → MatchResult r (λ s. ⊥) (λ e. AnswersOnly number at e)
      go (Ok s) (e, l) read = let same : s ≡ x = cc in let passed = over s same in absurd cc
      go (Err refusal.Memory) f read = tt
      go (Err (refusal.At m p)) (inl (rest, e, em, ep)) read = absurd cc
      go (Err (refusal.At m p)) (inr (s, e, l)) read =
          let same : s ≡ x = cc in
          numbered_is m p number at (sym l ∙ over s same)

  pub ok_place : ((others : List Token) → HasTokens text others → ts ≡ others) → ((number at : ℕ) → IsRefused text number at → ⊥)
      → (r : Result Statement ReadRefusal) → FollowsTokens text (symbols_of text ts) r → (number at : ℕ) → IsNoStatement text number at
      → MatchResult r (λ s. ⊥) (λ e. AnswersOnly number at e)
  ok_place only place r f number at (inl is) = absurd (place number at is)
  ok_place only place r f number at (inr (us, hus, inl is)) =
      stops_place r f number at (subst (λ (z : List Token). StopsAt text (symbols_of text z) number at) (sym (only us hus)) is)
  ok_place only place r f number at (inr (us, hus, inr is)) =
      passes_place r f number at (subst (λ (z : List Token). PassesAt text (symbols_of text z) number at) (sym (only us hus)) is)

-- ---- a text that is refused by its tokens

module _ (text : List ℕ) (e : TokenRefusal) (d : ReadRefusal)
    (same : (number at : ℕ) → e ≡ by_token.At number at → d ≡ refusal.At number at) (memory : e ≡ by_token.Memory → d ≡ refusal.Memory) where
  pub err_only : ((others : List Token) → HasTokens text others → e ≡ by_token.Memory) → (other : Statement) → IsStatement text other → d ≡ refusal.Memory
  err_only only other (us, hus, hh, hl) = memory (only us hus)

  pub err_refused : Refuses text e → RefusesStatement text d
  err_refused h = go e refl h
    where
      go : (f : TokenRefusal) → e ≡ f → Refuses text e → RefusesStatement text d
      go by_token.Memory k r = subst (λ (z : ReadRefusal). RefusesStatement text z) (sym (memory k)) tt
      go (by_token.At number at) k r =
          subst (λ (z : ReadRefusal). RefusesStatement text z) (sym (same number at k)) (inl (subst (λ (z : TokenRefusal). Refuses text z) k r))

  pub err_place : ((others : List Token) → HasTokens text others → e ≡ by_token.Memory) → ((number at : ℕ) → IsRefused text number at → of_tokens.AnswersOnly number at e)
      → (number at : ℕ) → IsNoStatement text number at → AnswersOnly number at d
  err_place only place number at (inl is) = go e refl (place number at is)
    where
      go : (f : TokenRefusal) → e ≡ f → of_tokens.AnswersOnly number at e → AnswersOnly number at d
      go by_token.Memory k a = subst (λ (z : ReadRefusal). AnswersOnly number at z) (sym (memory k)) tt
      go (by_token.At m p) k a =
          subst (λ (z : ReadRefusal). AnswersOnly number at z) (sym (same m p k)) (subst (λ (z : TokenRefusal). of_tokens.AnswersOnly number at z) k a)
  err_place only place number at (inr (us, hus, is)) = subst (λ (z : ReadRefusal). AnswersOnly number at z) (sym (memory (only us hus))) tt
