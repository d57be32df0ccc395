-- The clauses of reading a setup statement, from those of its tokens and of its symbols.
use Rattle.std.proofs.Common.{◌≡◌, ℕ, List, [], ◌∷◌, length, Result, Ok, Err, refl, sym, ap, subst, ◌∙◌, append_assoc, inl, inr}
use Rattle.std.specs.Prelude.{IfOk, IfErr, MatchResult}
use Rattle.std.proofs.lemmas.List.{append-nil}
use Rattle.tsql_create.specs.declared.tree.CreateTree.{CreateTree}
use Rattle.tsql_tokens.specs.declared.token.Token.{Token}
use Rattle.tsql_tokens.specs.declared.token.TokenRefusal.{TokenRefusal}
use Rattle.tsql_tokens.specs.declared.token.TokenRefusal.TheVariants as by_token
use Rattle.tsql_tokens.specs.Tokens.{HasTokens, IsRefused, Refuses}
use Rattle.tsql_tokens.specs.Tokens as of_tokens
use Rattle.tsql_grammar.specs.Forms.{Symbols, Form}
use Rattle.tsql_grammar.specs.Places.{IsRefusedAt, to_end}
use Rattle.tsql_grammar.specs.Words.{symbols_of}
use Rattle.tsql_create.proofs.SetupLines.{create_laws}
use Rattle.tsql_grammar.proofs.Whole.{whole_ok, whole_only, whole_err, one_place}
use Rattle.tsql_exprs.specs.declared.refusal.ReadRefusal.{ReadRefusal}
use Rattle.tsql_exprs.specs.declared.refusal.ReadRefusal.TheVariants as refusal
use Rattle.tsql_exprs.specs.Refusals.{number_at, place_at, AnswersOnly}
use Rattle.tsql_create.specs.Setup.{create}
use Rattle.tsql_create.specs.Creates.{IsCreate, StopsAt, IsNoCreate, RefusesCreate, JudgesCreate}

-- a text that has a tree is refused nowhere
refused_none : {X : Type 0} (a : Form X) (ts rest : Symbols) (x : X) → IsRefusedAt a ts rest → a.Has ts x → ⊥
refused_none {X} a ts [] x (u, e, begins, stuck) has =
    stuck x (subst (λ (z : Symbols). a.Has z x) (e ∙ append-nil u) has)
refused_none {X} a ts (t ∷ rest) x (u, e, begins, stuck) has =
    stuck (rest, x, subst (λ (z : Symbols). a.Has z x) (e ∙ sym (append_assoc u (t ∷ []) rest)) has)

module _ (text : List ℕ) (ts : List Token) (has : HasTokens text ts) where
  pub ok_found : (r : Result CreateTree ReadRefusal) → JudgesCreate (length text) (symbols_of text ts) r (to_end ((create text).reads (symbols_of text ts))) → IfOk r (λ s. IsCreate text s)
  ok_found (Ok s) e = (ts, has, whole_ok (create text) (create_laws text) (symbols_of text ts) s e)
  ok_found (Err e) f = tt

  pub ok_only : ((others : List Token) → HasTokens text others → ts ≡ others) → (r : Result CreateTree ReadRefusal) → JudgesCreate (length text) (symbols_of text ts) r (to_end ((create text).reads (symbols_of text ts)))
      → (other : CreateTree) → IsCreate text other → MatchResult r (λ s. s ≡ other) (λ e. e ≡ refusal.Memory)
  ok_only only r f other (us, hus, hh) =
      go r f (subst (λ (z : List Token). to_end ((create text).reads (symbols_of text z)) ≡ Ok other) (sym (only us hus)) (whole_only (create text) (create_laws text) (symbols_of text us) other hh))
    where
      go : (r : Result CreateTree ReadRefusal) → JudgesCreate (length text) (symbols_of text ts) r (to_end ((create text).reads (symbols_of text ts))) → to_end ((create text).reads (symbols_of text ts)) ≡ Ok other
          → MatchResult r (λ s. s ≡ other) (λ e. e ≡ refusal.Memory)
      go (Ok s) e read = cc
      go (Err refusal.Memory) f read = refl
      go (Err (refusal.At number at)) (rest, e, en, ep) read = absurd cc

  pub ok_refused : (r : Result CreateTree ReadRefusal) → JudgesCreate (length text) (symbols_of text ts) r (to_end ((create text).reads (symbols_of text ts))) → IfErr r (λ e. RefusesCreate text e)
  ok_refused (Ok s) f = tt
  ok_refused (Err refusal.Memory) f = tt
  ok_refused (Err (refusal.At number at)) (rest, e, en, ep) =
      inr (ts, has, (rest, whole_err (create text) (create_laws text) (symbols_of text ts) rest e, en, ep))

  stops_place : (r : Result CreateTree ReadRefusal) → JudgesCreate (length text) (symbols_of text ts) r (to_end ((create text).reads (symbols_of text ts))) → (number at : ℕ) → StopsAt text (symbols_of text ts) number at
      → MatchResult r (λ s. ⊥) (λ e. AnswersOnly number at e)
  stops_place (Ok s) e number at (rest, is, en, ep) =
      refused_none (create text) (symbols_of text ts) rest s is (whole_ok (create text) (create_laws text) (symbols_of text ts) s e)
  stops_place (Err refusal.Memory) f number at is = tt
  stops_place (Err (refusal.At m p)) (here, e, em, ep) number at (rest, is, en, eq) =
      let same : here ≡ rest = one_place (create text) (symbols_of text ts) here rest (whole_err (create text) (create_laws text) (symbols_of text ts) here e) is in
      (em ∙ ap (number_at (symbols_of text ts)) same ∙ sym en, ep ∙ ap (place_at (length text)) same ∙ sym eq)

  pub ok_place : ((others : List Token) → HasTokens text others → ts ≡ others) → ((number at : ℕ) → IsRefused text number at → ⊥)
      → (r : Result CreateTree ReadRefusal) → JudgesCreate (length text) (symbols_of text ts) r (to_end ((create text).reads (symbols_of text ts))) → (number at : ℕ) → IsNoCreate text number at
      → MatchResult r (λ s. ⊥) (λ e. AnswersOnly number at e)
  ok_place only place r f number at (inl is) = absurd (place number at is)
  ok_place only place r f number at (inr (us, hus, is)) =
      stops_place r f number at (subst (λ (z : List Token). StopsAt text (symbols_of text z) number at) (sym (only us hus)) is)

-- ---- a text that is refused by its tokens

module _ (text : List ℕ) (e : TokenRefusal) (d : ReadRefusal)
    (same : (number at : ℕ) → e ≡ by_token.At number at → d ≡ refusal.At number at) (memory : e ≡ by_token.Memory → d ≡ refusal.Memory) where
  pub err_only : ((others : List Token) → HasTokens text others → e ≡ by_token.Memory) → (other : CreateTree) → IsCreate text other → d ≡ refusal.Memory
  err_only only other (us, hus, hh) = memory (only us hus)

  pub err_refused : Refuses text e → RefusesCreate text d
  err_refused h = go e refl h
    where
      go : (f : TokenRefusal) → e ≡ f → Refuses text e → RefusesCreate text d
      go by_token.Memory k r = subst (λ (z : ReadRefusal). RefusesCreate text z) (sym (memory k)) tt
      go (by_token.At number at) k r =
          subst (λ (z : ReadRefusal). RefusesCreate text z) (sym (same number at k)) (inl (subst (λ (z : TokenRefusal). Refuses text z) k r))

  pub err_place : ((others : List Token) → HasTokens text others → e ≡ by_token.Memory) → ((number at : ℕ) → IsRefused text number at → of_tokens.AnswersOnly number at e)
      → (number at : ℕ) → IsNoCreate text number at → AnswersOnly number at d
  err_place only place number at (inl is) = go e refl (place number at is)
    where
      go : (f : TokenRefusal) → e ≡ f → of_tokens.AnswersOnly number at e → AnswersOnly number at d
      go by_token.Memory k a = subst (λ (z : ReadRefusal). AnswersOnly number at z) (sym (memory k)) tt
      go (by_token.At m p) k a =
          subst (λ (z : ReadRefusal). AnswersOnly number at z) (sym (same m p k)) (subst (λ (z : TokenRefusal). of_tokens.AnswersOnly number at z) k a)
  err_place only place number at (inr (us, hus, is)) = subst (λ (z : ReadRefusal). AnswersOnly number at z) (sym (memory (only us hus))) tt
