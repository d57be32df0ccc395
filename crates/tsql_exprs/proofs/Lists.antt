-- Reading a form at most a number of times, as a loop does.
use Rattle.std.proofs.Common.{◌≡◌, ℕ, suc, List, [], ◌∷◌, ◌++◌, true, Result, Ok, Err, refl, sym, ap, subst, ◌∙◌, append_assoc}
use Rattle.std.specs.Prelude.{IsErrAnd}
use Rattle.tsql_exprs.specs.declared.error.ReadError.{ReadError}
use Rattle.tsql_exprs.specs.declared.error.ReadError.TheVariants as errors
use Rattle.tsql_exprs.specs.Steps.{Fails, Steps}
use Rattle.tsql_grammar.specs.declared.terminal.Terminal.{Terminal}
use Rattle.tsql_grammar.specs.Forms.{Symbols, Reading, ◌>>=◌, next_among, many_reads, with_front}
use Rattle.tsql_grammar.proofs.Laws.{gives, bind_of, bind_stop, if_true}
use Rattle.tsql_grammar.proofs.Many.{onto, no_more}

regroup : {X : Type 0} (front : List X) (x : X) (read : Reading (List X)) → with_front front (read >>= onto x) ≡ with_front (front ++ x ∷ []) read
regroup {X} front x (Ok r) = ap (λ (xs : List X). gives xs r.1) (sym (append_assoc front (x ∷ []) r.0))
regroup front x (Err e) = refl

abbrev and_more : {X : Type 0} → List Terminal → (Symbols → Reading X) → ℕ → X × Symbols → Reading (List X)
and_more first reads m x = many_reads first reads m x.1 >>= onto x.0

module _ {X : Type 0} (first : List Terminal) (reads : Symbols → Reading X) (front : List X) (ts : Symbols) (total : Reading (List X)) where
  step : (m : ℕ) (after : Symbols) (x : X) → next_among first ts ≡ true → reads ts ≡ Ok (x, after)
      → with_front front (many_reads first reads (suc m) ts) ≡ total → with_front (front ++ x ∷ []) (many_reads first reads m after) ≡ total
  step m after x b e so_far =
      sym (ap (with_front front) (if_true (next_among first ts) (reads ts >>= and_more first reads m) (no_more ts) b ∙ bind_of (reads ts) (and_more first reads m) (x, after) e)
      ∙ regroup front x (many_reads first reads m after)) ∙ so_far

  -- one more was read
  pub one_more : (n m : ℕ) (after : Symbols) (x : X) → n ≡ suc m → next_among first ts ≡ true → reads ts ≡ Ok (x, after)
      → with_front front (many_reads first reads n ts) ≡ total → with_front (front ++ x ∷ []) (many_reads first reads m after) ≡ total
  one_more n m after x is b e so_far = step m after x b e (subst (λ (k : ℕ). with_front front (many_reads first reads k ts) ≡ total) is so_far)

  fails : (e : ReadError) (m : ℕ) (rest : Symbols) → next_among first ts ≡ true → Fails e rest (reads ts)
      → with_front front (many_reads first reads (suc m) ts) ≡ total → Fails e rest total
  fails errors.Memory m rest b f so_far = tt
  fails errors.Stopped m rest b f so_far =
      sym so_far
      ∙ ap (with_front front) (if_true (next_among first ts) (reads ts >>= and_more first reads m) (no_more ts) b ∙ bind_stop (reads ts) (and_more first reads m) rest f)

  -- one more was not read
  pub not_one_more : (r : Result (List X) ReadError) (e : ReadError) (n m : ℕ) (rest : Symbols) → IsErrAnd r (λ d. d ≡ e) → n ≡ suc m
      → next_among first ts ≡ true → Fails e rest (reads ts) → with_front front (many_reads first reads n ts) ≡ total → Steps r rest total
  not_one_more (Ok x) e n m rest err is b f so_far = absurd err
  not_one_more (Err d) e n m rest err is b f so_far =
      subst (λ (z : ReadError). Fails z rest total) (sym err)
      (fails e m rest b f (subst (λ (k : ℕ). with_front front (many_reads first reads k ts) ≡ total) is so_far))
