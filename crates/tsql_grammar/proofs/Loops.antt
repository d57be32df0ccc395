-- Reading a form again and again, as a loop does.
use Rattle.std.proofs.Common.{◌≡◌, ◌+◌, ◌<◌, length, arith, Bool, true, false, List, [], ◌∷◌, ◌++◌, Ok, Err, refl, sym, ap, ◌∙◌, append_assoc}
use Rattle.std.specs.Prelude.{not}
use Rattle.std.proofs.lemmas.List.{append-nil, length-append}
use Rattle.tsql_grammar.specs.declared.terminal.Terminal.TheVariants as terminal
use Rattle.tsql_grammar.specs.declared.terminal.Symbol.{Symbol}
use Rattle.tsql_grammar.specs.Terminals.{disjoint}
use Rattle.tsql_grammar.specs.Forms.{Symbols, Reading, ◌>>=◌, next_among, Form, many, with_front}
use Rattle.tsql_grammar.specs.Values.{is_odd}
use Rattle.tsql_grammar.specs.Grammar.{word, nots}
use Rattle.tsql_grammar.proofs.Laws.{Laws, gives, nonempty}
use Rattle.tsql_grammar.proofs.Many.{some_length, onto, many_step, many_ends}
use Rattle.tsql_grammar.proofs.Makers.{word_laws}

regroup : {X : Type 0} (front : List X) (x : X) (read : Reading (List X)) → with_front front (read >>= onto x) ≡ with_front (front ++ x ∷ []) read
regroup {X} front x (Ok r) = ap (λ (xs : List X). gives xs r.1) (sym (append_assoc front (x ∷ []) r.0))
regroup front x (Err e) = refl

module _ {X : Type 0} (a : Form X) (la : Laws a) (n : a.empty ≡ false) (d : disjoint a.first a.goes ≡ true) where
  pub goes_on : (front : List X) (ts after : Symbols) (x : X) (total : Reading (List X)) → next_among a.first ts ≡ true → a.reads ts ≡ Ok (x, after)
      → with_front front ((many a).reads ts) ≡ total → with_front (front ++ x ∷ []) ((many a).reads after) ≡ total
  goes_on front ts after x total b e so_far =
      sym (ap (with_front front) (many_step a la n d ts after x b e) ∙ regroup front x ((many a).reads after)) ∙ so_far

  pub is_done : (front : List X) (ts : Symbols) (total : Reading (List X)) → next_among a.first ts ≡ false → with_front front ((many a).reads ts) ≡ total → total ≡ Ok (front, ts)
  is_done front ts total b so_far = sym so_far ∙ ap (with_front front) (many_ends a la n d ts b) ∙ ap (λ (xs : List X). gives xs ts) (append-nil front)

  -- what is read is not nothing
  pub shorter : (ts after : Symbols) (x : X) → a.reads ts ≡ Ok (x, after) → length after < length ts
  shorter ts after x e =
      let s = la.sound ts after x e in
      let some : 0 < length s.0 = some_length a.first s.0 (nonempty a la n s.0 x s.2) in
      let whole : length ts ≡ length s.0 + length after = ap length s.1 ∙ length-append s.0 after in
      omega arith

-- ---- a run of NOT

abbrev pub flip : Bool → Bool → Bool
flip false b = b
flip true b = not b

abbrev pub odd_from : Bool → Reading Symbols → Reading Bool
odd_from odd read = read >>= λ x. Ok (flip odd (is_odd x.0), x.1)

flip_once : (odd b : Bool) → flip odd (not b) ≡ flip (not odd) b
flip_once false b = refl
flip_once true false = refl
flip_once true true = refl

flip_none : (odd : Bool) → flip odd false ≡ odd
flip_none false = refl
flip_none true = refl

odd_more : (odd : Bool) (t : Symbol) (read : Reading Symbols) → odd_from odd (read >>= onto t) ≡ odd_from (not odd) read
odd_more odd t (Ok r) = ap (λ (b : Bool). gives b r.1) (flip_once odd (is_odd r.0))
odd_more odd t (Err e) = refl

pub not_goes_on : (odd : Bool) (t : Symbol) (next : Symbols) (total : Reading Bool) → next_among (terminal.Not ∷ []) (t ∷ next) ≡ true
    → odd_from odd ((many (word terminal.Not)).reads (t ∷ next)) ≡ total → odd_from (not odd) ((many (word terminal.Not)).reads next) ≡ total
not_goes_on odd t next total b so_far =
    let one : (word terminal.Not).reads (t ∷ next) ≡ Ok (t, next) = rw b refl in
    sym (ap (odd_from odd) (many_step (word terminal.Not) (word_laws terminal.Not refl) refl refl (t ∷ next) next t b one) ∙ odd_more odd t ((many (word terminal.Not)).reads next)) ∙ so_far

pub not_is_done : (odd : Bool) (rest : Symbols) (total : Reading Bool) → next_among (terminal.Not ∷ []) rest ≡ false
    → odd_from odd ((many (word terminal.Not)).reads rest) ≡ total → total ≡ Ok (odd, rest)
not_is_done odd rest total b so_far =
    sym so_far ∙ ap (odd_from odd) (many_ends (word terminal.Not) (word_laws terminal.Not refl) refl refl rest b) ∙ ap (λ (b : Bool). gives b rest) (flip_none odd)

pub nots_begin : (ts : Symbols) → odd_from false ((many (word terminal.Not)).reads ts) ≡ nots.reads ts
unfolding nots
nots_begin ts = refl
