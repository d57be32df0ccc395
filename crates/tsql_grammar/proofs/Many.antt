-- A form any number of times keeps the laws of reading.
use Rattle.std.proofs.Common.{◌≡◌, ℕ, zero, suc, ◌+◌, ◌<◌, ◌≤◌, Bool, true, false, List, [], ◌∷◌, ◌++◌, length, Ok, Err, refl, sym, ap, subst, ◌∙◌, append_assoc, arith, inl, inr}
use Rattle.std.specs.Prelude.{◌⊎◌, if◌then◌else◌}
use Rattle.std.proofs.lemmas.List.{append-nil, append_cancel_right, length-append}
use Rattle.tsql_grammar.specs.declared.terminal.Terminal.{Terminal}
use Rattle.tsql_grammar.specs.declared.terminal.Symbol.{Symbol}
use Rattle.tsql_grammar.specs.Terminals.{disjoint}
use Rattle.tsql_grammar.specs.Forms.{Symbols, Reading, ◌>>=◌, next_among, Form, ManyHas, many_reads, many}
use Rattle.tsql_grammar.proofs.Laws.{bind_ok, bind_err, bind_of, bind_stop, if_true, if_false, chosen, gives, out_is, next_append, next_append_same, next_neither, next_disjoint, nonempty, Laws}

abbrev pub onto : {X : Type 0} → X → List X × Symbols → Reading (List X)
onto x xs = Ok (x ∷ xs.0, xs.1)

abbrev pub and_more : {X : Type 0} → Form X → ℕ → X × Symbols → Reading (List X)
and_more a n x = many_reads a.first a.reads n x.1 >>= onto x.0

abbrev pub no_more : {X : Type 0} → Symbols → Reading (List X)
no_more ts = Ok ([], ts)

pub some_length : (ks : List Terminal) (u : Symbols) → next_among ks u ≡ true → 0 < length u
some_length ks [] e = absurd cc
some_length ks (t ∷ u) e = omega arith

module _ {X : Type 0} (a : Form X) (la : Laws a) (n : a.empty ≡ false) (d : disjoint a.first a.goes ≡ true) where
  many_begins : (ts : Symbols) (xs : List X) → ManyHas a ts xs → ((ts ≡ []) × (true ≡ true)) ⊎ (next_among a.first ts ≡ true)
  many_begins ts [] h = inl (h, refl)
  many_begins ts (x ∷ xs) h = inr (rw h.2 (next_append a.first h.0 h.1 (nonempty a la n h.0 x h.3)))

  many_sound : (k : ℕ) (ts rest : Symbols) (xs : List X) → many_reads a.first a.reads k ts ≡ Ok (xs, rest) → (u : Symbols) × (ts ≡ u ++ rest) × ManyHas a u xs
  many_sound zero ts rest xs e = let none : List X = [] in let o = out_is none xs ts rest e in ([], o.rest, subst (λ (z : List X). ManyHas a [] z) o.value refl)
  many_sound (suc k) ts rest xs e = go (λ us r ys h. many_sound k us r ys h) (chosen (next_among a.first ts) (a.reads ts >>= and_more a k) (no_more ts) (Ok (xs, rest)) e)
    where
      go : ((us r : Symbols) (ys : List X) → many_reads a.first a.reads k us ≡ Ok (ys, r) → (u : Symbols) × (us ≡ u ++ r) × ManyHas a u ys)
          → ((next_among a.first ts ≡ true) × ((a.reads ts >>= and_more a k) ≡ Ok (xs, rest))) ⊎ ((next_among a.first ts ≡ false) × (no_more {X = X} ts ≡ Ok (xs, rest)))
          → (u : Symbols) × (ts ≡ u ++ rest) × ManyHas a u xs
      go ih (inl p) =
          let q = bind_ok (a.reads ts) (and_more a k) (xs, rest) p.1 in
          let r = bind_ok (many_reads a.first a.reads k q.0.1) (onto q.0.0) (xs, rest) q.2 in
          let o = out_is (q.0.0 ∷ r.0.0) xs r.0.1 rest r.2 in
          let s = la.sound ts q.0.1 q.0.0 q.1 in
          let t = ih q.0.1 r.0.1 r.0.0 r.1 in (
            s.0 ++ t.0,
            s.1 ∙ ap (λ (z : Symbols). s.0 ++ z) (t.1 ∙ ap (λ (z : Symbols). t.0 ++ z) o.rest) ∙ sym (append_assoc s.0 t.0 rest),
            subst (λ (z : List X). ManyHas a (s.0 ++ t.0) z) o.value (s.0, t.0, refl, s.2, t.2),
          )
      go ih (inr p) = let none : List X = [] in let o = out_is none xs ts rest p.1 in ([], o.rest, subst (λ (z : List X). ManyHas a [] z) o.value refl)

  many_none : (k : ℕ) (rest : Symbols) → next_among a.first rest ≡ false → many_reads a.first a.reads k rest ≡ Ok ([], rest)
  many_none zero rest g = refl
  many_none (suc k) rest g = if_false (next_among a.first rest) (a.reads rest >>= and_more a k) (no_more rest) g

  many_goes : (u rest : Symbols) (xs : List X) → ManyHas a u xs → next_among a.goes rest ≡ false → next_among a.goes (u ++ rest) ≡ false
  many_goes u rest [] h g = rw h g
  many_goes u rest (x ∷ xs) h g = next_disjoint a.first a.goes (u ++ rest) d
      (next_append a.first u rest (rw h.2 (next_append a.first h.0 h.1 (nonempty a la n h.0 x h.3))))

  many_complete : (xs : List X) (k : ℕ) (u rest : Symbols) → length u ≤ k → ManyHas a u xs → next_among (a.first ++ a.goes) rest ≡ false → many_reads a.first a.reads k (u ++ rest) ≡ Ok (xs, rest)
  many_complete [] k u rest l h g = ap (λ (z : Symbols). many_reads a.first a.reads k (z ++ rest)) h ∙ many_none k rest (next_neither a.first a.goes rest g).0
  many_complete (x ∷ xs) zero u rest l h g =
      let some : 0 < length h.0 = some_length a.first h.0 (nonempty a la n h.0 x h.3) in
      let e : length u ≡ length h.0 + length h.1 = ap length h.2 ∙ length-append h.0 h.1 in
      absurd (omega arith)
  many_complete (x ∷ xs) (suc k) u rest l h g =
      let begins : next_among a.first h.0 ≡ true = nonempty a la n h.0 x h.3 in
      let some : 0 < length h.0 = some_length a.first h.0 begins in
      let e : length u ≡ length h.0 + length h.1 = ap length h.2 ∙ length-append h.0 h.1 in
      let split : u ++ rest ≡ h.0 ++ (h.1 ++ rest) = ap (λ (z : Symbols). z ++ rest) h.2 ∙ append_assoc h.0 h.1 rest in
      let fits : length h.1 ≤ k = omega arith in
      ap (many_reads a.first a.reads (suc k)) split
      ∙ if_true (next_among a.first (h.0 ++ (h.1 ++ rest))) (a.reads (h.0 ++ (h.1 ++ rest)) >>= and_more a k) (no_more (h.0 ++ (h.1 ++ rest))) (next_append a.first h.0 (h.1 ++ rest) begins)
      ∙ bind_of (a.reads (h.0 ++ (h.1 ++ rest))) (and_more a k) (x, h.1 ++ rest) (la.complete h.0 (h.1 ++ rest) x h.3 (many_goes h.1 rest xs h.4 (next_neither a.first a.goes rest g).1))
      ∙ bind_of (many_reads a.first a.reads k (h.1 ++ rest)) (onto x) (xs, rest) (many_complete xs k h.1 rest fits h.4 g)

  many_stops : (k : ℕ) (ts rest : Symbols) → many_reads a.first a.reads k ts ≡ Err rest → (u : Symbols) × (more : Symbols) × (xs : List X) × (ts ≡ u ++ rest) × ManyHas a (u ++ more) xs
  many_stops zero ts rest e = absurd cc
  many_stops (suc k) ts rest e = go (λ us r h. many_stops k us r h) (chosen (next_among a.first ts) (a.reads ts >>= and_more a k) (no_more ts) (Err rest) e)
    where
      go : ((us r : Symbols) → many_reads a.first a.reads k us ≡ Err r → (u : Symbols) × (more : Symbols) × (xs : List X) × (us ≡ u ++ r) × ManyHas a (u ++ more) xs)
          → ((next_among a.first ts ≡ true) × ((a.reads ts >>= and_more a k) ≡ Err rest)) ⊎ ((next_among a.first ts ≡ false) × (no_more {X = X} ts ≡ Err rest))
          → (u : Symbols) × (more : Symbols) × (xs : List X) × (ts ≡ u ++ rest) × ManyHas a (u ++ more) xs
      go ih (inl p) = elim (bind_err (a.reads ts) (and_more a k) rest p.1) [
        | inl q ↦ (let s = la.stops ts rest q in (s.0, s.1, s.2 ∷ [], s.3, (s.0 ++ s.1, [], sym (append-nil (s.0 ++ s.1)), s.4, refl)))
        | inr q ↦ elim (bind_err (many_reads a.first a.reads k q.0.1) (onto q.0.0) rest q.2) [
          | inl z ↦ (let s = la.sound ts q.0.1 q.0.0 q.1 in let t = ih q.0.1 rest z in
              (s.0 ++ t.0, t.1, q.0.0 ∷ t.2, s.1 ∙ ap (λ (r : Symbols). s.0 ++ r) t.3 ∙ sym (append_assoc s.0 t.0 rest), (s.0, t.0 ++ t.1, append_assoc s.0 t.0 t.1, s.2, t.4)))
          | inr z ↦ absurd (let y = z.2 in cc)
        ]
      ]
      go ih (inr p) = absurd (let y = p.1 in cc)

  -- what is left of what is before the token, after one of the form
  less : (u v w front after : Symbols) (t : Symbol) → next_among a.first front ≡ true → u ++ t ∷ v ≡ front ++ after → after ≡ w ++ t ∷ v → length w < length u
  less u v w front after t begins e r =
      let some : 0 < length front = some_length a.first front begins in
      let same : u ≡ front ++ w = append_cancel_right u (front ++ w) (t ∷ v) (e ∙ ap (λ (z : Symbols). front ++ z) r ∙ sym (append_assoc front w (t ∷ v))) in
      let l : length u ≡ length front + length w = ap length same ∙ length-append front w in
      omega arith

  many_near : (k m : ℕ) (u v w other rest : Symbols) (t : Symbol) (xs : List X) → length u < k → length u < m
      → many_reads a.first a.reads k (u ++ t ∷ v) ≡ Ok (xs, rest) → rest ≡ w ++ t ∷ v → many_reads a.first a.reads m (u ++ t ∷ other) ≡ Ok (xs, w ++ t ∷ other)
  many_near zero m u v w other rest t xs lk lm e r = absurd (omega arith)
  many_near (suc k) zero u v w other rest t xs lk lm e r = absurd (omega arith)
  many_near (suc k) (suc m) u v w other rest t xs lk lm e r =
      go (λ u' w' rest' ys lk' lm' e' r'. many_near k m u' v w' other rest' t ys lk' lm' e' r') (chosen (next_among a.first (u ++ t ∷ v)) (a.reads (u ++ t ∷ v) >>= and_more a k) (no_more (u ++ t ∷ v)) (Ok (xs, rest)) e)
    where
      go : ((u' w' rest' : Symbols) (ys : List X) → length u' < k → length u' < m → many_reads a.first a.reads k (u' ++ t ∷ v) ≡ Ok (ys, rest') → rest' ≡ w' ++ t ∷ v → many_reads a.first a.reads m (u' ++ t ∷ other) ≡ Ok (ys, w' ++ t ∷ other))
          → ((next_among a.first (u ++ t ∷ v) ≡ true) × ((a.reads (u ++ t ∷ v) >>= and_more a k) ≡ Ok (xs, rest))) ⊎ ((next_among a.first (u ++ t ∷ v) ≡ false) × (no_more {X = X} (u ++ t ∷ v) ≡ Ok (xs, rest)))
          → many_reads a.first a.reads (suc m) (u ++ t ∷ other) ≡ Ok (xs, w ++ t ∷ other)
      go ih (inl p) =
          let q = bind_ok (a.reads (u ++ t ∷ v)) (and_more a k) (xs, rest) p.1 in
          let z = bind_ok (many_reads a.first a.reads k q.0.1) (onto q.0.0) (xs, rest) q.2 in
          let o = out_is (q.0.0 ∷ z.0.0) xs z.0.1 rest z.2 in
          let one = la.sound (u ++ t ∷ v) q.0.1 q.0.0 q.1 in
          let s = many_sound k q.0.1 z.0.1 z.0.0 z.1 in
          let ends : z.0.1 ≡ w ++ t ∷ v = o.rest ∙ r in
          let mid : q.0.1 ≡ (s.0 ++ w) ++ t ∷ v = s.1 ∙ ap (λ (r : Symbols). s.0 ++ r) ends ∙ sym (append_assoc s.0 w (t ∷ v)) in
          let first : a.reads (u ++ t ∷ other) ≡ Ok (q.0.0, (s.0 ++ w) ++ t ∷ other) = la.near u v (s.0 ++ w) other q.0.1 t q.0.0 q.1 mid in
          let was : many_reads a.first a.reads k ((s.0 ++ w) ++ t ∷ v) ≡ Ok (z.0.0, z.0.1) = ap (many_reads a.first a.reads k) (sym mid) ∙ z.1 in
          let shorter : length (s.0 ++ w) < length u = less u v (s.0 ++ w) one.0 q.0.1 t (nonempty a la n one.0 q.0.0 one.2) one.1 mid in
          let l1 : length (s.0 ++ w) < k = omega arith in
          let l2 : length (s.0 ++ w) < m = omega arith in
          let second : many_reads a.first a.reads m ((s.0 ++ w) ++ t ∷ other) ≡ Ok (z.0.0, w ++ t ∷ other) = ih (s.0 ++ w) w z.0.1 z.0.0 l1 l2 was ends in
          if_true (next_among a.first (u ++ t ∷ other)) (a.reads (u ++ t ∷ other) >>= and_more a m) (no_more (u ++ t ∷ other)) (next_append_same a.first u other v t ∙ p.0)
          ∙ bind_of (a.reads (u ++ t ∷ other)) (and_more a m) (q.0.0, (s.0 ++ w) ++ t ∷ other) first
          ∙ bind_of (many_reads a.first a.reads m ((s.0 ++ w) ++ t ∷ other)) (onto q.0.0) (z.0.0, w ++ t ∷ other) second
          ∙ ap (λ (y : List X). gives y (w ++ t ∷ other)) o.value
      go ih (inr p) =
          let none : List X = [] in let o = out_is none xs (u ++ t ∷ v) rest p.1 in
          let f : u ≡ w = append_cancel_right u w (t ∷ v) (o.rest ∙ r) in
          if_false (next_among a.first (u ++ t ∷ other)) (a.reads (u ++ t ∷ other) >>= and_more a m) (no_more (u ++ t ∷ other)) (next_append_same a.first u other v t ∙ p.0)
          ∙ ap (λ (y : List X). gives y (u ++ t ∷ other)) o.value ∙ ap (λ (y : Symbols). gives xs (y ++ t ∷ other)) f

  many_far : (k m : ℕ) (u v w other rest : Symbols) (t : Symbol) → length u < k → length u < m
      → many_reads a.first a.reads k (u ++ t ∷ v) ≡ Err rest → rest ≡ w ++ t ∷ v → many_reads a.first a.reads m (u ++ t ∷ other) ≡ Err (w ++ t ∷ other)
  many_far zero m u v w other rest t lk lm e r = absurd (omega arith)
  many_far (suc k) zero u v w other rest t lk lm e r = absurd (omega arith)
  many_far (suc k) (suc m) u v w other rest t lk lm e r =
      go (λ u' w' rest' lk' lm' e' r'. many_far k m u' v w' other rest' t lk' lm' e' r') (chosen (next_among a.first (u ++ t ∷ v)) (a.reads (u ++ t ∷ v) >>= and_more a k) (no_more (u ++ t ∷ v)) (Err rest) e)
    where
      go : ((u' w' rest' : Symbols) → length u' < k → length u' < m → many_reads a.first a.reads k (u' ++ t ∷ v) ≡ Err rest' → rest' ≡ w' ++ t ∷ v → many_reads a.first a.reads m (u' ++ t ∷ other) ≡ Err (w' ++ t ∷ other))
          → ((next_among a.first (u ++ t ∷ v) ≡ true) × ((a.reads (u ++ t ∷ v) >>= and_more a k) ≡ Err rest)) ⊎ ((next_among a.first (u ++ t ∷ v) ≡ false) × (no_more {X = X} (u ++ t ∷ v) ≡ Err rest))
          → many_reads a.first a.reads (suc m) (u ++ t ∷ other) ≡ Err (w ++ t ∷ other)
      go ih (inl p) =
          if_true (next_among a.first (u ++ t ∷ other)) (a.reads (u ++ t ∷ other) >>= and_more a m) (no_more (u ++ t ∷ other)) (next_append_same a.first u other v t ∙ p.0)
          ∙ elim (bind_err (a.reads (u ++ t ∷ v)) (and_more a k) rest p.1) [
            | inl q ↦ bind_stop (a.reads (u ++ t ∷ other)) (and_more a m) (w ++ t ∷ other) (la.far u v w other rest t q r)
            | inr q ↦ elim (bind_err (many_reads a.first a.reads k q.0.1) (onto q.0.0) rest q.2) [
              | inl z ↦ (let one = la.sound (u ++ t ∷ v) q.0.1 q.0.0 q.1 in
                  let s = many_stops k q.0.1 rest z in
                  let mid : q.0.1 ≡ (s.0 ++ w) ++ t ∷ v = s.3 ∙ ap (λ (r : Symbols). s.0 ++ r) r ∙ sym (append_assoc s.0 w (t ∷ v)) in
                  let first : a.reads (u ++ t ∷ other) ≡ Ok (q.0.0, (s.0 ++ w) ++ t ∷ other) = la.near u v (s.0 ++ w) other q.0.1 t q.0.0 q.1 mid in
                  let was : many_reads a.first a.reads k ((s.0 ++ w) ++ t ∷ v) ≡ Err rest = ap (many_reads a.first a.reads k) (sym mid) ∙ z in
                  let shorter : length (s.0 ++ w) < length u = less u v (s.0 ++ w) one.0 q.0.1 t (nonempty a la n one.0 q.0.0 one.2) one.1 mid in
                  let l1 : length (s.0 ++ w) < k = omega arith in
                  let l2 : length (s.0 ++ w) < m = omega arith in
                  bind_of (a.reads (u ++ t ∷ other)) (and_more a m) (q.0.0, (s.0 ++ w) ++ t ∷ other) first
                  ∙ bind_stop (many_reads a.first a.reads m ((s.0 ++ w) ++ t ∷ other)) (onto q.0.0) (w ++ t ∷ other) (ih (s.0 ++ w) w rest l1 l2 was r))
              | inr z ↦ absurd (let y = z.2 in cc)
            ]
          ]
      go ih (inr p) = absurd (let y = p.1 in cc)

  longer : (u v : Symbols) (t : Symbol) → length u < length (u ++ t ∷ v)
  longer u v t = omega (arith, length-append u (t ∷ v))

  shorter : (u v : Symbols) → length u ≤ length (u ++ v)
  shorter u v = omega (arith, length-append u v)

  pub many_laws : Laws (many a)
  many_laws = record {
    some = ([], [], refl);
    begins = λ ts xs h. many_begins ts xs h;
    sound = λ ts rest xs e. many_sound (length ts) ts rest xs e;
    complete = λ u rest xs h g. many_complete xs (length (u ++ rest)) u rest (shorter u rest) h g;
    stops = λ ts rest e. many_stops (length ts) ts rest e;
    near = λ u v w other rest t xs e r. many_near (length (u ++ t ∷ v)) (length (u ++ t ∷ other)) u v w other rest t xs (longer u v t) (longer u other t) e r;
    far = λ u v w other rest t e r. many_far (length (u ++ t ∷ v)) (length (u ++ t ∷ other)) u v w other rest t (longer u v t) (longer u other t) e r;
  }

  many_fuel : (k m : ℕ) (ts : Symbols) → length ts ≤ k → length ts ≤ m → many_reads a.first a.reads k ts ≡ many_reads a.first a.reads m ts
  many_fuel zero m [] lk lm = sym (many_none m [] refl)
  many_fuel zero m (t ∷ ts) lk lm = absurd (omega arith)
  many_fuel (suc k) zero [] lk lm = refl
  many_fuel (suc k) zero (t ∷ ts) lk lm = absurd (omega arith)
  many_fuel (suc k) (suc m) ts lk lm = split (λ us h i. many_fuel k m us h i) (next_among a.first ts) refl
    where
      reading : ((us : Symbols) → length us ≤ k → length us ≤ m → many_reads a.first a.reads k us ≡ many_reads a.first a.reads m us) → next_among a.first ts ≡ true → (r : Reading X) → a.reads ts ≡ r → (r >>= and_more a k) ≡ (r >>= and_more a m)
      reading ih b (Ok (x, after)) e =
          let s = la.sound ts after x e in
          let some : 0 < length s.0 = some_length a.first s.0 (nonempty a la n s.0 x s.2) in
          let l : length ts ≡ length s.0 + length after = ap length s.1 ∙ length-append s.0 after in
          let l1 : length after ≤ k = omega arith in
          let l2 : length after ≤ m = omega arith in
          ap (λ (r : Reading (List X)). r >>= onto x) (ih after l1 l2)
      reading ih b (Err d) e = refl

      split : ((us : Symbols) → length us ≤ k → length us ≤ m → many_reads a.first a.reads k us ≡ many_reads a.first a.reads m us) → (b : Bool) → next_among a.first ts ≡ b
          → (if b then (a.reads ts >>= and_more a k) else no_more ts) ≡ (if b then (a.reads ts >>= and_more a m) else no_more ts)
      split ih true b = reading ih b (a.reads ts) refl
      split ih false b = refl

  -- one more of the form, and then the others
  pub many_step : (ts after : Symbols) (x : X) → next_among a.first ts ≡ true → a.reads ts ≡ Ok (x, after) → (many a).reads ts ≡ ((many a).reads after >>= onto x)
  many_step [] after x b e = absurd cc
  many_step (t ∷ ts) after x b e =
      let s = la.sound (t ∷ ts) after x e in
      let some : 0 < length s.0 = some_length a.first s.0 (nonempty a la n s.0 x s.2) in
      let l : length (t ∷ ts) ≡ length s.0 + length after = ap length s.1 ∙ length-append s.0 after in
      let l1 : length after ≤ length ts = omega arith in
      let l2 : length after ≤ length after = omega arith in
      if_true (next_among a.first (t ∷ ts)) (a.reads (t ∷ ts) >>= and_more a (length ts)) (no_more (t ∷ ts)) b
      ∙ bind_of (a.reads (t ∷ ts)) (and_more a (length ts)) (x, after) e
      ∙ ap (λ (r : Reading (List X)). r >>= onto x) (many_fuel (length ts) (length after) after l1 l2)

  pub many_fails : (ts rest : Symbols) → next_among a.first ts ≡ true → a.reads ts ≡ Err rest → (many a).reads ts ≡ Err rest
  many_fails [] rest b e = absurd cc
  many_fails (t ∷ ts) rest b e =
      if_true (next_among a.first (t ∷ ts)) (a.reads (t ∷ ts) >>= and_more a (length ts)) (no_more (t ∷ ts)) b
      ∙ bind_stop (a.reads (t ∷ ts)) (and_more a (length ts)) rest e

  pub many_ends : (ts : Symbols) → next_among a.first ts ≡ false → (many a).reads ts ≡ Ok ([], ts)
  many_ends ts b = many_none (length ts) ts b

  -- where one begins there is one
  pub many_some : (ts rest : Symbols) (xs : List X) → next_among a.first ts ≡ true → (many a).reads ts ≡ Ok (xs, rest) → (y : X) × (ys : List X) × (xs ≡ y ∷ ys)
  many_some [] rest xs b e = absurd cc
  many_some (t ∷ ts) rest xs b e =
      let r : (a.reads (t ∷ ts) >>= and_more a (length ts)) ≡ Ok (xs, rest) = sym (if_true (next_among a.first (t ∷ ts)) (a.reads (t ∷ ts) >>= and_more a (length ts)) (no_more (t ∷ ts)) b) ∙ e in
      let p = bind_ok (a.reads (t ∷ ts)) (and_more a (length ts)) (xs, rest) r in
      let q = bind_ok (many_reads a.first a.reads (length ts) p.0.1) (onto p.0.0) (xs, rest) p.2 in
      let o = out_is (p.0.0 ∷ q.0.0) xs q.0.1 rest q.2 in
      (p.0.0, q.0.0, sym o.value)
