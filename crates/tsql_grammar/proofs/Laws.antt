-- Each way to make forms keeps the laws of reading.
use Rattle.std.proofs.Common.{◌≡◌, ◌+◌, Bool, true, false, List, [], ◌∷◌, ◌++◌, length, Option, Some, None, Result, Ok, Err, refl, sym, ap, subst, ◌∙◌, append_assoc, arith, inl, inr}
use Rattle.std.specs.Prelude.{◌⊎◌, ◌&&◌, ◌||◌, if◌then◌else◌}
use Rattle.std.proofs.lemmas.List.{append_cancel_right, length-append}
use Rattle.std.proofs.lemmas.Bool.{eqb-true}
use Rattle.tsql_grammar.specs.declared.terminal.Terminal.{Terminal}
use Rattle.tsql_grammar.specs.declared.terminal.Symbol.{Symbol}
use Rattle.tsql_grammar.specs.Terminals.{code, among, same, disjoint}
use Rattle.tsql_grammar.specs.Forms.{Symbols, Reading, ◌>>=◌, next_among, Form, token_reads, token, mapped, seq, either, OptionalHas, optional}

-- ---- tools

pub bind_ok : {A B : Type 0} (r : Reading A) (f : A × Symbols → Reading B) (y : B × Symbols) → (r >>= f) ≡ Ok y → (x : A × Symbols) × (r ≡ Ok x) × (f x ≡ Ok y)
bind_ok (Ok x) f y e = (x, refl, e)
bind_ok (Err d) f y e = absurd cc

pub bind_err : {A B : Type 0} (r : Reading A) (f : A × Symbols → Reading B) (d : Symbols) → (r >>= f) ≡ Err d → (r ≡ Err d) ⊎ ((x : A × Symbols) × (r ≡ Ok x) × (f x ≡ Err d))
bind_err (Ok x) f d e = inr (x, refl, e)
bind_err (Err c) f d e = inl cc

pub bind_of : {A B : Type 0} (r : Reading A) (f : A × Symbols → Reading B) (x : A × Symbols) → r ≡ Ok x → (r >>= f) ≡ f x
bind_of {A} r f x e = ap (λ (s : Reading A). s >>= f) e

pub bind_stop : {A B : Type 0} (r : Reading A) (f : A × Symbols → Reading B) (d : Symbols) → r ≡ Err d → (r >>= f) ≡ Err d
bind_stop {A} r f d e = ap (λ (s : Reading A). s >>= f) e

pub if_true : {A : Type 0} (b : Bool) (x y : A) → b ≡ true → (if b then x else y) ≡ x
if_true true x y e = refl
if_true false x y e = absurd cc

pub if_false : {A : Type 0} (b : Bool) (x y : A) → b ≡ false → (if b then x else y) ≡ y
if_false true x y e = absurd cc
if_false false x y e = refl

or_false : (b c : Bool) → (b || c) ≡ false → (b ≡ false) × (c ≡ false)
or_false true c e = absurd cc
or_false false c e = (refl, e)

or_mono : (b c d : Bool) → (c ≡ true → d ≡ true) → (b || c) ≡ true → (b || d) ≡ true
or_mono true c d f h = refl
or_mono false c d f h = f h

or_right : (b c : Bool) → c ≡ true → (b || c) ≡ true
or_right true c e = refl
or_right false c e = e

pub chosen : {A : Type 0} (b : Bool) (x y z : A) → (if b then x else y) ≡ z → ((b ≡ true) × (x ≡ z)) ⊎ ((b ≡ false) × (y ≡ z))
chosen true x y z e = inl (refl, e)
chosen false x y z e = inr (refl, e)

abbrev done : {A : Type 0} → A → Result A Symbols
done x = Ok x

pub ok_is : {A : Type 0} (x y : A) → done x ≡ done y → x ≡ y
ok_is x y e = cc

abbrev failed : {A : Type 0} → Symbols → Result A Symbols
failed x = Err x

pub err_is : {A : Type 0} (x y : Symbols) → failed {A = A} x ≡ failed y → x ≡ y
err_is x y e = cc

abbrev pub gives : {A : Type 0} → A → Symbols → Reading A
gives x xs = Ok (x, xs)

abbrev pub stopped : {A : Type 0} → Symbols → Reading A
stopped xs = Err xs

-- what came out
pub record Out {A : Type 0} (x : A) (xs : Symbols) (y : A) (ys : Symbols) : Type 0 where
  pub value : x ≡ y
  pub rest : xs ≡ ys

pub out_is : {A : Type 0} (x y : A) (xs ys : Symbols) → gives x xs ≡ gives y ys → Out x xs y ys
out_is {A} x y xs ys e =
    let p = (let x2 : A × Symbols = (x, xs) in let y2 : A × Symbols = (y, ys) in ok_is x2 y2 e) in
    record { value = ap (λ (q : A × Symbols). q.0) p; rest = ap (λ (q : A × Symbols). q.1) p }

pub next_append : (ks : List Terminal) (u v : Symbols) → next_among ks u ≡ true → next_among ks (u ++ v) ≡ true
next_append ks [] v e = absurd cc
next_append ks (t ∷ u) v e = e

pub next_append_same : (ks : List Terminal) (u v w : Symbols) (t : Symbol) → next_among ks (u ++ t ∷ v) ≡ next_among ks (u ++ t ∷ w)
next_append_same ks [] v w t = refl
next_append_same ks (s ∷ u) v w t = refl

-- ---- kinds

among_left : (k : Terminal) (ks ls : List Terminal) → among k ks ≡ true → among k (ks ++ ls) ≡ true
among_left k [] ls e = absurd cc
among_left k (l ∷ ks) ls e = or_mono (same k l) (among k ks) (among k (ks ++ ls)) (λ h. among_left k ks ls h) e

among_right : (k : Terminal) (ks ls : List Terminal) → among k ls ≡ true → among k (ks ++ ls) ≡ true
among_right k [] ls e = e
among_right k (l ∷ ks) ls e = or_right (same k l) (among k (ks ++ ls)) (among_right k ks ls e)

among_neither : (k : Terminal) (ks ls : List Terminal) → among k (ks ++ ls) ≡ false → (among k ks ≡ false) × (among k ls ≡ false)
among_neither k [] ls e = (refl, e)
among_neither k (l ∷ ks) ls e =
    let o = or_false (same k l) (among k (ks ++ ls)) e in
    let n = among_neither k ks ls o.1 in
    (rw (o.0, n.0) refl, n.1)

pub same_code : (a b : Terminal) → same a b ≡ true → code a ≡ code b
same_code a b e = eqb-true (code a) (code b) e

pub among_same : (a b : Terminal) (ks : List Terminal) → code a ≡ code b → among a ks ≡ among b ks
among_same a b [] e = refl
among_same a b (k ∷ ks) e = rw (e, among_same a b ks e) refl

pub disjoint_among : (ks ls : List Terminal) (k : Terminal) → disjoint ks ls ≡ true → among k ks ≡ true → among k ls ≡ false
disjoint_among [] ls k d e = absurd cc
disjoint_among (j ∷ ks) ls k d e = split (λ rest h. disjoint_among ks ls k rest h) (chosen (among j ls) false (disjoint ks ls) true d)
  where
    here : (b : Bool) → (disjoint ks ls ≡ true → among k ks ≡ true → among k ls ≡ false) → same k j ≡ b → (b || among k ks) ≡ true → among j ls ≡ false → disjoint ks ls ≡ true → among k ls ≡ false
    here true ih s h f rest = among_same k j ls (same_code k j s) ∙ f
    here false ih s h f rest = ih rest h

    split : (disjoint ks ls ≡ true → among k ks ≡ true → among k ls ≡ false) → ((among j ls ≡ true) × (false ≡ true)) ⊎ ((among j ls ≡ false) × (disjoint ks ls ≡ true)) → among k ls ≡ false
    split ih (inl p) = absurd (let f = p.1 in cc)
    split ih (inr p) = here (same k j) ih refl e p.0 p.1

pub next_left : (ks ls : List Terminal) (ts : Symbols) → next_among ks ts ≡ true → next_among (ks ++ ls) ts ≡ true
next_left ks ls [] e = absurd cc
next_left ks ls (t ∷ ts) e = among_left t.terminal ks ls e

pub next_right : (ks ls : List Terminal) (ts : Symbols) → next_among ls ts ≡ true → next_among (ks ++ ls) ts ≡ true
next_right ks ls [] e = absurd cc
next_right ks ls (t ∷ ts) e = among_right t.terminal ks ls e

pub next_neither : (ks ls : List Terminal) (ts : Symbols) → next_among (ks ++ ls) ts ≡ false → (next_among ks ts ≡ false) × (next_among ls ts ≡ false)
next_neither ks ls [] e = (refl, refl)
next_neither ks ls (t ∷ ts) e = among_neither t.terminal ks ls e

pub next_disjoint : (ks ls : List Terminal) (ts : Symbols) → disjoint ks ls ≡ true → next_among ks ts ≡ true → next_among ls ts ≡ false
next_disjoint ks ls [] d e = absurd cc
next_disjoint ks ls (t ∷ ts) d e = disjoint_among ks ls t.terminal d e

-- ---- the laws

pub record Laws {X : Type 0} (a : Form X) : Type 0 where
  -- it has a text
  pub some : (ts : Symbols) × (x : X) × a.Has ts x
  pub begins : (ts : Symbols) (x : X) → a.Has ts x → ((ts ≡ []) × (a.empty ≡ true)) ⊎ (next_among a.first ts ≡ true)
  -- what is read is the form's
  pub sound : (ts rest : Symbols) (x : X) → a.reads ts ≡ Ok (x, rest) → (u : Symbols) × (ts ≡ u ++ rest) × a.Has u x
  -- what is the form's is read, where the next token does not go on with it
  pub complete : (u rest : Symbols) (x : X) → a.Has u x → next_among a.goes rest ≡ false → a.reads (u ++ rest) ≡ Ok (x, rest)
  -- where it stops, what is before it begins a text of the form
  pub stops : (ts rest : Symbols) → a.reads ts ≡ Err rest → (u : Symbols) × (more : Symbols) × (x : X) × (ts ≡ u ++ rest) × a.Has (u ++ more) x
  -- no token after the next one is looked at
  pub near : (u v w other rest : Symbols) (t : Symbol) (x : X) → a.reads (u ++ t ∷ v) ≡ Ok (x, rest) → rest ≡ w ++ t ∷ v → a.reads (u ++ t ∷ other) ≡ Ok (x, w ++ t ∷ other)
  pub far : (u v w other rest : Symbols) (t : Symbol) → a.reads (u ++ t ∷ v) ≡ Err rest → rest ≡ w ++ t ∷ v → a.reads (u ++ t ∷ other) ≡ Err (w ++ t ∷ other)

-- ---- one token

pub too_long : (w v : Symbols) (t : Symbol) → v ≡ w ++ t ∷ v → ⊥
too_long w v t e =
    let l : length v ≡ length w + length (t ∷ v) = ap length e ∙ length-append w (t ∷ v) in
    omega arith

token_sound : (ks : List Terminal) (ts rest : Symbols) (x : Symbol) → token_reads ks ts ≡ Ok (x, rest) → (u : Symbols) × (ts ≡ u ++ rest) × ((u ≡ x ∷ []) × (among x.terminal ks ≡ true))
token_sound ks [] rest x e = absurd cc
token_sound ks (t ∷ ts) rest x e = go (chosen (among t.terminal ks) (gives t (ts)) (stopped (t ∷ ts)) (gives x rest) e)
  where
    go : ((among t.terminal ks ≡ true) × (gives t ts ≡ gives x rest)) ⊎ ((among t.terminal ks ≡ false) × (stopped (t ∷ ts) ≡ gives x rest)) → (u : Symbols) × (t ∷ ts ≡ u ++ rest) × ((u ≡ x ∷ []) × (among x.terminal ks ≡ true))
    go (inl p) = let o = out_is t x ts rest p.1 in (t ∷ [], ap (λ (r : Symbols). t ∷ r) o.rest, (ap (λ (s : Symbol). s ∷ []) o.value, ap (λ (s : Symbol). among s.terminal ks) (sym o.value) ∙ p.0))
    go (inr p) = absurd (let f = p.1 in cc)

token_complete : (ks : List Terminal) (u rest : Symbols) (x : Symbol) → (u ≡ x ∷ []) × (among x.terminal ks ≡ true) → token_reads ks (u ++ rest) ≡ Ok (x, rest)
token_complete ks u rest x h = rw (h.0, h.1) refl

token_stops : (ks : List Terminal) (some : Symbol) (ts rest : Symbols) → among some.terminal ks ≡ true → token_reads ks ts ≡ Err rest → ts ≡ rest
token_stops ks some [] rest h e = err_is [] rest e
token_stops ks some (t ∷ ts) rest h e = go (chosen (among t.terminal ks) (gives t (ts)) (stopped (t ∷ ts)) (stopped rest) e)
  where
    go : ((among t.terminal ks ≡ true) × (gives t ts ≡ stopped rest)) ⊎ ((among t.terminal ks ≡ false) × (stopped {A = Symbol} (t ∷ ts) ≡ stopped rest)) → t ∷ ts ≡ rest
    go (inl p) = absurd (let f = p.1 in cc)
    go (inr p) = err_is (t ∷ ts) rest p.1

token_near : (ks : List Terminal) (u v w other rest : Symbols) (t : Symbol) (x : Symbol) → token_reads ks (u ++ t ∷ v) ≡ Ok (x, rest) → rest ≡ w ++ t ∷ v → token_reads ks (u ++ t ∷ other) ≡ Ok (x, w ++ t ∷ other)
token_near ks [] v w other rest t x e r = go (chosen (among t.terminal ks) (gives t (v)) (stopped (t ∷ v)) (gives x rest) e)
  where
    go : ((among t.terminal ks ≡ true) × (gives t v ≡ gives x rest)) ⊎ ((among t.terminal ks ≡ false) × (stopped (t ∷ v) ≡ gives x rest)) → token_reads ks (t ∷ other) ≡ Ok (x, w ++ t ∷ other)
    go (inl p) = absurd (too_long w v t ((out_is t x v rest p.1).rest ∙ r))
    go (inr p) = absurd (let f = p.1 in cc)
token_near ks (s ∷ u) v w other rest t x e r = go (chosen (among s.terminal ks) (gives s (u ++ t ∷ v)) (stopped (s ∷ (u ++ t ∷ v))) (gives x rest) e)
  where
    go : ((among s.terminal ks ≡ true) × (gives s (u ++ t ∷ v) ≡ gives x rest)) ⊎ ((among s.terminal ks ≡ false) × (stopped (s ∷ (u ++ t ∷ v)) ≡ gives x rest)) → token_reads ks (s ∷ (u ++ t ∷ other)) ≡ Ok (x, w ++ t ∷ other)
    go (inl p) =
        let o = out_is s x (u ++ t ∷ v) rest p.1 in
        let same_front : u ≡ w = append_cancel_right u w (t ∷ v) (o.rest ∙ r) in
        rw (p.0, o.value, same_front) refl
    go (inr p) = absurd (let f = p.1 in cc)

token_far : (ks : List Terminal) (u v w other rest : Symbols) (t : Symbol) → token_reads ks (u ++ t ∷ v) ≡ Err rest → rest ≡ w ++ t ∷ v → token_reads ks (u ++ t ∷ other) ≡ Err (w ++ t ∷ other)
token_far ks [] v w other rest t e r = go (chosen (among t.terminal ks) (gives t (v)) (stopped (t ∷ v)) (stopped rest) e)
  where
    go : ((among t.terminal ks ≡ true) × (gives t v ≡ stopped rest)) ⊎ ((among t.terminal ks ≡ false) × (stopped {A = Symbol} (t ∷ v) ≡ stopped rest)) → token_reads ks (t ∷ other) ≡ Err (w ++ t ∷ other)
    go (inl p) = absurd (let f = p.1 in cc)
    go (inr p) =
        let same_front : [] ≡ w = append_cancel_right [] w (t ∷ v) (err_is (t ∷ v) rest p.1 ∙ r) in
        rw (p.0, ← same_front) refl
token_far ks (s ∷ u) v w other rest t e r = go (chosen (among s.terminal ks) (gives s (u ++ t ∷ v)) (stopped (s ∷ (u ++ t ∷ v))) (stopped rest) e)
  where
    go : ((among s.terminal ks ≡ true) × (gives s (u ++ t ∷ v) ≡ stopped rest)) ⊎ ((among s.terminal ks ≡ false) × (stopped {A = Symbol} (s ∷ (u ++ t ∷ v)) ≡ stopped rest)) → token_reads ks (s ∷ (u ++ t ∷ other)) ≡ Err (w ++ t ∷ other)
    go (inl p) = absurd (let f = p.1 in cc)
    go (inr p) =
        let same_front : s ∷ u ≡ w = append_cancel_right (s ∷ u) w (t ∷ v) (err_is (s ∷ (u ++ t ∷ v)) rest p.1 ∙ r) in
        rw (p.0, ← same_front) refl

pub token_laws : (ks : List Terminal) (t : Symbol) → among t.terminal ks ≡ true → Laws (token ks)
token_laws ks t h = record {
  some = (t ∷ [], t, (refl, h));
  begins = λ ts x p. inr (rw p.0 p.1);
  sound = λ ts rest x e. token_sound ks ts rest x e;
  complete = λ u rest x p g. token_complete ks u rest x p;
  stops = λ ts rest e. ([], t ∷ [], t, token_stops ks t ts rest h e, (refl, h));
  near = λ u v w other rest s x e r. token_near ks u v w other rest s x e r;
  far = λ u v w other rest s e r. token_far ks u v w other rest s e r;
}

-- ---- another value

abbrev made : {X Y : Type 0} → (X → Y) → X × Symbols → Reading Y
made f x = Ok (f x.0, x.1)

pub mapped_laws : {X Y : Type 0} (f : X → Y) (a : Form X) → Laws a → Laws (mapped f a)
mapped_laws {X} {Y} f a laws = record {
  some = (laws.some.0, f laws.some.1, (laws.some.1, laws.some.2, refl));
  begins = λ ts y p. laws.begins ts p.0 p.1;
  sound = λ ts rest y e.
      let p = bind_ok (a.reads ts) (made f) (y, rest) e in
      let o = out_is (f p.0.0) y p.0.1 rest p.2 in
      let s = laws.sound ts p.0.1 p.0.0 p.1 in
      (s.0, s.1 ∙ ap (λ (r : Symbols). s.0 ++ r) o.rest, (p.0.0, s.2, sym o.value));
  complete = λ u rest y p g. rw (laws.complete u rest p.0 p.1 g, p.2) refl;
  stops = λ ts rest e. elim (bind_err (a.reads ts) (made f) rest e) [
    | inl q ↦ (let s = laws.stops ts rest q in (s.0, s.1, f s.2, s.3, (s.2, s.4, refl)))
    | inr q ↦ absurd (let z = q.2 in cc)
  ];
  near = λ u v w other rest t y e r.
      let p = bind_ok (a.reads (u ++ t ∷ v)) (made f) (y, rest) e in
      let o = out_is (f p.0.0) y p.0.1 rest p.2 in
      bind_of (a.reads (u ++ t ∷ other)) (made f) (p.0.0, w ++ t ∷ other) (laws.near u v w other p.0.1 t p.0.0 p.1 (o.rest ∙ r)) ∙ ap (λ (z : Y). gives z (w ++ t ∷ other)) o.value;
  far = λ u v w other rest t e r. elim (bind_err (a.reads (u ++ t ∷ v)) (made f) rest e) [
    | inl q ↦ rw (laws.far u v w other rest t q r) refl
    | inr q ↦ absurd (let z = q.2 in cc)
  ];
}

-- ---- one form and then another

abbrev pair_with : {X Y : Type 0} → X → Y × Symbols → Reading (X × Y)
pair_with x y = Ok ((x, y.0), y.1)

abbrev and_then : {X Y : Type 0} → Form Y → X × Symbols → Reading (X × Y)
and_then b x = b.reads x.1 >>= pair_with x.0

seq_begins : {X Y : Type 0} (a : Form X) (b : Form Y) → Laws a → Laws b → (u v : Symbols) (x : X) (y : Y) → a.Has u x → b.Has v y
    → ((u ++ v ≡ []) × ((b.empty && a.empty) ≡ true)) ⊎ (next_among (if a.empty then a.first ++ b.first else a.first) (u ++ v) ≡ true)
seq_begins a b la lb u v x y ha hb = first (la.begins u x ha)
  where
    second : u ≡ [] → a.empty ≡ true → ((v ≡ []) × (b.empty ≡ true)) ⊎ (next_among b.first v ≡ true) → ((u ++ v ≡ []) × ((b.empty && a.empty) ≡ true)) ⊎ (next_among (if a.empty then a.first ++ b.first else a.first) (u ++ v) ≡ true)
    second n e (inl p) = inl (rw (n, p.0) refl, rw (p.1, e) refl)
    second n e (inr p) = inr (rw (n, e) (next_right a.first b.first v p))

    cases : (e : Bool) → next_among a.first (u ++ v) ≡ true → next_among (if e then a.first ++ b.first else a.first) (u ++ v) ≡ true
    cases true h = next_left a.first b.first (u ++ v) h
    cases false h = h

    first : ((u ≡ []) × (a.empty ≡ true)) ⊎ (next_among a.first u ≡ true) → ((u ++ v ≡ []) × ((b.empty && a.empty) ≡ true)) ⊎ (next_among (if a.empty then a.first ++ b.first else a.first) (u ++ v) ≡ true)
    first (inl p) = second p.0 p.1 (lb.begins v y hb)
    first (inr p) = inr (cases a.empty (next_append a.first u v p))

seq_complete : {X Y : Type 0} (a : Form X) (b : Form Y) → Laws a → Laws b → disjoint b.first a.goes ≡ true → (u v rest : Symbols) (x : X) (y : Y) → a.Has u x → b.Has v y
    → next_among (if b.empty then a.goes ++ b.goes else b.goes) rest ≡ false → (seq a b).reads ((u ++ v) ++ rest) ≡ Ok ((x, y), rest)
seq_complete a b la lb d u v rest x y ha hb g =
    let first : a.reads ((u ++ v) ++ rest) ≡ Ok (x, v ++ rest) = ap a.reads (append_assoc u v rest) ∙ la.complete u (v ++ rest) x ha (goes_a (lb.begins v y hb)) in
    bind_of (a.reads ((u ++ v) ++ rest)) (and_then b) (x, v ++ rest) first ∙ bind_of (b.reads (v ++ rest)) (pair_with x) (y, rest) (lb.complete v rest y hb (goes_b b.empty g))
  where
    goes_b : (e : Bool) → next_among (if e then a.goes ++ b.goes else b.goes) rest ≡ false → next_among b.goes rest ≡ false
    goes_b true h = (next_neither a.goes b.goes rest h).1
    goes_b false h = h

    goes_a : ((v ≡ []) × (b.empty ≡ true)) ⊎ (next_among b.first v ≡ true) → next_among a.goes (v ++ rest) ≡ false
    goes_a (inl p) = let h : next_among (a.goes ++ b.goes) rest ≡ false = rw p.1 at g in rw p.0 (next_neither a.goes b.goes rest h).0
    goes_a (inr p) = next_disjoint b.first a.goes (v ++ rest) d (next_append b.first v rest p)

pub seq_laws : {X Y : Type 0} (a : Form X) (b : Form Y) → Laws a → Laws b → disjoint b.first a.goes ≡ true → Laws (seq a b)
seq_laws {X} {Y} a b la lb d = record {
  some = (la.some.0 ++ lb.some.0, (la.some.1, lb.some.1), (la.some.0, lb.some.0, refl, la.some.2, lb.some.2));
  begins = λ ts xy h. subst (λ (z : Symbols). ((z ≡ []) × ((b.empty && a.empty) ≡ true)) ⊎ (next_among (if a.empty then a.first ++ b.first else a.first) z ≡ true)) (sym h.2)
      (seq_begins a b la lb h.0 h.1 xy.0 xy.1 h.3 h.4);
  sound = λ ts rest xy e.
      let p = bind_ok (a.reads ts) (and_then b) (xy, rest) e in
      let q = bind_ok (b.reads p.0.1) (pair_with p.0.0) (xy, rest) p.2 in
      let o = out_is (p.0.0, q.0.0) xy q.0.1 rest q.2 in
      let s = la.sound ts p.0.1 p.0.0 p.1 in
      let t = lb.sound p.0.1 q.0.1 q.0.0 q.1 in (
        s.0 ++ t.0,
        s.1 ∙ ap (λ (r : Symbols). s.0 ++ r) (t.1 ∙ ap (λ (r : Symbols). t.0 ++ r) o.rest) ∙ sym (append_assoc s.0 t.0 rest),
        subst (λ (z : X × Y). (seq a b).Has (s.0 ++ t.0) z) o.value (s.0, t.0, refl, s.2, t.2),
      );
  complete = λ u rest xy h g. ap (λ (z : Symbols). (seq a b).reads (z ++ rest)) h.2 ∙ seq_complete a b la lb d h.0 h.1 rest xy.0 xy.1 h.3 h.4 g;
  stops = λ ts rest e. elim (bind_err (a.reads ts) (and_then b) rest e) [
    | inl q ↦ (let s = la.stops ts rest q in
        (s.0, s.1 ++ lb.some.0, (s.2, lb.some.1), s.3, (s.0 ++ s.1, lb.some.0, sym (append_assoc s.0 s.1 lb.some.0), s.4, lb.some.2)))
    | inr q ↦ elim (bind_err (b.reads q.0.1) (pair_with q.0.0) rest q.2) [
      | inl z ↦ (let s = la.sound ts q.0.1 q.0.0 q.1 in let t = lb.stops q.0.1 rest z in (
        s.0 ++ t.0,
        t.1,
        (q.0.0, t.2),
        s.1 ∙ ap (λ (r : Symbols). s.0 ++ r) t.3 ∙ sym (append_assoc s.0 t.0 rest),
        (s.0, t.0 ++ t.1, append_assoc s.0 t.0 t.1, s.2, t.4),
      ))
      | inr z ↦ absurd (let y = z.2 in cc)
    ]
  ];
  near = λ u v w other rest t xy e r.
      let p = bind_ok (a.reads (u ++ t ∷ v)) (and_then b) (xy, rest) e in
      let q = bind_ok (b.reads p.0.1) (pair_with p.0.0) (xy, rest) p.2 in
      let o = out_is (p.0.0, q.0.0) xy q.0.1 rest q.2 in
      let s = lb.sound p.0.1 q.0.1 q.0.0 q.1 in
      let ends : q.0.1 ≡ w ++ t ∷ v = o.rest ∙ r in
      let mid : p.0.1 ≡ (s.0 ++ w) ++ t ∷ v = s.1 ∙ ap (λ (r : Symbols). s.0 ++ r) ends ∙ sym (append_assoc s.0 w (t ∷ v)) in
      let first : a.reads (u ++ t ∷ other) ≡ Ok (p.0.0, (s.0 ++ w) ++ t ∷ other) = la.near u v (s.0 ++ w) other p.0.1 t p.0.0 p.1 mid in
      let was : b.reads ((s.0 ++ w) ++ t ∷ v) ≡ Ok (q.0.0, q.0.1) = ap b.reads (sym mid) ∙ q.1 in
      let second : b.reads ((s.0 ++ w) ++ t ∷ other) ≡ Ok (q.0.0, w ++ t ∷ other) = lb.near (s.0 ++ w) v w other q.0.1 t q.0.0 was ends in
      bind_of (a.reads (u ++ t ∷ other)) (and_then b) (p.0.0, (s.0 ++ w) ++ t ∷ other) first ∙ bind_of (b.reads ((s.0 ++ w) ++ t ∷ other)) (pair_with p.0.0) (q.0.0, w ++ t ∷ other) second
      ∙ ap (λ (z : X × Y). gives z (w ++ t ∷ other)) o.value;
  far = λ u v w other rest t e r. elim (bind_err (a.reads (u ++ t ∷ v)) (and_then b) rest e) [
    | inl q ↦ bind_stop (a.reads (u ++ t ∷ other)) (and_then b) (w ++ t ∷ other) (la.far u v w other rest t q r)
    | inr q ↦ elim (bind_err (b.reads q.0.1) (pair_with q.0.0) rest q.2) [
      | inl z ↦ (let s = lb.stops q.0.1 rest z in
          let mid : q.0.1 ≡ (s.0 ++ w) ++ t ∷ v = s.3 ∙ ap (λ (r : Symbols). s.0 ++ r) r ∙ sym (append_assoc s.0 w (t ∷ v)) in
          let first : a.reads (u ++ t ∷ other) ≡ Ok (q.0.0, (s.0 ++ w) ++ t ∷ other) = la.near u v (s.0 ++ w) other q.0.1 t q.0.0 q.1 mid in
          let was : b.reads ((s.0 ++ w) ++ t ∷ v) ≡ Err rest = ap b.reads (sym mid) ∙ z in
          let second : b.reads ((s.0 ++ w) ++ t ∷ other) ≡ Err (w ++ t ∷ other) = lb.far (s.0 ++ w) v w other rest t was r in
          bind_of (a.reads (u ++ t ∷ other)) (and_then b) (q.0.0, (s.0 ++ w) ++ t ∷ other) first ∙ bind_stop (b.reads ((s.0 ++ w) ++ t ∷ other)) (pair_with q.0.0) (w ++ t ∷ other) second)
      | inr z ↦ absurd (let y = z.2 in cc)
    ]
  ];
}

-- ---- one form or another

pub nonempty : {X : Type 0} (a : Form X) → Laws a → a.empty ≡ false → (ts : Symbols) (x : X) → a.Has ts x → next_among a.first ts ≡ true
nonempty a la n ts x h = go (la.begins ts x h)
  where
    go : ((ts ≡ []) × (a.empty ≡ true)) ⊎ (next_among a.first ts ≡ true) → next_among a.first ts ≡ true
    go (inl p) = absurd (let e = p.1 in cc)
    go (inr p) = p

pub either_laws : {X : Type 0} (a b : Form X) → Laws a → Laws b → a.empty ≡ false → b.empty ≡ false → disjoint b.first a.first ≡ true → Laws (either a b)
either_laws {X} a b la lb na nb d = record {
  some = (la.some.0, la.some.1, inl la.some.2);
  begins = λ ts x h. elim h [
    | inl p ↦ inr (next_left a.first b.first ts (nonempty a la na ts x p))
    | inr p ↦ inr (next_right a.first b.first ts (nonempty b lb nb ts x p))
  ];
  sound = λ ts rest x e. elim (chosen (next_among a.first ts) (a.reads ts) (b.reads ts) (Ok (x, rest)) e) [
    | inl p ↦ (let s = la.sound ts rest x p.1 in (s.0, s.1, inl s.2))
    | inr p ↦ (let s = lb.sound ts rest x p.1 in (s.0, s.1, inr s.2))
  ];
  complete = λ u rest x h g. elim h [
    | inl p ↦ if_true (next_among a.first (u ++ rest)) (a.reads (u ++ rest)) (b.reads (u ++ rest)) (next_append a.first u rest (nonempty a la na u x p))
        ∙ la.complete u rest x p (next_neither a.goes b.goes rest g).0
    | inr p ↦ if_false (next_among a.first (u ++ rest)) (a.reads (u ++ rest)) (b.reads (u ++ rest)) (next_disjoint b.first a.first (u ++ rest) d (next_append b.first u rest (nonempty b lb nb u x p)))
        ∙ lb.complete u rest x p (next_neither a.goes b.goes rest g).1
  ];
  stops = λ ts rest e. elim (chosen (next_among a.first ts) (a.reads ts) (b.reads ts) (Err rest) e) [
    | inl p ↦ (let s = la.stops ts rest p.1 in (s.0, s.1, s.2, s.3, inl s.4))
    | inr p ↦ (let s = lb.stops ts rest p.1 in (s.0, s.1, s.2, s.3, inr s.4))
  ];
  near = λ u v w other rest t x e r. elim (chosen (next_among a.first (u ++ t ∷ v)) (a.reads (u ++ t ∷ v)) (b.reads (u ++ t ∷ v)) (Ok (x, rest)) e) [
    | inl p ↦ if_true (next_among a.first (u ++ t ∷ other)) (a.reads (u ++ t ∷ other)) (b.reads (u ++ t ∷ other)) (next_append_same a.first u other v t ∙ p.0) ∙ la.near u v w other rest t x p.1 r
    | inr p ↦ if_false (next_among a.first (u ++ t ∷ other)) (a.reads (u ++ t ∷ other)) (b.reads (u ++ t ∷ other)) (next_append_same a.first u other v t ∙ p.0) ∙ lb.near u v w other rest t x p.1 r
  ];
  far = λ u v w other rest t e r. elim (chosen (next_among a.first (u ++ t ∷ v)) (a.reads (u ++ t ∷ v)) (b.reads (u ++ t ∷ v)) (Err rest) e) [
    | inl p ↦ if_true (next_among a.first (u ++ t ∷ other)) (a.reads (u ++ t ∷ other)) (b.reads (u ++ t ∷ other)) (next_append_same a.first u other v t ∙ p.0) ∙ la.far u v w other rest t p.1 r
    | inr p ↦ if_false (next_among a.first (u ++ t ∷ other)) (a.reads (u ++ t ∷ other)) (b.reads (u ++ t ∷ other)) (next_append_same a.first u other v t ∙ p.0) ∙ lb.far u v w other rest t p.1 r
  ];
}

-- ---- a form or nothing

abbrev as_some : {X : Type 0} → X × Symbols → Reading (Option X)
as_some x = Ok (Some x.0, x.1)

abbrev nothing : {X : Type 0} → Symbols → Reading (Option X)
nothing ts = Ok (None, ts)

optional_begins : {X : Type 0} (a : Form X) → Laws a → a.empty ≡ false → (ts : Symbols) (x : Option X) → OptionalHas a ts x → ((ts ≡ []) × (true ≡ true)) ⊎ (next_among a.first ts ≡ true)
optional_begins a la n ts None h = inl (h, refl)
optional_begins a la n ts (Some x) h = inr (nonempty a la n ts x h)

optional_complete : {X : Type 0} (a : Form X) → Laws a → a.empty ≡ false → (u rest : Symbols) (x : Option X) → OptionalHas a u x → next_among (a.first ++ a.goes) rest ≡ false → (optional a).reads (u ++ rest) ≡ Ok (x, rest)
optional_complete {X} a la n u rest None h g = ap (λ (z : Symbols). (optional a).reads (z ++ rest)) h
    ∙ if_false (next_among a.first rest) (a.reads rest >>= as_some) (nothing rest) (next_neither a.first a.goes rest g).0
optional_complete {X} a la n u rest (Some x) h g = if_true (next_among a.first (u ++ rest)) (a.reads (u ++ rest) >>= as_some) (nothing (u ++ rest)) (next_append a.first u rest (nonempty a la n u x h))
    ∙ bind_of (a.reads (u ++ rest)) as_some (x, rest) (la.complete u rest x h (next_neither a.first a.goes rest g).1)

pub optional_laws : {X : Type 0} (a : Form X) → Laws a → a.empty ≡ false → Laws (optional a)
optional_laws {X} a la n = record {
  some = ([], None, refl);
  begins = λ ts x h. optional_begins a la n ts x h;
  sound = λ ts rest x e. elim (chosen (next_among a.first ts) (a.reads ts >>= as_some) (nothing ts) (Ok (x, rest)) e) [
    | inl p ↦ (let q = bind_ok (a.reads ts) as_some (x, rest) p.1 in
        let o = out_is (Some q.0.0) x q.0.1 rest q.2 in
        let s = la.sound ts q.0.1 q.0.0 q.1 in
        (s.0, s.1 ∙ ap (λ (r : Symbols). s.0 ++ r) o.rest, subst (λ (z : Option X). OptionalHas a s.0 z) o.value s.2))
    | inr p ↦ (let none : Option X = None in let o = out_is none x ts rest p.1 in ([], o.rest, subst (λ (z : Option X). OptionalHas a [] z) o.value refl))
  ];
  complete = λ u rest x h g. optional_complete a la n u rest x h g;
  stops = λ ts rest e. elim (chosen (next_among a.first ts) (a.reads ts >>= as_some) (nothing ts) (Err rest) e) [
    | inl p ↦ elim (bind_err (a.reads ts) as_some rest p.1) [
      | inl q ↦ (let s = la.stops ts rest q in (s.0, s.1, Some s.2, s.3, s.4))
      | inr q ↦ absurd (let z = q.2 in cc)
    ]
    | inr p ↦ absurd (let z = p.1 in cc)
  ];
  near = λ u v w other rest t x e r. elim (chosen (next_among a.first (u ++ t ∷ v)) (a.reads (u ++ t ∷ v) >>= as_some) (nothing (u ++ t ∷ v)) (Ok (x, rest)) e) [
    | inl p ↦ (let q = bind_ok (a.reads (u ++ t ∷ v)) as_some (x, rest) p.1 in
        let o = out_is (Some q.0.0) x q.0.1 rest q.2 in
        if_true (next_among a.first (u ++ t ∷ other)) (a.reads (u ++ t ∷ other) >>= as_some) (nothing (u ++ t ∷ other)) (next_append_same a.first u other v t ∙ p.0)
        ∙ bind_of (a.reads (u ++ t ∷ other)) as_some (q.0.0, w ++ t ∷ other) (la.near u v w other q.0.1 t q.0.0 q.1 (o.rest ∙ r)) ∙ ap (λ (z : Option X). gives z (w ++ t ∷ other)) o.value)
    | inr p ↦ (let none : Option X = None in let o = out_is none x (u ++ t ∷ v) rest p.1 in
        let f : u ≡ w = append_cancel_right u w (t ∷ v) (o.rest ∙ r) in
        if_false (next_among a.first (u ++ t ∷ other)) (a.reads (u ++ t ∷ other) >>= as_some) (nothing (u ++ t ∷ other)) (next_append_same a.first u other v t ∙ p.0)
        ∙ ap (λ (z : Option X). gives z (u ++ t ∷ other)) o.value ∙ ap (λ (z : Symbols). gives x (z ++ t ∷ other)) f)
  ];
  far = λ u v w other rest t e r. elim (chosen (next_among a.first (u ++ t ∷ v)) (a.reads (u ++ t ∷ v) >>= as_some) (nothing (u ++ t ∷ v)) (Err rest) e) [
    | inl p ↦ elim (bind_err (a.reads (u ++ t ∷ v)) as_some rest p.1) [
      | inl q ↦ if_true (next_among a.first (u ++ t ∷ other)) (a.reads (u ++ t ∷ other) >>= as_some) (nothing (u ++ t ∷ other)) (next_append_same a.first u other v t ∙ p.0)
          ∙ bind_stop (a.reads (u ++ t ∷ other)) as_some (w ++ t ∷ other) (la.far u v w other rest t q r)
      | inr q ↦ absurd (let z = q.2 in cc)
    ]
    | inr p ↦ absurd (let z = p.1 in cc)
  ];
}
