-- Forms of text. `Has` says which tokens a form has, and with which value. `reads` reads them from the
-- left: it gives a value and the tokens after it, or the tokens from the one at which it stops.
use Rattle.std.specs.Prelude.{◌≡◌, ℕ, zero, suc, List, [], ◌∷◌, ◌++◌, length, Bool, true, false, ◌&&◌, if◌then◌else◌, Result, Ok, Err, Option, None, Some, ◌⊎◌}
use Rattle.tsql_grammar.specs.declared.terminal.Terminal.{Terminal}
use Rattle.tsql_grammar.specs.declared.terminal.Symbol.{Symbol}
use Rattle.tsql_grammar.specs.Terminals.{among}

abbrev pub Symbols : Type 0
Symbols = List Symbol

abbrev pub Reading : Type 0 → Type 0
Reading X = Result (X × Symbols) Symbols

infixl 10 ◌>>=◌
abbrev pub ◌>>=◌ : {A B : Type 0} → Reading A → (A × Symbols → Reading B) → Reading B
(Ok x) >>= f = f x
(Err e) >>= f = Err e

-- whether the next token is of one of these kinds; the text's end is of none
abbrev pub next_among : List Terminal → Symbols → Bool
next_among ks [] = false
next_among ks (t ∷ ts) = among t.terminal ks

pub record Form (X : Type 0) : Type 1 where
  -- these tokens, all of them, are the form's with this value
  pub Has : Symbols → X → Type 0
  pub reads : Symbols → Reading X
  -- the kinds that may begin it
  pub first : List Terminal
  -- the kinds that may go on with it where it could end
  pub goes : List Terminal
  pub empty : Bool

-- one token of one of these kinds
abbrev pub token_reads : List Terminal → Symbols → Reading Symbol
token_reads ks [] = Err []
token_reads ks (t ∷ ts) = if among t.terminal ks then Ok (t, ts) else Err (t ∷ ts)

abbrev pub token : List Terminal → Form Symbol
token ks = record {
  Has = λ ts t. (ts ≡ t ∷ []) × (among t.terminal ks ≡ true);
  reads = token_reads ks;
  first = ks;
  goes = [];
  empty = false;
}

-- the same text with another value
abbrev pub mapped : {X Y : Type 0} → (X → Y) → Form X → Form Y
mapped {X} f a = record {
  Has = λ ts y. (x : X) × a.Has ts x × (y ≡ f x);
  reads = λ ts. a.reads ts >>= λ x. Ok (f x.0, x.1);
  first = a.first;
  goes = a.goes;
  empty = a.empty;
}

-- one form and then another
abbrev pub seq : {X Y : Type 0} → Form X → Form Y → Form (X × Y)
seq a b = record {
  Has = λ ts xy. (u : Symbols) × (v : Symbols) × (ts ≡ u ++ v) × a.Has u xy.0 × b.Has v xy.1;
  reads = λ ts. a.reads ts >>= λ x. b.reads x.1 >>= λ y. Ok ((x.0, y.0), y.1);
  first = if a.empty then a.first ++ b.first else a.first;
  goes = if b.empty then a.goes ++ b.goes else b.goes;
  empty = b.empty && a.empty;
}

-- one form or another
abbrev pub either : {X : Type 0} → Form X → Form X → Form X
either a b = record {
  Has = λ ts x. a.Has ts x ⊎ b.Has ts x;
  reads = λ ts. if next_among a.first ts then a.reads ts else b.reads ts;
  first = a.first ++ b.first;
  goes = a.goes ++ b.goes;
  empty = false;
}

-- a form or nothing
abbrev pub OptionalHas : {X : Type 0} → Form X → Symbols → Option X → Type 0
OptionalHas a ts None = ts ≡ []
OptionalHas a ts (Some x) = a.Has ts x

abbrev pub optional : {X : Type 0} → Form X → Form (Option X)
optional a = record {
  Has = OptionalHas a;
  reads = λ ts. if next_among a.first ts then (a.reads ts >>= λ x. Ok (Some x.0, x.1)) else Ok (None, ts);
  first = a.first;
  goes = a.first ++ a.goes;
  empty = true;
}

-- a form any number of times
abbrev pub ManyHas : {X : Type 0} → Form X → Symbols → List X → Type 0
ManyHas a ts [] = ts ≡ []
ManyHas a ts (x ∷ xs) = (u : Symbols) × (v : Symbols) × (ts ≡ u ++ v) × a.Has u x × ManyHas a v xs

-- at most so many, each of which begins with one of some kinds
abbrev pub many_reads : {X : Type 0} → List Terminal → (Symbols → Reading X) → ℕ → Symbols → Reading (List X)
many_reads first reads zero ts = Ok ([], ts)
many_reads first reads (suc n) ts =
    if next_among first ts then (reads ts >>= λ x. many_reads first reads n x.1 >>= λ xs. Ok (x.0 ∷ xs.0, xs.1))
    else Ok ([], ts)

abbrev pub many : {X : Type 0} → Form X → Form (List X)
many a = record {
  Has = ManyHas a;
  reads = λ ts. many_reads a.first a.reads (length ts) ts;
  first = a.first;
  goes = a.first ++ a.goes;
  empty = true;
}

-- the texts of these lines, read by a form that has the same texts and branches only where a token tells
abbrev pub written : {X : Type 0} → Form X → Form X → Form X
written lines a = record { Has = lines.Has; reads = a.reads; first = a.first; goes = a.goes; empty = a.empty }

-- the same form, with other sets: larger ones
abbrev pub declared : {X : Type 0} → List Terminal → List Terminal → Form X → Form X
declared first goes a = record { Has = a.Has; reads = a.reads; first = first; goes = goes; empty = false }

-- what was read before, and what is still read
abbrev pub with_front : {X : Type 0} → List X → Reading (List X) → Reading (List X)
with_front front read = read >>= λ x. Ok (front ++ x.0, x.1)
