-- The laws of each way to make forms, with the forms left to be found.
use Rattle.std.proofs.Common.{◌≡◌, Bool, true, false, List, [], ◌∷◌, Option, refl, ◌∙◌, inl, inr}
use Rattle.std.specs.Prelude.{◌⊎◌, ◌||◌, ◌&&◌}
use Rattle.tsql_grammar.specs.declared.terminal.Terminal.{Terminal}
use Rattle.tsql_grammar.specs.declared.terminal.Terminal.TheVariants as terminal
use Rattle.tsql_grammar.specs.declared.terminal.Symbol.{Symbol}
use Rattle.tsql_grammar.specs.Terminals.{same, among, disjoint, subset}
use Rattle.tsql_grammar.specs.Forms.{Symbols, Form, next_among, token, mapped, seq, either, optional, many, declared}
use Rattle.tsql_grammar.specs.Grammar.{word, behind, maybe_behind, within, listed}
use Rattle.tsql_grammar.proofs.Laws.{Laws, chosen, among_same, same_code, token_laws, mapped_laws, seq_laws, either_laws, optional_laws}
use Rattle.tsql_grammar.proofs.Many.{many_laws}

sample : Terminal → Symbol
sample k = record { terminal = k; place = 0; size = 0 }

pub one_of : (ks : List Terminal) (k : Terminal) → among k ks ≡ true → Laws (token ks)
unfolding sample
one_of ks k h = token_laws ks (sample k) h

pub made : {X Y : Type 0} {a : Form X} (f : X → Y) → Laws a → Laws (mapped f a)
made {a = a} f la = mapped_laws f a la

pub both : {X Y : Type 0} {a : Form X} {b : Form Y} → Laws a → Laws b → disjoint b.first a.goes ≡ true → Laws (seq a b)
both {a = a} {b = b} la lb d = seq_laws a b la lb d

pub choose : {X : Type 0} {a b : Form X} → Laws a → Laws b → a.empty ≡ false → b.empty ≡ false → disjoint b.first a.first ≡ true → Laws (either a b)
choose {a = a} {b = b} la lb na nb d = either_laws a b la lb na nb d

pub maybe : {X : Type 0} {a : Form X} → Laws a → a.empty ≡ false → Laws (optional a)
maybe {a = a} la n = optional_laws a la n

pub repeated : {X : Type 0} {a : Form X} → Laws a → a.empty ≡ false → disjoint a.first a.goes ≡ true → Laws (many a)
repeated {a = a} la n d = many_laws a la n d

subset_among : (ks ls : List Terminal) (k : Terminal) → subset ks ls ≡ true → among k ks ≡ true → among k ls ≡ true
subset_among [] ls k s e = absurd cc
subset_among (j ∷ ks) ls k s e = split (λ rest h. subset_among ks ls k rest h) (chosen (among j ls) (subset ks ls) false true s)
  where
    here : (b : Bool) → (subset ks ls ≡ true → among k ks ≡ true → among k ls ≡ true) → same k j ≡ b → (b || among k ks) ≡ true → among j ls ≡ true → subset ks ls ≡ true → among k ls ≡ true
    here true ih t h f rest = among_same k j ls (same_code k j t) ∙ f
    here false ih t h f rest = ih rest h

    split : (subset ks ls ≡ true → among k ks ≡ true → among k ls ≡ true) → ((among j ls ≡ true) × (subset ks ls ≡ true)) ⊎ ((among j ls ≡ false) × (false ≡ true)) → among k ls ≡ true
    split ih (inl p) = here (same k j) ih refl e p.0 p.1
    split ih (inr p) = absurd (let f = p.1 in cc)

next_subset : (ks ls : List Terminal) (ts : Symbols) → subset ks ls ≡ true → next_among ks ts ≡ true → next_among ls ts ≡ true
next_subset ks ls [] s e = absurd cc
next_subset ks ls (t ∷ ts) s e = subset_among ks ls t.terminal s e

next_less : (ks ls : List Terminal) (ts : Symbols) → subset ks ls ≡ true → next_among ls ts ≡ false → next_among ks ts ≡ false
next_less ks ls ts s e = go (next_among ks ts) refl
  where
    go : (b : Bool) → next_among ks ts ≡ b → next_among ks ts ≡ false
    go true h = absurd (let f = next_subset ks ls ts s h in cc)
    go false h = h

pub declared_laws : {X : Type 0} {a : Form X} {first goes : List Terminal} → Laws a → subset a.first first ≡ true → subset a.goes goes ≡ true → a.empty ≡ false → Laws (declared first goes a)
declared_laws {X} {a} {first} {goes} la f g n = record {
  some = la.some;
  begins = λ ts x h. elim (la.begins ts x h) [
    | inl p ↦ absurd (let e = p.1 in cc)
    | inr p ↦ inr (next_subset a.first first ts f p)
  ];
  sound = la.sound;
  complete = λ u rest x h k. la.complete u rest x h (next_less a.goes goes rest g k);
  stops = la.stops;
  near = la.near;
  far = la.far;
}

disjoint_nil : (ks : List Terminal) → disjoint ks [] ≡ true
disjoint_nil [] = refl
disjoint_nil (k ∷ ks) = disjoint_nil ks

pub and_false : (b : Bool) → (b && false) ≡ false
and_false true = refl
and_false false = refl

pub word_laws : (k : Terminal) → among k (k ∷ []) ≡ true → Laws (word k)
word_laws k h = one_of (k ∷ []) k h

pub behind_laws : {X : Type 0} {a : Form X} (k : Terminal) → among k (k ∷ []) ≡ true → Laws a → Laws (behind k a)
behind_laws {X} {a} k h la = made (λ (x : Symbol × X). x.1) (both (word_laws k h) la (disjoint_nil a.first))

pub maybe_behind_laws : {X : Type 0} {a : Form X} (k : Terminal) → among k (k ∷ []) ≡ true → Laws a → disjoint a.first (k ∷ []) ≡ true → Laws (maybe_behind k a)
maybe_behind_laws {X} {a} k h la d = made (λ (x : Option Symbol × X). x.1) (both (maybe (word_laws k h) refl) la d)

pub within_laws : {X : Type 0} {a : Form X} → Laws a → disjoint (terminal.CloseSign ∷ []) a.goes ≡ true → Laws (within a)
within_laws {X} la d = behind_laws terminal.OpenSign refl (made (λ (x : X × Symbol). x.0) (both la (word_laws terminal.CloseSign refl) d))

pub listed_laws : {X : Type 0} {a : Form X} → Laws a → disjoint (terminal.CommaSign ∷ []) a.goes ≡ true → disjoint (terminal.CommaSign ∷ []) (behind terminal.CommaSign a).goes ≡ true → Laws (listed a)
listed_laws {X} {a} la d e =
    made (λ (x : X × List X). x.0 ∷ x.1) (both la (repeated (behind_laws terminal.CommaSign refl la) (and_false a.empty) e) d)
