-- Reading a whole text: what is read is in the grammar, what is in the grammar is read, and what is
-- refused is refused at the first token at which no text can go on.
use Rattle.std.proofs.Common.{◌≡◌, ◌+◌, [], ◌∷◌, ◌++◌, Result, Ok, Err, refl, sym, ap, subst, ◌∙◌, append_assoc, inl, inr}
use Rattle.std.specs.Prelude.{◌⊎◌}
use Rattle.std.proofs.lemmas.List.{append-nil}
use Rattle.tsql_grammar.specs.declared.terminal.Symbol.{Symbol}
use Rattle.tsql_grammar.specs.Forms.{Symbols, Reading, Form}
use Rattle.tsql_grammar.specs.Places.{Begins, IsStuck, IsRefusedAt, to_end}
use Rattle.tsql_grammar.proofs.Laws.{Laws, gives, out_is}

abbrev ends : {X : Type 0} → Reading X → Result X Symbols → Type 0
ends r e = to_end r ≡ e

pub whole_ok : {X : Type 0} (a : Form X) → Laws a → (ts : Symbols) (x : X) → to_end (a.reads ts) ≡ Ok x → a.Has ts x
whole_ok {X} a la ts x e = go (a.reads ts) refl e
  where
    go : (r : Reading X) → a.reads ts ≡ r → to_end r ≡ Ok x → a.Has ts x
    go (Ok (y, [])) h f =
        let s = la.sound ts [] y h in
        let whole : ts ≡ s.0 = s.1 ∙ append-nil s.0 in
        let same : y ≡ x = cc f in
        subst (λ (z : X). a.Has ts z) same (subst (λ (z : Symbols). a.Has z y) (sym whole) s.2)
    go (Ok (y, t ∷ rest)) h f = absurd cc
    go (Err rest) h f = absurd cc

pub whole_only : {X : Type 0} (a : Form X) → Laws a → (ts : Symbols) (x : X) → a.Has ts x → to_end (a.reads ts) ≡ Ok x
whole_only {X} a la ts x h =
    let e : a.reads ts ≡ gives x [] = ap a.reads (sym (append-nil ts)) ∙ la.complete ts [] x h refl in
    ap (λ (r : Reading X). to_end r) e

pub whole_err : {X : Type 0} (a : Form X) → Laws a → (ts rest : Symbols) → to_end (a.reads ts) ≡ Err rest → IsRefusedAt a ts rest
whole_err {X} a la ts rest e = go (a.reads ts) refl e
  where
    -- what has the prefix and the token is no text, for reading stops there, or goes no further
    left : (u v : Symbols) (t : Symbol) (x : X) → a.reads (u ++ t ∷ v) ≡ Ok (x, t ∷ v) → Begins a (u ++ t ∷ []) → ⊥
    left u v t x h b =
        let text : (u ++ t ∷ []) ++ b.0 ≡ u ++ t ∷ b.0 = append_assoc u (t ∷ []) b.0 in
        let all : a.reads (((u ++ t ∷ []) ++ b.0) ++ []) ≡ Ok (b.1, []) = la.complete ((u ++ t ∷ []) ++ b.0) [] b.1 b.2 refl in
        let read : a.reads (u ++ t ∷ b.0) ≡ Ok (b.1, []) = ap a.reads (sym (append-nil ((u ++ t ∷ []) ++ b.0) ∙ text)) ∙ all in
        let near : a.reads (u ++ t ∷ b.0) ≡ Ok (x, t ∷ b.0) = la.near u v [] b.0 (t ∷ v) t x h refl in
        let o = out_is b.1 x [] (t ∷ b.0) (sym read ∙ near) in
        absurd (let z = o.rest in cc)

    stuck : (u v : Symbols) (t : Symbol) → a.reads (u ++ t ∷ v) ≡ Err (t ∷ v) → Begins a (u ++ t ∷ []) → ⊥
    stuck u v t h b =
        let text : (u ++ t ∷ []) ++ b.0 ≡ u ++ t ∷ b.0 = append_assoc u (t ∷ []) b.0 in
        let all : a.reads (((u ++ t ∷ []) ++ b.0) ++ []) ≡ Ok (b.1, []) = la.complete ((u ++ t ∷ []) ++ b.0) [] b.1 b.2 refl in
        let read : a.reads (u ++ t ∷ b.0) ≡ Ok (b.1, []) = ap a.reads (sym (append-nil ((u ++ t ∷ []) ++ b.0) ∙ text)) ∙ all in
        let far : a.reads (u ++ t ∷ b.0) ≡ Err (t ∷ b.0) = la.far u v [] b.0 (t ∷ v) t h refl in
        absurd cc

    missing : (u : Symbols) → a.reads (u ++ []) ≡ Err [] → (x : X) → a.Has u x → ⊥
    missing u h x p = let all : a.reads (u ++ []) ≡ Ok (x, []) = la.complete u [] x p refl in absurd cc

    at : (rest : Symbols) → a.reads ts ≡ Err rest → IsRefusedAt a ts rest
    at [] h = let s = la.stops ts [] h in (s.0, s.3, (s.1, s.2, s.4), missing s.0 (ap a.reads (sym s.3) ∙ h))
    at (t ∷ rest) h = let s = la.stops ts (t ∷ rest) h in (s.0, s.3, (s.1, s.2, s.4), stuck s.0 rest t (ap a.reads (sym s.3) ∙ h))

    go : (r : Reading X) → a.reads ts ≡ r → to_end r ≡ Err rest → IsRefusedAt a ts rest
    go (Ok (y, [])) h f = absurd cc
    go (Ok (y, t ∷ after)) h f =
        let s = la.sound ts (t ∷ after) y h in
        let same : t ∷ after ≡ rest = cc f in
        let here : IsRefusedAt a ts (t ∷ after) = (s.0, s.1, ([], y, subst (λ (z : Symbols). a.Has z y) (sym (append-nil s.0)) s.2), left s.0 after t y (ap a.reads (sym s.1) ∙ h)) in
        subst (λ (z : Symbols). IsRefusedAt a ts z) same here
    go (Err after) h f = let same : after ≡ rest = cc f in subst (λ (z : Symbols). IsRefusedAt a ts z) same (at after h)

-- ---- there is one place

prefix_begins : {X : Type 0} (a : Form X) (u v : Symbols) → Begins a (u ++ v) → Begins a u
prefix_begins {X} a u v b = (v ++ b.0, b.1, subst (λ (z : Symbols). a.Has z b.1) (append_assoc u v b.0) b.2)

-- two prefixes of one text: one goes on where the other ends
fronts : (u v r s : Symbols) → u ++ r ≡ v ++ s → ((u ≡ v) × (r ≡ s)) ⊎ (((t : Symbol) × (w : Symbols) × (v ≡ (u ++ t ∷ []) ++ w) × (r ≡ t ∷ w ++ s)) ⊎ ((t : Symbol) × (w : Symbols) × (u ≡ (v ++ t ∷ []) ++ w) × (s ≡ t ∷ w ++ r)))
fronts [] [] r s e = inl (refl, e)
fronts [] (t ∷ v) r s e = inr (inl (t, v, refl, e))
fronts (t ∷ u) [] r s e = inr (inr (t, u, refl, sym e))
fronts (t ∷ u) (b ∷ v) r s e = elim (fronts u v r s tails) [
  | inl p ↦ inl (same p.0, p.1)
  | inr q ↦ elim q [
    | inl p ↦ inr (inl (p.0, p.1, front v ((u ++ p.0 ∷ []) ++ p.1) heads p.2, p.3))
    | inr p ↦ inr (inr (p.0, p.1, front u ((v ++ p.0 ∷ []) ++ p.1) (sym heads) p.2, p.3))
  ]
]
  where
    heads : t ≡ b
    heads = cc

    tails : u ++ r ≡ v ++ s
    tails = cc

    same : u ≡ v → t ∷ u ≡ b ∷ v
    same h = cc

    front : {c d : Symbol} (x y : Symbols) → c ≡ d → x ≡ y → d ∷ x ≡ c ∷ y
    front x y h k = cc

pub one_place : {X : Type 0} (a : Form X) (ts r s : Symbols) → IsRefusedAt a ts r → IsRefusedAt a ts s → r ≡ s
one_place {X} a ts r s p q = go (fronts p.0 q.0 r s (sym p.1 ∙ q.1))
  where
    later : (u v r' : Symbols) (t : Symbol) (w s' : Symbols) → v ≡ (u ++ t ∷ []) ++ w → r' ≡ t ∷ w ++ s' → Begins a v → IsStuck a u r' → ⊥
    later u v r' t w s' e h b k =
        let k2 : Begins a (u ++ t ∷ []) → ⊥ = subst (λ (z : Symbols). IsStuck a u z) h k in
        k2 (prefix_begins a (u ++ t ∷ []) w (subst (λ (z : Symbols). Begins a z) e b))

    go : ((p.0 ≡ q.0) × (r ≡ s)) ⊎ (((t : Symbol) × (w : Symbols) × (q.0 ≡ (p.0 ++ t ∷ []) ++ w) × (r ≡ t ∷ w ++ s)) ⊎ ((t : Symbol) × (w : Symbols) × (p.0 ≡ (q.0 ++ t ∷ []) ++ w) × (s ≡ t ∷ w ++ r))) → r ≡ s
    go (inl e) = e.1
    go (inr (inl e)) = absurd (later p.0 q.0 r e.0 e.1 s e.2 e.3 q.2 p.3)
    go (inr (inr e)) = absurd (later q.0 p.0 s e.0 e.1 r e.2 e.3 p.2 q.3)

-- there is one tree
pub one_tree : {X : Type 0} (a : Form X) → Laws a → (ts : Symbols) (x y : X) → a.Has ts x → a.Has ts y → x ≡ y
one_tree a la ts x y h k = (out_is x y [] [] (sym (la.complete ts [] x h refl) ∙ la.complete ts [] y k refl)).value
