-- The least snapshot of the sessions below a bound.
use Rattle.std.proofs.Common.{◌≡◌, ℕ, ◌+◌, ◌<◌, ◌≤◌, min, List, length, refl, sym, ap, ◌∙◌, subst, arith, inl, inr, Option, Some, None, IfSome}
use Rattle.std.specs.Option.{IsSomeAnd, unwrap_or}
use Rattle.std.proofs.lemmas.Bool.{cases_lt}
use Rattle.std.proofs.lemmas.Option.{slice_get_past}
use Rattle.txn_table.specs.declared.txn.Txn.{Txn}
use Rattle.cs_model.specs.Floors.{IsFloor}
use Rattle.txn_table.specs.Txns.{txn_at, or_none, snapshot_of, snapshots_in, lesser_of}

-- the least snapshot of the sessions below n
pub record IsLeastBelow (txns : ℕ → Option Txn) (n : ℕ) (least : Option ℕ) : Type 0 where
  pub below : (session s : ℕ) → session < n → snapshot_of (txns session) ≡ Some s → IsSomeAnd least (λ m. m ≤ s)
  pub is : IfSome least (λ m. (session : ℕ) × (snapshot_of (txns session) ≡ Some m))

pub least_none : (txns : ℕ → Option Txn) → IsLeastBelow txns 0 None
least_none txns = record { below = λ session s l e. absurd (omega (arith, l)); is = tt }

still : (least other : Option ℕ) (s : ℕ) → IsSomeAnd least (λ m. m ≤ s) → IsSomeAnd (lesser_of least other) (λ m. m ≤ s)
still None other s h = absurd h
still (Some m) None s h = h
still (Some m) (Some n) s h = omega (arith, h)

other_is : (least other : Option ℕ) (s : ℕ) → other ≡ Some s → IsSomeAnd (lesser_of least other) (λ m. m ≤ s)
other_is None other s e = subst (λ (o : Option ℕ). IsSomeAnd o (λ m. m ≤ s)) (sym e) (omega arith)
other_is (Some m) None s e = absurd (cc e)
other_is (Some m) (Some n) s e = let same : n ≡ s = cc in omega arith

min_is : (P : ℕ → Type 0) (m n : ℕ) → P m → P n → P (min m n)
min_is P m n p q = elim (cases_lt m n) [
  | inl l ↦ let e : m ≡ min m n = omega arith in subst P e p
  | inr l ↦ let e : n ≡ min m n = omega arith in subst P e q
]

one_is : (P : ℕ → Type 0) (least other : Option ℕ) → IfSome least P → IfSome other P → IfSome (lesser_of least other) P
one_is P None other h k = k
one_is P (Some m) None h k = h
one_is P (Some m) (Some n) h k = min_is P m n h k

itself : (o : Option ℕ) (Q : Option ℕ → Type 0) → Q o → IfSome o (λ m. Q (Some m))
itself None Q q = tt
itself (Some m) Q q = q

-- one session more
pub least_more : (txns : ℕ → Option Txn) (n : ℕ) (least : Option ℕ) → IsLeastBelow txns n least → IsLeastBelow txns (n + 1) (lesser_of least (snapshot_of (txns n)))
least_more txns n least h = record {
  below = λ session s l e. elim (cases_lt session n) [
    | inl before ↦ still least (snapshot_of (txns n)) s (h.below session s before e)
    | inr after ↦ let here : n ≡ session = omega arith in other_is least (snapshot_of (txns n)) s (ap (λ i. snapshot_of (txns i)) here ∙ e)
  ];
  is = one_is (λ m. (session : ℕ) × (snapshot_of (txns session) ≡ Some m)) least (snapshot_of (txns n)) h.is
      (itself (snapshot_of (txns n)) (λ o. (session : ℕ) × (snapshot_of (txns session) ≡ o)) (n, refl));
}

past : (places : List (Option Txn)) (session : ℕ) → length places ≤ session → snapshot_of (txn_at places session) ≡ None
past places session over = ap (λ o. snapshot_of (or_none o)) (slice_get_past places session over)

-- the floor of all places
pub floor_is : (places : List (Option Txn)) (clock : ℕ) (least : Option ℕ) → IsLeastBelow (txn_at places) (length places) least → IsFloor (snapshots_in (txn_at places)) clock (unwrap_or least clock)
floor_is places clock None h = record {
  least = λ session s e. absurd (none session s e);
  one_of = inr (refl, λ session. nothing session (snapshot_of (txn_at places session)) refl);
}
  where
    none : (session s : ℕ) → snapshot_of (txn_at places session) ≡ Some s → ⊥
    none session s e = elim (cases_lt session (length places)) [
      | inl within ↦ h.below session s within e
      | inr over ↦ differ s (sym (past places session over) ∙ e)
    ]
      where
        differ : (s : ℕ) → None ≡ Some s → ⊥
        differ s e = cc

    nothing : (session : ℕ) (o : Option ℕ) → snapshot_of (txn_at places session) ≡ o → snapshot_of (txn_at places session) ≡ None
    nothing session None e = e
    nothing session (Some s) e = absurd (none session s e)
floor_is places clock (Some m) h = record {
  least = λ session s e. elim (cases_lt session (length places)) [
    | inl within ↦ h.below session s within e
    | inr over ↦ absurd (differ s (sym (past places session over) ∙ e))
  ];
  one_of = inl h.is;
}
  where
    differ : (s : ℕ) → None ≡ Some s → ⊥
    differ s e = cc
