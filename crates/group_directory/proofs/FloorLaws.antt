-- The floor, as transactions begin and end and the clock rises.
use Rattle.std.proofs.Common.{◌≡◌, ◌⊎◌, ℕ, zero, suc, ◌≤◌, add-one, Bool, true, false, cond, length, Option, Some, None, refl, sym, ap, subst, ◌∙◌, inl, inr, arith}
use Rattle.std.specs.Prelude.{◌==◌}
use Rattle.std.specs.Option.{unwrap_or}
use Rattle.std.proofs.lemmas.Bool.Decides.{nat_tests}
use Rattle.std.proofs.lemmas.Option.{none-some}
use Rattle.cs_model.specs.Floors.{IsFloor}
use Rattle.txn_table.specs.declared.txn.Txn.{Txn}
use Rattle.txn_table.specs.Txns.{Table, txn_of, with, deepened, fixed, widened, snapshot_of, snapshots_in, lesser_of}
use Rattle.txn_table.proofs.Least.{IsLeastBelow, least_none, least_more, floor_is}

-- ---- there is one

least_upto : (txns : ℕ → Option Txn) (n : ℕ) → (least : Option ℕ) × IsLeastBelow txns n least
least_upto txns zero = (None, least_none txns)
least_upto txns (suc n) = let rest = least_upto txns n in (lesser_of rest.0 (snapshot_of (txns n)), subst (λ (k : ℕ). IsLeastBelow txns k (lesser_of rest.0 (snapshot_of (txns n)))) (add-one n) (least_more txns n rest.0 rest.1))

pub floor_there : (table : Table) (clock : ℕ) → (floor : ℕ) × IsFloor (snapshots_in (txn_of table)) clock floor
floor_there table clock = let found = least_upto (txn_of table) (length table.txns) in (unwrap_or found.0 clock, floor_is table.txns clock found.0 found.1)

-- ---- it stays

pub floor_same : (taken other : ℕ → Option ℕ) (clock floor : ℕ) → ((session : ℕ) → other session ≡ taken session) → IsFloor taken clock floor → IsFloor other clock floor
floor_same taken other clock floor same f = record {
  least = λ session s is. f.least session s (sym (same session) ∙ is);
  one_of = elim f.one_of [
    | inl one ↦ inl (one.0, same one.0 ∙ one.1)
    | inr none ↦ inr (none.0, λ session. same session ∙ none.1 session)
  ];
}

-- one session's transaction has the same snapshot as before
pub snapshots_same : (txns : ℕ → Option Txn) (session : ℕ) (o : Option Txn) → snapshot_of o ≡ snapshot_of (txns session) → (s : ℕ) → snapshots_in (with txns session o) s ≡ snapshots_in txns s
snapshots_same txns session o same s = at (s == session) refl
  where
    at : (t : Bool) → (s == session) ≡ t → snapshot_of (cond t o (txns s)) ≡ snapshot_of (txns s)
    at true is = same ∙ ap (λ (i : ℕ). snapshot_of (txns i)) (let e : session ≡ s = grind (arith, nat_tests) in e)
    at false is = refl

pub snapshot-deepened : (depth : ℕ) (o : Option Txn) → snapshot_of (deepened depth o) ≡ snapshot_of o
snapshot-deepened depth None = refl
snapshot-deepened depth (Some txn) = refl

pub snapshot-widened : (writes : _) (o : Option Txn) → snapshot_of (widened writes o) ≡ snapshot_of o
snapshot-widened writes None = refl
snapshot-widened writes (Some txn) = refl

-- ---- a snapshot is taken

module _ (txns : ℕ → Option Txn) (clock floor session : ℕ) (low : (s n : ℕ) → snapshots_in txns s ≡ Some n → n ≤ clock) (f : IsFloor (snapshots_in txns) clock floor) where
  pub floor_low : floor ≤ clock
  floor_low = elim f.one_of [ inl one ↦ low one.0 floor one.1 | inr none ↦ let e = none.0 in omega (arith, e) ]

  abbrev taken_now : ℕ → Option ℕ
  taken_now = snapshots_in (with txns session (fixed clock (txns session)))

  -- what it was, or the clock where there was none
  snapshot-fixed : (o : Option Txn) (n : ℕ) → snapshot_of (fixed clock o) ≡ Some n → (snapshot_of o ≡ Some n) ⊎ (n ≡ clock)
  snapshot-fixed None n is = cc
  snapshot-fixed (Some txn) n is = at txn.snapshot is
    where
      at : (o : Option ℕ) → Some (unwrap_or o clock) ≡ Some n → (o ≡ Some n) ⊎ (n ≡ clock)
      at None is = inr (cc)
      at (Some m) is = inl is

  fixed_kept : (o : Option Txn) (n : ℕ) → snapshot_of o ≡ Some n → snapshot_of (fixed clock o) ≡ Some n
  fixed_kept None n is = is
  fixed_kept (Some txn) n is = ap (λ (o : Option ℕ). Some (unwrap_or o clock)) is

  fixed_none : (o : Option Txn) → snapshot_of o ≡ None → (snapshot_of (fixed clock o) ≡ Some clock) ⊎ (snapshot_of (fixed clock o) ≡ None)
  fixed_none None is = inr refl
  fixed_none (Some txn) is = inl (ap (λ (o : Option ℕ). Some (unwrap_or o clock)) is)

  at_session : taken_now session ≡ snapshot_of (fixed clock (txns session))
  at_session = let same : (session == session) ≡ true = grind (arith, nat_tests) in ap (λ (t : Bool). snapshot_of (cond t (fixed clock (txns session)) (txns session))) same

  elsewhere : (s : ℕ) → (s == session) ≡ false → taken_now s ≡ snapshots_in txns s
  elsewhere s is = ap (λ (t : Bool). snapshot_of (cond t (fixed clock (txns session)) (txns s))) is

  is_session : (s : ℕ) → (s == session) ≡ true → s ≡ session
  is_session s is = grind (arith, nat_tests)

  least_now : (s n : ℕ) → taken_now s ≡ Some n → floor ≤ n
  least_now s n is = at (s == session) refl
    where
      at : (t : Bool) → (s == session) ≡ t → floor ≤ n
      at false e = f.least s n (sym (elsewhere s e) ∙ is)
      at true e = elim (snapshot-fixed (txns session) n (sym at_session ∙ ap taken_now (sym (is_session s e)) ∙ is)) [
        | inl was ↦ f.least session n was
        | inr same ↦ let le = floor_low in omega (arith, le, same)
      ]

  kept_now : (s n : ℕ) → snapshots_in txns s ≡ Some n → taken_now s ≡ Some n
  kept_now s n is = at (s == session) refl
    where
      at : (t : Bool) → (s == session) ≡ t → taken_now s ≡ Some n
      at false e = elsewhere s e ∙ is
      at true e = ap taken_now (is_session s e) ∙ at_session ∙ fixed_kept (txns session) n (ap (snapshots_in txns) (sym (is_session s e)) ∙ is)

  none_now : snapshot_of (fixed clock (txns session)) ≡ None → ((s : ℕ) → snapshots_in txns s ≡ None) → (s : ℕ) → taken_now s ≡ None
  none_now none all s = at (s == session) refl
    where
      at : (t : Bool) → (s == session) ≡ t → taken_now s ≡ None
      at false e = elsewhere s e ∙ all s
      at true e = ap taken_now (is_session s e) ∙ at_session ∙ none

  pub floor_fixed : IsFloor taken_now clock floor
  floor_fixed = record {
    least = least_now;
    one_of = elim f.one_of [
      | inl one ↦ inl (one.0, kept_now one.0 floor one.1)
      | inr none ↦ elim (fixed_none (txns session) (none.1 session)) [
        | inl clocked ↦ inl (session, at_session ∙ clocked ∙ ap Some (sym none.0))
        | inr still ↦ inr (none.0, none_now still none.1)
      ]
    ];
  }

  -- ---- a transaction ends, and the clock may rise

  abbrev taken_left : ℕ → Option ℕ
  taken_left = snapshots_in (with txns session None)

  left_was : (s n : ℕ) → taken_left s ≡ Some n → snapshots_in txns s ≡ Some n
  left_was s n = at (s == session)
    where
      at : (t : Bool) → snapshot_of (cond t None (txns s)) ≡ Some n → snapshot_of (txns s) ≡ Some n
      at true is = cc
      at false is = is

  pub floor_ended : (now later : ℕ) → clock ≤ now → IsFloor taken_left now later → floor ≤ later
  floor_ended now later rises g = elim g.one_of [
    | inl one ↦ f.least one.0 later (left_was one.0 later one.1)
    | inr none ↦ let e = none.0 in let le = floor_low in omega (arith, e, le, rises)
  ]

-- ---- the clock rises
pub floor_risen : (taken : ℕ → Option ℕ) (clock now floor later : ℕ) → clock ≤ now → IsFloor taken clock floor → IsFloor taken now later → floor ≤ later
floor_risen taken clock now floor later rises f g = at f.one_of g.one_of
  where
    at : ((session : ℕ) × (taken session ≡ Some floor)) ⊎ ((floor ≡ clock) × ((session : ℕ) → taken session ≡ None))
        → ((session : ℕ) × (taken session ≡ Some later)) ⊎ ((later ≡ now) × ((session : ℕ) → taken session ≡ None)) → floor ≤ later
    at one (inl other) = f.least other.0 later other.1
    at (inl one) (inr none) = absurd (none-some floor (sym (none.1 one.0) ∙ one.1))
    at (inr also) (inr none) = let p = also.0 in let q = none.0 in omega (arith, p, q, rises)
