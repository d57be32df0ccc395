-- The numbers of a legal log's state.
use Rattle.std.proofs.Common.{◌≡◌, ℕ, ◌+◌, ◌-◌, ◌<◌, ◌≤◌, List, [], ◌∷◌, ◌++◌, length, get_or, refl, sym, ap, subst, subst₂, ◌∙◌, Bool, true, false, arith, Option, None, Some, All, nat_lt}
use Rattle.std.specs.Prelude.{◌==◌}
use Rattle.std.specs.List.Sorted.{IsNonDecreasingBy}
use Rattle.std.proofs.lemmas.List.{get_or_append_left, get_or-append-add, length-append}
use Rattle.std.proofs.lemmas.List.Elements.{All-nil, All-append, All-map, All-weaker}
use Rattle.std.proofs.lemmas.Bool.Decides.{nat_tests}
use Rattle.cs_model.specs.declared.entry.Entry.{Entry}
use Rattle.cs_model.specs.Actors.{actor_of}
use Rattle.cs_model.specs.Changes.{Edit, Change}
use Rattle.cs_model.specs.State.{Txn, State, Begin}
use Rattle.cs_model.specs.Steps.{Leads, Legal, numbered, is_empty}
use Rattle.log_laws.specs.Frames.{Frames, SnapIn, SnapAtMost, IsDrawn, Ticks}
use Rattle.log_laws.specs.Laws.{NumberedBelow, DrawnBelow, CommitsAscend, IsSound}
use Rattle.log_laws.proofs.Framed.{framed, clock_step}

-- ---- how far the numbers go

pub small_from : (begin : Begin) (m after : State) (es : List Entry) → Leads begin m es after → (after.next ≤ m.next + length es) × (after.clock ≤ m.clock + length es)
small_from begin m after [] l = subst (λ (x : State). (x.next ≤ m.next + 0) × (x.clock ≤ m.clock + 0)) (sym l) (omega arith, omega arith)
small_from begin m after (e ∷ es) l =
    let f = framed begin m e l.0 l.1 in
    let c = clock_step m e l.0 f in
    let rest = small_from begin l.0 after es l.2 in
    (omega (arith, rest.0, f.next), omega (arith, rest.1, c.0))

pub small : (begin : Begin) (log : List Entry) (m : State) → Legal begin log m → (m.next ≤ begin.state.next + length log) × (m.clock ≤ begin.state.clock + length log)
small begin log m l = small_from begin begin.state m log l

-- the clock never falls
pub clock_later : (begin : Begin) (m after : State) (es : List Entry) → Leads begin m es after → m.clock ≤ after.clock
clock_later begin m after [] l = subst (λ (x : State). m.clock ≤ x.clock) (sym l) (omega arith)
clock_later begin m after (e ∷ es) l =
    let c = clock_step m e l.0 (framed begin m e l.0 l.1) in
    let rest = clock_later begin l.0 after es l.2 in
    omega (arith, rest, c.1)

-- ---- what holds of every state that is led to

-- a law of states holds after the entries where each entry keeps it
kept_from : (P : State → Type 0) (begin : Begin) → ((m : State) (e : Entry) (after : State) → Frames m e after → P m → P after)
    → (m after : State) (es : List Entry) → Leads begin m es after → P m → P after
kept_from P begin step m after [] l p = subst P (sym l) p
kept_from P begin step m after (e ∷ es) l p = kept_from P begin step l.0 after es l.2 (step m e l.0 (framed begin m e l.0 l.1) p)

-- ---- snapshots are at most the clock

snap_at_on : (o : Option ℕ) (a b : ℕ) → a ≤ b → SnapAtMost o a → SnapAtMost o b
snap_at_on None a b le p = tt
snap_at_on (Some s) a b le p = omega (arith, le, p)

snap_on : (o : Option Txn) (a b : ℕ) → a ≤ b → SnapIn o a → SnapIn o b
snap_on None a b le p = tt
snap_on (Some txn) a b le p = snap_at_on txn.snapshot a b le p

pub snap_step : (s : ℕ) (m : State) (e : Entry) (after : State) → Frames m e after → SnapIn (m.txns s) m.clock → SnapIn (after.txns s) after.clock
snap_step s m e after f p = snap_on (after.txns s) m.clock after.clock ((clock_step m e after f).1) (at (s == actor_of e) refl)
  where
    at : (b : Bool) → (s == actor_of e) ≡ b → SnapIn (after.txns s) m.clock
    at true t =
        let is : s ≡ actor_of e = grind (arith, nat_tests) in
        subst (λ n. SnapIn (after.txns n) m.clock) (sym is) (f.snap (subst (λ n. SnapIn (m.txns n) m.clock) is p))
    at false t = subst (λ o. SnapIn o m.clock) (sym (f.txns s t)) p

pub snaps : (begin : Begin) (log : List Entry) (m : State) (s : ℕ) → IsSound begin.state → Legal begin log m → SnapIn (m.txns s) m.clock
snaps begin log m s sound l = kept_from (λ x. SnapIn (x.txns s) x.clock) begin (snap_step s) begin.state m log l (sound.snapshots s)

-- ---- open transactions have drawn their numbers

drawn_on : (o : Option Txn) (a b : ℕ) → a ≤ b → IsDrawn o a → IsDrawn o b
drawn_on None a b le p = tt
drawn_on (Some txn) a b le p = omega (arith, le, p)

drawn_step : (s : ℕ) (m : State) (e : Entry) (after : State) → Frames m e after → IsDrawn (m.txns s) m.next → IsDrawn (after.txns s) after.next
drawn_step s m e after f p = at (s == actor_of e) refl
  where
    at : (b : Bool) → (s == actor_of e) ≡ b → IsDrawn (after.txns s) after.next
    at true t =
        let is : s ≡ actor_of e = grind (arith, nat_tests) in
        subst (λ n. IsDrawn (after.txns n) after.next) (sym is) (f.drawn (subst (λ n. IsDrawn (m.txns n) m.next) is p))
    at false t = drawn_on (after.txns s) m.next after.next f.later (subst (λ o. IsDrawn o m.next) (sym (f.txns s t)) p)

-- ---- the changes

-- each change of a commit of these writes
all_numbered : (P : Change → Type 0) (k t : ℕ) (own : List Edit) → ((edit : Edit) → P (record { commit = k; txn = t; edit = edit })) → All P (numbered k t own)
all_numbered P k t own p = All-map P (λ edit. record { commit = k; txn = t; edit = edit }) own (λ i d lt. p _)

pub commits_of : (k t : ℕ) (own : List Edit) → All (λ (change : Change). change.commit ≡ k) (numbered k t own)
commits_of k t own = all_numbered (λ (change : Change). change.commit ≡ k) k t own (λ edit. refl)

late : (clock t : ℕ) (own : List Edit) (after : ℕ) → Ticks clock own after → All (λ (change : Change). change.commit ≤ after) (numbered (clock + 1) t own)
late clock t [] after k = All-nil (λ (change : Change). change.commit ≤ after)
late clock t (x ∷ own) after k = let is = k.committed refl in all_numbered (λ (change : Change). change.commit ≤ after) (clock + 1) t (x ∷ own) (λ edit. omega (arith, is))

numbered_step : (m : State) (e : Entry) (after : State) → Frames m e after → NumberedBelow m → NumberedBelow after
numbered_step m e after f p =
    let ge = (clock_step m e after f).1 in
    let old : All (λ (change : Change). change.commit ≤ after.clock) m.changes =
    All-weaker (λ (change : Change). change.commit ≤ m.clock) (λ (change : Change). change.commit ≤ after.clock) (λ change le. omega (arith, ge, le)) m.changes p in
    let new : All (λ (change : Change). change.commit ≤ after.clock) (numbered (m.clock + 1) f.txn f.own) =
    late m.clock f.txn f.own after.clock f.clock in
    subst (All (λ (change : Change). change.commit ≤ after.clock)) (sym f.changes) (All-append (λ (change : Change). change.commit ≤ after.clock) m.changes (numbered (m.clock + 1) f.txn f.own) old new)

-- ---- the changes' transactions

pub record Drawn (m : State) : Type 0 where
  pub open_txns : (s : ℕ) → IsDrawn (m.txns s) m.next
  pub changes : DrawnBelow m

writers : (n k t : ℕ) (own : List Edit) → (is_empty own ≡ false → t < n) → All (λ (change : Change). change.txn < n) (numbered k t own)
writers n k t [] lt = All-nil (λ (change : Change). change.txn < n)
writers n k t (x ∷ own) lt = all_numbered (λ (change : Change). change.txn < n) k t (x ∷ own) (λ edit. lt refl)

pub all_drawn : (m : State) (e : Entry) (after : State) → Frames m e after → Drawn m → Drawn after
all_drawn m e after f p =
    let ge = f.later in
    let mine = p.open_txns (actor_of e) in
    let old : All (λ (change : Change). change.txn < after.next) m.changes =
    All-weaker (λ (change : Change). change.txn < m.next) (λ (change : Change). change.txn < after.next) (λ change lt. omega (arith, ge, lt)) m.changes p.changes in
    let new : All (λ (change : Change). change.txn < after.next) (numbered (m.clock + 1) f.txn f.own) =
    writers after.next (m.clock + 1) f.txn f.own (λ e. let lt = f.writer mine e in omega (arith, ge, lt)) in
    record {
      open_txns = λ s. drawn_step s m e after f (p.open_txns s);
      changes = subst (All (λ (change : Change). change.txn < after.next)) (sym f.changes) (All-append (λ (change : Change). change.txn < after.next) m.changes (numbered (m.clock + 1) f.txn f.own) old new);
    }

-- ---- commit numbers ascend

module _ {X : Type 0} (n : X → ℕ) where
  ascend_append : (xs ys : List X) (c : ℕ) → IsNonDecreasingBy n xs → All (λ x. n x ≤ c) xs → All (λ y. n y ≡ c + 1) ys → IsNonDecreasingBy n (xs ++ ys)
  ascend_append xs ys c up below same i j d le lt = at (nat_lt i (length xs)) (nat_lt j (length xs)) refl refl
    where
      left : (k : ℕ) → k < length xs → get_or (xs ++ ys) k d ≡ get_or xs k d
      left k h = get_or_append_left xs ys d k h

      right : (k : ℕ) → length xs ≤ k → k < length (xs ++ ys) → n (get_or (xs ++ ys) k d) ≡ c + 1
      right k h within =
          let back : length xs + (k - length xs) ≡ k = omega (arith, h) in
          let long = length-append xs ys in
          ap (λ q. n (get_or (xs ++ ys) q d)) (sym back) ∙ ap n (get_or-append-add xs ys (k - length xs) d) ∙ same (k - length xs) d (omega (arith, h, within, long))

      at : (t u : Bool) → nat_lt i (length xs) ≡ t → nat_lt j (length xs) ≡ u → n (get_or (xs ++ ys) i d) ≤ n (get_or (xs ++ ys) j d)
      at t true e g =
          let lj : j < length xs = grind (arith, nat_tests, g) in
          let li : i < length xs = omega (arith, le, lj) in
          subst₂ (λ x y. n x ≤ n y) (sym (left i li)) (sym (left j lj)) (up i j d le lj)
      at true false e g =
          let li : i < length xs = grind (arith, nat_tests, e) in
          let lj : length xs ≤ j = grind (arith, nat_tests, g) in
          let a : n (get_or (xs ++ ys) i d) ≤ c = subst (λ x. n x ≤ c) (sym (left i li)) (below i d li) in
          let b = right j lj lt in
          omega (arith, a, b)
      at false false e g =
          let li : length xs ≤ i = grind (arith, nat_tests, e) in
          let lj : length xs ≤ j = grind (arith, nat_tests, g) in
          let a = right i li (omega (arith, le, lt)) in
          let b = right j lj lt in
          omega (arith, a, b)

pub record Ascends (m : State) : Type 0 where
  pub below : NumberedBelow m
  pub up : CommitsAscend m

pub ascends_step : (m : State) (e : Entry) (after : State) → Frames m e after → Ascends m → Ascends after
ascends_step m e after f p = record {
  below = numbered_step m e after f p.below;
  up = subst (IsNonDecreasingBy (λ (change : Change). change.commit)) (sym f.changes)
      (ascend_append (λ (change : Change). change.commit) m.changes (numbered (m.clock + 1) f.txn f.own) m.clock p.up p.below (commits_of (m.clock + 1) f.txn f.own));
}
