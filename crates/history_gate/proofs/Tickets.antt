-- The tickets that are out, and the numbers that are shared out, as one view changes.
use Rattle.std.proofs.Common.{◌≡◌, ◌≢◌, ℕ, ◌+◌, ◌-◌, ◌<◌, ◌≤◌, ◌⊎◌, cond, List, length, set, sym, refl, ap, ◌∙◌, inl, inr, ⊎_elim, arith, eq-eqb, ne_eqb, sum_by, Option, Some, None, length-append}
use Rattle.std.proofs.lemmas.List.{length-map}
use mathlib.Core.Logic.{dite}
use mathlib.Core.Option.{some}
use native.Mathlib.Decide.{ℕ_discrete}
use lib.ListN.{get_elem?}
use Rattle.std.proofs.lemmas.Bool.Decides.{leb_tells}
use Rattle.history_gate.specs.declared.rule.View.{View}
use Rattle.history_gate.specs.Histories.{own_numbers}
use Rattle.history_gate.specs.Views.{one_if_some, one_if_at, times, shares, tickets, tickets_at, share_count, shares_of, with_ticket, IsSpent}
use Rattle.history_gate.specs.Rule.{IsQueue, AreShared}
use Rattle.history_gate.proofs.Sums.{sum_set, sum_at, sum_two, sum_same}

pub at_same : (t k : ℕ) → t ≡ k → one_if_at k (Some t) ≡ 1
at_same t k e = ap (λ b. cond b 1 0) (eq-eqb t k e)

pub at_else : (t k : ℕ) → t ≢ k → one_if_at k (Some t) ≡ 0
at_else t k n = ap (λ b. cond b 1 0) (ne_eqb t k n)

at_most_one : (o : Option ℕ) → one_if_some o ≤ 1
at_most_one None = omega arith
at_most_one (Some t) = omega arith

module _ {E : Type 0} where
  -- a view has at most as many tickets as numbers
  pub ticket_share : (v : View E) → IsSpent v ⊎ (0 < length v.own) → tickets v ≤ share_count v
  ticket_share v h = ⊎_elim (λ (gone : IsSpent v). omega (arith, ap one_if_some gone.0))
      (λ (some_own : 0 < length v.own). omega (arith, some_own, at_most_one v.ticket, length-append (own_numbers v.own) v.reserve, length-map v.own (λ (p : ℕ × List E). p.0))) h

  pub queue_set : (served out : ℕ) (vs : List (View E)) (id : ℕ) (v w : View E) → get_elem? vs id ≡ some v → w.ticket ≡ v.ticket → IsQueue served out vs → IsQueue served out (set vs id w)
  queue_set served out vs id v w at same q = record {
    count = sum_same tickets vs id v w out at (ap one_if_some same) q.count;
    waiting = λ k low high. sum_same (tickets_at k) vs id v w 1 at (ap (one_if_at k) same) (q.waiting k low high);
    others = λ k o. sum_same (tickets_at k) vs id v w 0 at (ap (one_if_at k) same) (q.others k o);
  }

  pub shared_set : (seats : ℕ) (vs : List (View E)) (id : ℕ) (v w : View E) → get_elem? vs id ≡ some v → shares w ≡ shares v → AreShared seats vs → AreShared seats (set vs id w)
  shared_set seats vs id v w at same all = record {
    count = sum_same share_count vs id v w seats at (ap length same) all.count;
    once = λ n low. sum_same (shares_of n) vs id v w 1 at (ap (times n) same) (all.once n low);
    no_others = λ n low. sum_same (shares_of n) vs id v w 0 at (ap (times n) same) (all.no_others n low);
  }

  -- one ticket more
  pub queue_drawn : (served out : ℕ) (vs : List (View E)) (id : ℕ) (v : View E) → get_elem? vs id ≡ some v → v.ticket ≡ None → IsQueue served out vs → IsQueue served (out + 1) (set vs id (with_ticket v (served + out)))
  queue_drawn served out vs id v at idle q =
      let t : ℕ = served + out in
      let w : View E = with_ticket v t in
      let none_at : (k : ℕ) → tickets_at k v ≡ 0 = λ k. ap (one_if_at k) idle in record {
        count = omega (arith, sum_set tickets vs id v w at, ap one_if_some idle, q.count);
        waiting = λ k low high. dite (ℕ_discrete t k)
            (λ e. omega (arith, sum_set (tickets_at k) vs id v w at, none_at k, at_same t k e, q.others k (inr (omega arith))))
            (λ ne. omega (arith, sum_set (tickets_at k) vs id v w at, none_at k, at_else t k ne, q.waiting k low (omega arith)));
        others = λ k o. let ne : t ≢ k = λ e. ⊎_elim (λ (h : k < served). omega arith) (λ (h : served + (out + 1) ≤ k). omega arith) o in
            let o' : (k < served) ⊎ (served + out ≤ k) = ⊎_elim inl (λ (h : served + (out + 1) ≤ k). inr (omega arith)) o in
            omega (arith, sum_set (tickets_at k) vs id v w at, none_at k, at_else t k ne, q.others k o');
      }

  -- the served ticket is gone
  pub queue_served : (served out : ℕ) (vs : List (View E)) (id : ℕ) (v w : View E) → get_elem? vs id ≡ some v → v.ticket ≡ Some served → w.ticket ≡ None → IsQueue served out vs
      → IsQueue (served + 1) (out - 1) (set vs id w)
  queue_served served out vs id v w at mine gone q =
      let one : tickets v ≡ 1 = ap one_if_some mine in
      let none_left : tickets w ≡ 0 = ap one_if_some gone in
      let some_out : 1 ≤ out = omega (arith, one, sum_at tickets vs id v at, q.count) in
      let before : (k : ℕ) → tickets_at k v ≡ one_if_at k (Some served) = λ k. ap (one_if_at k) mine in
      let after : (k : ℕ) → tickets_at k w ≡ 0 = λ k. ap (one_if_at k) gone in record {
        count = omega (arith, sum_set tickets vs id v w at, one, none_left, q.count);
        waiting = λ k low high. omega (arith, sum_set (tickets_at k) vs id v w at, before k, after k, at_else served k (λ e. omega arith), q.waiting k (omega arith) (omega arith));
        others = λ k o. dite (ℕ_discrete served k)
            (λ e. omega (arith, sum_set (tickets_at k) vs id v w at, before k, after k, at_same served k e, q.waiting k (omega arith) (omega arith)))
            (λ ne. omega (
              arith,
              sum_set (tickets_at k) vs id v w at,
              before k,
              after k,
              at_else served k ne,
              q.others k (⊎_elim (λ (h : k < served + 1). inl (omega arith)) (λ (h : (served + 1) + (out - 1) ≤ k). inr (omega arith)) o),
            ));
      }

  -- a ticket that a view has is in the queue
  pub in_queue : (served out : ℕ) (vs : List (View E)) (id : ℕ) (v : View E) (t : ℕ) → IsQueue served out vs → get_elem? vs id ≡ some v → v.ticket ≡ Some t → (served ≤ t) × (t < served + out)
  in_queue served out vs id v t q at has =
      let one : tickets_at t v ≡ 1 = ap (one_if_at t) has ∙ at_same t t refl in
      let more : tickets_at t v ≤ sum_by (tickets_at t) vs = sum_at (tickets_at t) vs id v at in (
        ⊎_elim (λ u. u.1) (λ u. absurd (let z = q.others t (inl u.1) in omega arith)) (leb_tells served t),
        ⊎_elim (λ u. absurd (let z = q.others t (inr u.1) in omega arith)) (λ u. u.1) (leb_tells (served + out) t),
      )

  -- no two views have one ticket
  pub apart : (served out : ℕ) (vs : List (View E)) (id j : ℕ) (v d : View E) (t : ℕ) → IsQueue served out vs → j ≢ id → get_elem? vs id ≡ some v → get_elem? vs j ≡ some d → v.ticket ≡ Some t → d.ticket ≡ Some t → ⊥
  apart served out vs id j v d t q ne at there mine also =
      let one : tickets_at t v ≡ 1 = ap (one_if_at t) mine ∙ at_same t t refl in
      let two : tickets_at t d ≡ 1 = ap (one_if_at t) also ∙ at_same t t refl in
      let range = in_queue served out vs id v t q at mine in
      let z = q.waiting t range.0 range.1 in
      omega (arith, sum_two (tickets_at t) vs id j v d (λ e. ne (sym e)) at there, one, two, z)
