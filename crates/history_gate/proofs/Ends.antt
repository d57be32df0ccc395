-- The first state, a view that is cut in two, two that are joined, and the last state.
use Rattle.std.proofs.Common.{◌≡◌, ◌≢◌, ℕ, zero, suc, ◌+◌, ◌-◌, ◌^◌, ◌<◌, ◌≤◌, ◌==◌, Bool, true, false, cond, List, [], ◌∷◌, ◌++◌, length, get_or, set, sym, refl, ap, ◌∙◌, subst, inl, inr, ⊎_elim, arith, eq-eqb, sum_by, Option, Some, None, All, Contains, length-append}
use mathlib.Core.Logic.{dite}
use mathlib.Core.Option.{some, none, some-injective}
use mathlib.Core.List.{IsPrefix, map-append}
use native.Mathlib.Decide.{ℕ_discrete}
use lib.ListN.{get_elem?}
use Rattle.std.specs.List.{range_with_len}
use Rattle.std.proofs.lemmas.Bool.Decides.{leb_tells}
use Rattle.std.proofs.lemmas.List.Sums.{sum_by-cons}
use Rattle.std.proofs.lemmas.List.FromFn.{length-range_with_len}
use Rattle.std.proofs.lemmas.List.Elements.{All-contains, All-append, Contains-append_cases}
use Rattle.atomic_table.specs.Table.{State, opening, Splits, Joins, Final, Seen}
use Rattle.atomic_table.specs.Seated.{TableId}
use Rattle.atomic_table.proofs.Lists.{at_snoc, set_else}
use Rattle.history_gate.specs.declared.rule.View.{View}
use Rattle.history_gate.specs.Histories.{own_numbers, without, entries_of, Tells}
use Rattle.history_gate.specs.Passes.{GateState, PassState, HasNumber}
use Rattle.history_gate.specs.Views.{one_if_some, one_if_at, times, shares, tickets, tickets_at, turns, share_count, shares_of, founder, giving, given, joined, spent}
use Rattle.history_gate.specs.Rule.{IsViewOf, IsSlotOf, KeepsHistory}
use Rattle.history_gate.proofs.Sums.{sum_set, sum_more, sum_at, sum_two, sum_none}
use Rattle.history_gate.proofs.Numbers.{times_both, times_at, times_cons, times_contained, times_in, times_out, one_is, one_not, times_without, length_without, All-without}
use Rattle.history_gate.proofs.Tickets.{ticket_share}
use Rattle.history_gate.proofs.Keeps.{each_set}

module _ {E X : Type 0} (number : E → ℕ) (list : X → List E) (seats : ℕ) where
  abbrev V : Type 0
  V = View E

  abbrev St : Type 0
  St = State (Option X) V

  abbrev Rule : St → Type 0
  Rule = KeepsHistory number list seats

  abbrev Knows : List E → ℕ → V → Type 0
  Knows = IsViewOf number

  sum_single : (f : V → ℕ) (v : V) → sum_by f (v ∷ []) ≡ f v
  sum_single f v = omega (arith, sum_by-cons f v [])

  pub opened : (x : X) → 0 < seats → seats < 2 ^ 32 → list x ≡ [] → Rule (opening (0 ∷ 0 ∷ []) (Some x ∷ []) (founder seats))
  opened x some_seat few empty = record {
    served = 0;
    out = 0;
    history = [];
    words = refl;
    queue = record {
      count = refl;
      waiting = λ k low high. absurd (omega arith);
      others = λ k o. refl;
    };
    slot = inr (x, refl, empty, refl);
    few = few;
    shared = record {
      count = omega (arith, sum_single share_count (founder seats), length-range_with_len 1 (seats - 1));
      once = λ n low. dite (ℕ_discrete 0 n)
          (λ e. omega (arith, sum_single (shares_of n) (founder seats), times_cons n 0 (range_with_len 1 (seats - 1)), one_is 0 n e, times_out n 1 (seats - 1) (inl (omega arith))))
          (λ ne. omega (arith, sum_single (shares_of n) (founder seats), times_cons n 0 (range_with_len 1 (seats - 1)), one_not 0 n ne, times_in n 1 (seats - 1) (omega arith) (omega arith)));
      no_others = λ n low. omega (arith, sum_single (shares_of n) (founder seats), times_cons n 0 (range_with_len 1 (seats - 1)), one_not 0 n (λ e. omega arith), times_out n 1 (seats - 1) (inr (omega arith)));
    };
    below = λ k d lt. absurd (omega arith);
    each = λ j v e. first j v e;
  }
    where
      first : (j : ℕ) (v : V) → get_elem? (founder seats ∷ []) j ≡ some v → Knows [] 0 v
      first zero v e = subst (Knows [] 0) (some-injective (founder seats) v e) record {
        turn = λ l h. absurd (cc h);
        own = λ k d lt. own_empty k d lt;
        reserve = λ k d lt. refl;
        seen = ([], refl);
        numbered = inr (omega arith);
      }
        where
          own_empty : (k : ℕ) (d : ℕ × List E) → k < 1 → (get_or ((0, []) ∷ []) k d).1 ≡ entries_of number (get_or ((0, []) ∷ []) k d).0 []
          own_empty zero d lt = refl
          own_empty (suc k) d lt = absurd (omega arith)
      first (suc j) v e = absurd (cc e)

  pub splitting : (id : ℕ) (v : V) (n : ℕ) → v.ticket ≡ None → 0 < length v.own → Contains v.reserve n → Splits Rule id v (giving n v) (given n v)
  splitting id v n idle some_own has s r at =
      let left : V = giving n v in
      let right : V = given n v in
      let known : Knows r.history r.served v = r.each id v at in
      let mine : entries_of number n r.history ≡ [] = All-contains (λ m. entries_of number m r.history ≡ []) v.reserve n known.reserve has in
      let vs : List V = set s.views id left in
      let same : (f : V → ℕ) (m : ℕ) → f left + f right ≡ f v → sum_by f s.views ≡ m → sum_by f (vs ++ right ∷ []) ≡ m = λ f m e is. omega (arith, sum_more f vs right, sum_set f s.views id v left at, e, is) in
      let shares_same : (k : ℕ) → shares_of k left + shares_of k right ≡ shares_of k v = λ k. omega (arith, times_both k (own_numbers v.own) (without n v.reserve), times_both k (own_numbers v.own) v.reserve, times_without k n v.reserve has, times_cons k n []) in record {
        served = r.served;
        out = r.out;
        history = r.history;
        words = r.words;
        queue = record {
          count = same tickets r.out (omega arith) r.queue.count;
          waiting = λ k low high. same (tickets_at k) 1 (omega arith) (r.queue.waiting k low high);
          others = λ k o. same (tickets_at k) 0 (omega arith) (r.queue.others k o);
        };
        slot = subst (λ z. IsSlotOf number list r.history z s.homes) (sym (same turns (sum_by turns s.views) (omega arith) refl)) r.slot;
        few = r.few;
        shared = record {
          count = same share_count seats (omega (arith, length-append (own_numbers v.own) (without n v.reserve), length-append (own_numbers v.own) v.reserve, length_without n v.reserve has)) r.shared.count;
          once = λ k low. same (shares_of k) 1 (shares_same k) (r.shared.once k low);
          no_others = λ k low. same (shares_of k) 0 (shares_same k) (r.shared.no_others k low);
        };
        below = r.below;
        each = λ j d e. ⊎_elim
            (λ (h : get_elem? vs j ≡ some d). each_set (Knows r.history r.served) s.views id left record {
              turn = known.turn;
              own = known.own;
              reserve = All-without (λ m. entries_of number m r.history ≡ []) n v.reserve known.reserve;
              seen = known.seen;
              numbered = inr some_own;
            } (λ i c _. r.each i c) j d h)
            (λ (h : right ≡ d). subst (Knows r.history r.served) h record {
              turn = λ l g. absurd (cc g);
              own = λ k c lt. one_own k c r.history lt mine;
              reserve = λ k c lt. absurd (omega arith);
              seen = known.seen;
              numbered = inr (omega arith);
            })
            (at_snoc vs right d j e);
      }
    where
      one_own : (k : ℕ) (c : ℕ × List E) (history : List E) → k < 1 → entries_of number n history ≡ [] → (get_or ((n, []) ∷ []) k c).1 ≡ entries_of number (get_or ((n, []) ∷ []) k c).0 history
      one_own zero c history lt h = sym h
      one_own (suc k) c history lt h = absurd (omega arith)

  pub joining : (id : ℕ) (v : V) (other : ℕ) (w : V) → 0 < length v.own → w.ticket ≡ None → w.turn ≡ None → Joins Rule id v other w (joined v w) spent
  joining id v other w some_own idle free s r at ne there' =
      let both : V = joined v w in
      let vs : List V = set s.views id both in
      let there : get_elem? s.views other ≡ some w = sym (set_else s.views id other both ne) ∙ there' in
      let known : Knows r.history r.served v = r.each id v at in
      let known' : Knows r.history r.served w = r.each other w there in
      let same : (f : V → ℕ) (m : ℕ) → f both + f spent ≡ f v + f w → sum_by f s.views ≡ m → sum_by f (set vs other spent) ≡ m = λ f m e is. omega (arith, sum_set f vs other w spent there', sum_set f s.views id v both at, e, is) in
      let names : own_numbers both.own ≡ own_numbers v.own ++ own_numbers w.own = map-append (λ p. p.0) v.own w.own in
      let shares_same : (k : ℕ) → shares_of k both + shares_of {E = E} k spent ≡ shares_of k v + shares_of k w = λ k. omega (arith, ap (times k) (ap (λ ns. ns ++ (v.reserve ++ w.reserve)) names), times_both k (own_numbers v.own ++ own_numbers w.own) (v.reserve ++ w.reserve), times_both k (own_numbers v.own) (own_numbers w.own), times_both k v.reserve w.reserve, times_both k (own_numbers v.own) v.reserve, times_both k (own_numbers w.own) w.reserve) in
      let count_same : share_count both + share_count {E = E} spent ≡ share_count v + share_count w = omega (arith, ap length names, length-append (own_numbers both.own) (v.reserve ++ w.reserve), length-append (own_numbers v.own) (own_numbers w.own), length-append v.reserve w.reserve, length-append (own_numbers v.own) v.reserve, length-append (own_numbers w.own) w.reserve) in record {
        served = r.served;
        out = r.out;
        history = r.history;
        words = r.words;
        queue = record {
          count = same tickets r.out (omega (arith, ap one_if_some idle)) r.queue.count;
          waiting = λ k low high. same (tickets_at k) 1 (omega (arith, ap (one_if_at k) idle)) (r.queue.waiting k low high);
          others = λ k o. same (tickets_at k) 0 (omega (arith, ap (one_if_at k) idle)) (r.queue.others k o);
        };
        slot = subst (λ z. IsSlotOf number list r.history z s.homes) (sym (same turns (sum_by turns s.views) (omega (arith, ap one_if_some free)) refl)) r.slot;
        few = r.few;
        shared = record {
          count = same share_count seats count_same r.shared.count;
          once = λ k low. same (shares_of k) 1 (shares_same k) (r.shared.once k low);
          no_others = λ k low. same (shares_of k) 0 (shares_same k) (r.shared.no_others k low);
        };
        below = r.below;
        each = each_set (Knows r.history r.served) vs other spent record {
          turn = λ l g. absurd (cc g);
          own = λ k c lt. absurd (omega arith);
          reserve = λ k c lt. absurd (omega arith);
          seen = (r.history, refl);
          numbered = inl (refl, refl, refl, refl);
        } (λ j d _ h. each_set (Knows r.history r.served) s.views id both record {
          turn = known.turn;
          own = All-append (λ p. p.1 ≡ entries_of number p.0 r.history) v.own w.own known.own known'.own;
          reserve = All-append (λ m. entries_of number m r.history ≡ []) v.reserve w.reserve known.reserve known'.reserve;
          seen = known.seen;
          numbered = inr (omega (arith, some_own, length-append v.own w.own));
        } (λ i c _. r.each i c) j d h);
      }

  -- a view beside one that has all numbers has none
  nobody_else : (s : St) (r : Rule s) (id j : ℕ) (v d : V) → j ≢ id → get_elem? s.views id ≡ some v → get_elem? s.views j ≡ some d → ((n : ℕ) → n < seats → Contains (shares v) n)
      → (ns : List ℕ) → shares d ≡ ns → length ns ≡ 0
  nobody_else s r id j v d ne at there all [] e = refl
  nobody_else s r id j v d ne at there all (n ∷ ns) e =
      let some_of : 1 ≤ shares_of n d = subst (λ z. 1 ≤ times n z) (sym e) (times_at (n ∷ ns) 0 0 (omega arith)) in
      absurd (⊎_elim (λ u. omega (arith, some_of, r.shared.no_others n u.1, sum_at (shares_of n) s.views j d there))
      (λ u. omega (arith, some_of, r.shared.once n u.1, sum_two (shares_of n) s.views id j v d (λ q. ne (sym q)) at there, times_contained (shares v) n (all n u.1))) (leb_tells seats n))

  front_some : (b : Bool) (x : E) (xs : List E) → cond b (x ∷ xs) xs ≡ [] → xs ≡ []
  front_some true x xs e = absurd (cc e)
  front_some false x xs e = e

  entries_some : (history : List E) (k : ℕ) (d : E) → k < length history → entries_of number (number (get_or history k d)) history ≡ [] → ⊥
  entries_some [] k d lt e = omega arith
  entries_some (x ∷ xs) zero d lt e = let h : x ∷ entries_of number (number x) xs ≡ [] = subst (λ b. cond b (x ∷ entries_of number (number x) xs) (entries_of number (number x) xs) ≡ []) (eq-eqb (number x) (number x) refl) e in cc h
  entries_some (x ∷ xs) (suc k) d lt e = let n : ℕ = number (get_or xs k d) in entries_some xs k d (omega arith) (front_some (number x == n) x (entries_of number n xs) e)

  -- what the history of a closed gate is to a pass
  abbrev IsClosed : V → List E → Type 0
  IsClosed v history = IsPrefix v.seen history × Tells number v.own history × All (λ e. Contains (own_numbers v.own) (number e)) history × All (λ e. number e < seats) history

  closing : (id : ℕ) (v : V) → v.ticket ≡ None → v.turn ≡ None → ((n : ℕ) → n < seats → Contains (shares v) n) → (s : St) → Seen Rule id v s
      → (x : X) × (get_elem? s.homes 0 ≡ some (some (Some x))) × IsClosed v (list x)
  closing id v idle free all s seen =
      let r = seen.0 in
      let at = seen.1 in
      let known : Knows r.history r.served v = r.each id v at in
      let no_turns : sum_by turns s.views ≡ 0 = sum_none turns s.views (λ j d there. dite (ℕ_discrete j id)
      (λ e. let same : v ≡ d = some-injective v d (sym at ∙ ap (get_elem? s.views) (sym e) ∙ there) in ap turns (sym same) ∙ ap one_if_some free)
      (λ ne. let none_of : share_count d ≡ 0 = nobody_else s r id j v d ne at there all (shares d) refl in
      let old = r.each j d there in by d r.history r.served old.turn (omega (arith, none_of, ticket_share d old.numbered)) d.turn refl)) in
      let others : All (λ e. Contains (own_numbers v.own) (number e)) r.history = λ k d lt. let n : ℕ = number (get_or r.history k d) in
      ⊎_elim (λ c. c) (λ (c : Contains v.reserve n). absurd (entries_some r.history k d lt (All-contains (λ m. entries_of number m r.history ≡ []) v.reserve n known.reserve c)))
      (Contains-append_cases (own_numbers v.own) v.reserve n (all n (r.below k d lt))) in
      ⊎_elim (λ (p : (s.homes ≡ none ∷ []) × (sum_by turns s.views ≡ 1)). absurd (omega (arith, no_turns, p.1)))
      (λ (p : (x : X) × (s.homes ≡ some (Some x) ∷ []) × (list x ≡ r.history) × (sum_by turns s.views ≡ 0)).
      let facts = subst (IsClosed v) (sym p.2) (known.seen, known.own, others, r.below) in (p.0, ap (λ hs. get_elem? hs 0) p.1, facts)) r.slot
    where
      by : (d : V) (history : List E) (served : ℕ) → ((l : List E) → d.turn ≡ Some l → (l ≡ history) × (d.ticket ≡ Some served)) → tickets d ≤ 0 → (o : Option (List E)) → d.turn ≡ o → one_if_some o ≡ 0
      by d history served h few None e = refl
      by d history served h few (Some l) e = absurd (let one : tickets d ≡ 1 = ap one_if_some (h l e).1 in omega arith)

  -- what the closed table's slot has
  shut_view : (id : ℕ) (v : V) → v.ticket ≡ None → v.turn ≡ None → ((n : ℕ) → n < seats → Contains (shares v) n) → (ws : List ℕ) (xs : List (Option X)) → Final (Seen Rule id v) ws xs
      → (o : Option X) → get_elem? xs 0 ≡ some o → (x : X) × (o ≡ Some x) × IsClosed v (list x)
  shut_view id v idle free all ws xs final o is =
      let c = closing id v idle free all final.0 final.1 in
      let there : get_elem? xs 0 ≡ some (Some c.0) = final.4 0 (Some c.0) c.1 in
      (c.0, some-injective o (Some c.0) (sym is ∙ there), c.2)

  -- a pass and a gate, as contracts see them
  abbrev pub shown : TableId → V → PassState E
  shown gate v = record { gate = gate; own = v.own; reserve = v.reserve; seen = v.seen }

  abbrev pub gate_of : TableId → GateState
  gate_of gate = record { gate = gate; seats = seats }

  -- the same of a pass that has all numbers, as contracts see it
  pub shut : (id : ℕ) (v : V) → v.ticket ≡ None → v.turn ≡ None → (gate table : TableId) (pass : PassState E) (self : GateState) → shown gate v ≡ pass → gate_of table ≡ self
      → ((n : ℕ) → n < self.seats → HasNumber pass n) → (ws : List ℕ) (xs : List (Option X)) → Final (Seen Rule id v) ws xs → (o : Option X) → get_elem? xs 0 ≡ some o
      → (x : X) × (o ≡ Some x) × IsPrefix pass.seen (list x) × Tells number pass.own (list x) × All (λ e. Contains (own_numbers pass.own) (number e)) (list x) × All (λ e. number e < self.seats) (list x)
  shut id v idle free gate table pass self is_pass is_gate all ws xs final o is =
      let has : (n : ℕ) → n < seats → Contains (shares v) n = λ n lt. subst (λ (p : PassState E). HasNumber p n) (sym is_pass) (all n (subst (λ (z : GateState). n < z.seats) is_gate lt)) in
      let t = shut_view id v idle free has ws xs final o is in (
        t.0,
        t.1,
        subst (λ (p : PassState E). IsPrefix p.seen (list t.0)) is_pass t.2.0,
        subst (λ (p : PassState E). Tells number p.own (list t.0)) is_pass t.2.1,
        subst (λ (p : PassState E). All (λ e. Contains (own_numbers p.own) (number e)) (list t.0)) is_pass t.2.2,
        subst (λ (z : GateState). All (λ e. number e < z.seats) (list t.0)) is_gate t.2.3,
      )

  -- and where the value is known
  pub shut_value : (id : ℕ) (v : V) → v.ticket ≡ None → v.turn ≡ None → (gate table : TableId) (pass : PassState E) (self : GateState) → shown gate v ≡ pass → gate_of table ≡ self
      → ((n : ℕ) → n < self.seats → HasNumber pass n) → (ws : List ℕ) (xs : List (Option X)) → Final (Seen Rule id v) ws xs → (o : Option X) → get_elem? xs 0 ≡ some o → (y : X) → o ≡ Some y
      → IsPrefix pass.seen (list y) × Tells number pass.own (list y) × All (λ e. Contains (own_numbers pass.own) (number e)) (list y) × All (λ e. number e < self.seats) (list y)
  shut_value id v idle free gate table pass self is_pass is_gate all ws xs final o is y value =
      let t = shut id v idle free gate table pass self is_pass is_gate all ws xs final o is in
      let same : t.0 ≡ y = cc (t.1, value) in
      subst (λ (x : X). IsPrefix pass.seen (list x) × Tells number pass.own (list x) × All (λ e. Contains (own_numbers pass.own) (number e)) (list x) × All (λ e. number e < self.seats) (list x)) same (t.2, t.3, t.4, t.5)
