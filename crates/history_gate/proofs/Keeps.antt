-- Each step on a word keeps the rule: a ticket is drawn, the served number is read, the next is served.
use Rattle.std.proofs.Common.{◌≡◌, ◌≢◌, ℕ, ◌+◌, ◌-◌, ◌%◌, ◌^◌, ◌<◌, ◌≤◌, ◌⊎◌, List, [], ◌∷◌, ◌++◌, length, get_or, set, sym, refl, ap, ◌∙◌, subst, inl, inr, ⊎_elim, arith, eq-eqb, ne_eqb, sum_by, Option, Some, None}
use Rattle.std.proofs.lemmas.List.{length-map}
use mathlib.Core.Logic.{dite}
use mathlib.Core.Option.{some, none, some-injective}
use native.Mathlib.Decide.{ℕ_discrete}
use lib.ListN.{get_elem?}
use lib.Seq.{set-get_or}
use Rattle.std.proofs.lemmas.Bool.Decides.{leb_tells}
use Rattle.std.specs.Bool.{MatchBool}
use Rattle.atomic_table.specs.Table.{State, Me, step, keeps, takes, gives, stepped, put_back, rest, Allows}
use Rattle.atomic_table.proofs.Lists.{at_set, set_again, one_turn}
use Rattle.history_gate.specs.declared.rule.View.{View}
use Rattle.history_gate.specs.Histories.{own_numbers, entries_of, Grows}
use Rattle.history_gate.specs.Views.{one_if_some, times, shares, tickets, turns, share_count, shares_of, with_ticket, with_turn, after_turn, IsSpent}
use Rattle.history_gate.specs.Rule.{IsViewOf, IsSlotOf, KeepsHistory}
use Rattle.history_gate.specs.Steps.{IsDrawn, IsCalled, IsLooked, IsServed}
use Rattle.history_gate.proofs.Sums.{next_round, sum_set, sum_at, sum_two, sum_le, sum_same, sum_none}
use Rattle.history_gate.proofs.Numbers.{times_both}
use Rattle.history_gate.proofs.Entries.{prefix_self, numbers_recounted, recounted_so, others_stay, own_stays, reserve_stays, grows_prefix, grows_below}
use Rattle.history_gate.proofs.Tickets.{ticket_share, queue_set, shared_set, queue_drawn, queue_served, in_queue, apart}

pub each_set : {A : Type 0} (P : A → Type 0) (vs : List A) (id : ℕ) (w : A) → P w → ((j : ℕ) (d : A) → j ≢ id → get_elem? vs j ≡ some d → P d)
    → (j : ℕ) (d : A) → get_elem? (set vs id w) j ≡ some d → P d
each_set P vs id w mine others j d e = ⊎_elim (λ t. subst P t.1 mine) (λ t. others j d t.0 t.1) (at_set vs id j w d e)

module _ {E X : Type 0} (number : E → ℕ) (list : X → List E) (seats : ℕ) where
  abbrev V : Type 0
  V = View E

  abbrev St : Type 0
  St = State (Option X) V

  abbrev M : Type 0
  M = Me (Option X) V

  abbrev Rule : St → Type 0
  Rule = KeepsHistory number list seats

  abbrev Knows : List E → ℕ → V → Type 0
  Knows = IsViewOf number

  pub drawing : (slots id : ℕ) (me : M) → me.0.ticket ≡ None → 0 < length me.0.own
      → Allows Rule slots id me 0 (λ n. (n + 1) % 2 ^ 64) (IsDrawn (step slots 0 1 0 none) me)
  drawing slots id me idle some_own s r _ at _ =
      let t : ℕ = r.served + r.out in
      let v : V = me.0 in
      let w : V = with_ticket v t in
      let known : Knows r.history r.served v = r.each id v at in
      let same_turns : sum_by turns (set s.views id w) ≡ sum_by turns s.views = sum_same turns s.views id v w (sum_by turns s.views) at refl refl in (
        w,
        keeps,
        tt,
        record {
          served = r.served;
          out = r.out + 1;
          history = r.history;
          words = ap (λ ws. set ws 0 ((get_or ws 0 0 + 1) % 2 ^ 64)) r.words ∙ ap (λ k. k ∷ r.served % 2 ^ 64 ∷ []) (next_round t (2 ^ 64) ∙ ap (λ (z : ℕ). z % 2 ^ 64) (let e : t + 1 ≡ r.served + (r.out + 1) = omega arith in e));
          queue = queue_drawn r.served r.out s.views id v at idle r.queue;
          slot = subst (λ n. IsSlotOf number list r.history n s.homes) (sym same_turns) r.slot;
          few = r.few;
          shared = shared_set seats s.views id v w at refl r.shared;
          below = r.below;
          each = each_set (Knows r.history r.served) s.views id w record {
            turn = λ l e. absurd (cc (sym idle ∙ (known.turn l e).1));
            own = known.own;
            reserve = known.reserve;
            seen = known.seen;
            numbered = inr some_own;
          } (λ j d _. r.each j d);
        },
        (t, ap (λ ws. get_or ws 0 0) r.words, refl, refl),
      )

  -- no more tickets are out than there are seats
  few_out : (s : St) (r : Rule s) → r.out ≤ seats
  few_out s r = omega (arith, sum_le tickets share_count s.views (λ j d e. ticket_share d (r.each j d e).numbered), r.queue.count, r.shared.count)

  -- nobody has the turn where the view with the served ticket has none
  no_turn : (s : St) (r : Rule s) (id : ℕ) (v : V) → get_elem? s.views id ≡ some v → v.ticket ≡ Some r.served → v.turn ≡ None → sum_by turns s.views ≡ 0
  no_turn s r id v at mine idle = sum_none turns s.views (λ j d there. dite (ℕ_discrete j id)
      (λ e. let same : v ≡ d = some-injective v d (sym at ∙ ap (get_elem? s.views) (sym e) ∙ there) in ap turns (sym same) ∙ ap one_if_some idle)
      (λ ne. by d (λ l e. apart r.served r.out s.views id j v d r.served r.queue ne at there mine ((r.each j d there).turn l e).1) d.turn refl))
    where
      by : (d : V) → ((l : List E) → d.turn ≡ Some l → ⊥) → (o : Option (List E)) → d.turn ≡ o → one_if_some o ≡ 0
      by d h None e = refl
      by d h (Some l) e = absurd (h l e)

  -- a view with a ticket has a number
  with_number : (v : V) (t : ℕ) → v.ticket ≡ Some t → IsSpent v ⊎ (0 < length v.own) → 0 < length v.own
  with_number v t mine h = ⊎_elim (λ (gone : IsSpent v). absurd (cc (sym gone.0 ∙ mine))) (λ some_own. some_own) h

  unmoved : (s : St) (r : Rule s) (i id : ℕ) (cs : List (ℕ × Option X)) (v : V) → get_elem? s.views id ≡ some v → Rule (stepped s i (get_or s.words i 0) id cs v keeps)
  unmoved s r i id cs v at = subst (λ (z : List ℕ × List V). Rule record { words = z.0; homes = s.homes; views = z.1 }) (λ k. (sym (set-get_or s.words i 0) k, sym (set_again s.views id v at) k)) r

  pub looking : (slots id : ℕ) (me : M) (t : ℕ) → me.0.ticket ≡ Some t → me.0.turn ≡ None
      → Allows Rule slots id me 1 (λ n. n) (IsLooked number list (step slots 1 0 0 none) me)
  looking slots id me t mine idle s r _ at _ =
      let v : V = me.0 in
      let found : ℕ = get_or s.words 1 0 in
      let is : found ≡ r.served % 2 ^ 64 = ap (λ ws. get_or ws 1 0) r.words in
      let q = in_queue r.served r.out s.views id v t r.queue at mine in
      let few = few_out s r in
      let small = r.few in
      dite (ℕ_discrete found (t % 2 ^ 64))
      (λ hit. let now : r.served ≡ t = one_turn r.served t (2 ^ 64) q.0 (omega arith) (sym is ∙ hit) in
      let none_out : sum_by turns s.views ≡ 0 = no_turn s r id v at (mine ∙ ap Some (sym now)) idle in
      ⊎_elim (λ (p : (s.homes ≡ none ∷ []) × (sum_by turns s.views ≡ 1)). absurd (omega (arith, none_out, p.1)))
      (λ (p : (x : X) × (s.homes ≡ some (Some x) ∷ []) × (list x ≡ r.history) × (sum_by turns s.views ≡ 0)).
      let x : X = p.0 in
      let w : V = with_turn v (list x) in
      let known : Knows r.history r.served v = r.each id v at in
      let knows : Knows r.history r.served w = record {
        turn = λ l e. (let same : list x ≡ l = cc e in sym same ∙ p.2, mine ∙ ap Some (sym now));
        own = known.own;
        reserve = known.reserve;
        seen = known.seen;
        numbered = inr (with_number v t mine known.numbered);
      } in (
        w,
        takes 0 (Some x),
        ap (λ hs. get_elem? hs 0) p.1,
        record {
          served = r.served;
          out = r.out;
          history = r.history;
          words = ap (λ ws. set ws 1 (get_or ws 1 0)) r.words;
          queue = queue_set r.served r.out s.views id v w at refl r.queue;
          slot = inl (ap (λ hs. set hs 0 none) p.1, omega (arith, sum_set turns s.views id v w at, ap one_if_some idle, none_out));
          few = r.few;
          shared = shared_set seats s.views id v w at refl r.shared;
          below = r.below;
          each = each_set (Knows r.history r.served) s.views id w knows (λ j d _. r.each j d);
        },
        λ t' mine' _. let same : t ≡ t' = cc (mine, mine') in
            subst (λ b. MatchBool b (IsCalled number list me (w, (0, Some x) ∷ me.1)) ((w, (0, Some x) ∷ me.1) ≡ me)) (sym (eq-eqb found (t' % 2 ^ 64) (hit ∙ ap (λ (z : ℕ). z % 2 ^ 64) same)))
            (x, t', refl, refl, subst (λ (z : List E × ℕ). Knows z.0 z.1 w) (λ i. (sym p.2 i, (now ∙ same) i)) knows),
      )) r.slot)
      (λ miss. (
        v,
        keeps,
        tt,
        unmoved s r 1 id me.1 v at,
        λ t' mine' _. let same : t ≡ t' = cc (mine, mine') in
            subst (λ b. MatchBool b (IsCalled number list me me) (me ≡ me)) (sym (ne_eqb found (t' % 2 ^ 64) (λ e. miss (e ∙ ap (λ (z : ℕ). z % 2 ^ 64) (sym same))))) refl,
      ))

  abbrev recounted_pair : List E → ℕ × List E → ℕ × List E
  recounted_pair history p = (p.0, entries_of number p.0 history)

  abbrev first_value : List (ℕ × Option X) → Option X
  first_value [] = None
  first_value (p ∷ ps) = p.1

  pub serving : (slots id : ℕ) (me : M) (t : ℕ) (l : List E) (x : X) → me.0.ticket ≡ Some t → me.0.turn ≡ Some l → me.1 ≡ (0, Some x) ∷ [] → Grows number (own_numbers me.0.own) l (list x)
      → Allows Rule slots id me 1 (λ n. (n + 1) % 2 ^ 64) (IsServed number list (step slots 1 1 0 none) me)
  serving slots id me t l x mine turn out grown s r _ at _ =
      let v : V = me.0 in
      let after : List E = list x in
      let w : V = after_turn number v after in
      let known : Knows r.history r.served v = r.each id v at in
      let told = known.turn l turn in
      let now : t ≡ r.served = cc (mine, told.1) in
      let grows : Grows number (own_numbers v.own) r.history after = subst (λ z. Grows number (own_numbers v.own) z after) told.0 grown in
      let some_own : 0 < length v.own = with_number v t mine known.numbered in
      let one_out : tickets v ≡ 1 = ap one_if_some mine in
      let some_out : 1 ≤ r.out = omega (arith, one_out, sum_at tickets s.views id v at, r.queue.count) in
      let one_turn_out : turns v ≡ 1 = ap one_if_some turn in
      let homes : (s.homes ≡ none ∷ []) × (sum_by turns s.views ≡ 1) = ⊎_elim (λ p. p)
      (λ (p : (y : X) × (s.homes ≡ some (Some y) ∷ []) × (list y ≡ r.history) × (sum_by turns s.views ≡ 0)). absurd (omega (arith, one_turn_out, p.3, sum_at turns s.views id v at))) r.slot in
      let shares_same : shares w ≡ shares v = ap (λ ns. ns ++ v.reserve) (numbers_recounted number after v.own) in
      let ours : (n : ℕ) → 1 ≤ times n (own_numbers v.own) → n < seats = λ n some_of. ⊎_elim
      (λ u. absurd (omega (arith, some_of, r.shared.no_others n u.1, sum_at (shares_of n) s.views id v at, times_both n (own_numbers v.own) v.reserve))) (λ u. u.1) (leb_tells seats n) in
      let reserve_same : (n : ℕ) → 1 ≤ times n v.reserve → entries_of number n after ≡ entries_of number n r.history = λ n some_of. others_stay number (own_numbers v.own) r.history after grows n
      (⊎_elim (λ u. omega (arith, some_of, r.shared.no_others n u.1, sum_at (shares_of n) s.views id v at, times_both n (own_numbers v.own) v.reserve))
      (λ u. omega (arith, some_of, r.shared.once n u.1, sum_at (shares_of n) s.views id v at, times_both n (own_numbers v.own) v.reserve)) (leb_tells seats n)) in
      let theirs : (j : ℕ) (d : V) → j ≢ id → get_elem? s.views j ≡ some d → (n : ℕ) → 1 ≤ times n (shares d) → entries_of number n after ≡ entries_of number n r.history = λ j d ne there n some_of.
      others_stay number (own_numbers v.own) r.history after grows n
      (⊎_elim (λ u. omega (arith, some_of, r.shared.no_others n u.1, sum_two (shares_of n) s.views id j v d (λ e. ne (sym e)) at there, times_both n (own_numbers v.own) v.reserve))
      (λ u. omega (arith, some_of, r.shared.once n u.1, sum_two (shares_of n) s.views id j v d (λ e. ne (sym e)) at there, times_both n (own_numbers v.own) v.reserve)) (leb_tells seats n)) in (
        w,
        gives,
        tt,
        record {
          served = r.served + 1;
          out = r.out - 1;
          history = after;
          words = ap (λ ws. set ws 1 ((get_or ws 1 0 + 1) % 2 ^ 64)) r.words
              ∙ λ i. ((let e : r.served + r.out ≡ (r.served + 1) + (r.out - 1) = omega arith in e) i) % 2 ^ 64 ∷ next_round r.served (2 ^ 64) i ∷ [];
          queue = queue_served r.served r.out s.views id v w at (mine ∙ ap Some now) refl r.queue;
          slot = inr (x, ap (λ hs. put_back hs me.1) homes.0 ∙ ap (put_back (none ∷ [])) out, refl, omega (arith, sum_set turns s.views id v w at, one_turn_out, homes.1));
          few = r.few;
          shared = shared_set seats s.views id v w at shares_same r.shared;
          below = grows_below number (own_numbers v.own) seats r.history after grows ours r.below;
          each = each_set (Knows after (r.served + 1)) s.views id w record {
            turn = λ l' e. absurd (cc e);
            own = recounted_so number after v.own;
            reserve = reserve_stays number r.history after v.reserve reserve_same known.reserve;
            seen = prefix_self after;
            numbered = inr (omega (arith, some_own, length-map v.own (recounted_pair after)));
          } (λ j d ne there. let old = r.each j d there in let same = theirs j d ne there in record {
            turn = λ l' e. absurd (apart r.served r.out s.views id j v d t r.queue ne at there mine ((old.turn l' e).1 ∙ ap Some (sym now)));
            own = own_stays number r.history after d.own (λ n some_of. same n (omega (arith, some_of, times_both n (own_numbers d.own) d.reserve))) old.own;
            reserve = reserve_stays number r.history after d.reserve (λ n some_of. same n (omega (arith, some_of, times_both n (own_numbers d.own) d.reserve))) old.reserve;
            seen = grows_prefix number (own_numbers v.own) d.seen r.history after grows old.seen;
            numbered = old.numbered;
          });
        },
        λ t' l' x' _ _ out'. let both : Some x ≡ Some x' = ap first_value (sym out ∙ out') in
            let same : x ≡ x' = cc both in (ap (λ y. after_turn number v (list y)) same, ap rest out),
      )
