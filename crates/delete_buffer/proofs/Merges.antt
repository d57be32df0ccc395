-- Entries that are merged into a buffer, and entries that are taken out of it.
use Rattle.std.specs.Bool.{◌==◌}
use Rattle.std.proofs.lemmas.Bool.Decides.{nat_tests}
use Rattle.std.proofs.Common.{◌≡◌, ◌≢◌, ℕ, suc, ◌+◌, ◌-◌, ◌<◌, ◌≤◌, inl, inr, pos, Bool, true, false, not, cond, List, [], ◌∷◌, ◌++◌, length, filter, get_or, take, drop, set, refl, sym, ap, subst, ◌∙◌, arith, Contains}
use Rattle.std.specs.declared.cmp.Ordering.{Ordering}
use Rattle.std.specs.declared.cmp.Ordering.TheVariants.{Less, Equal, Greater}
use Rattle.std.specs.List.{slice_get}
use Rattle.std.specs.Ordering.{is_eq, nat_cmp, ordering_then, ordering_reverse}
use Rattle.std.proofs.lemmas.Bool.{cases_lt}
use Rattle.std.proofs.lemmas.List.{append-nil, get_or-map, get_or-take, get_or_default, length-map, length-take-le, take_more}
use Rattle.std.proofs.lemmas.List.Elements.{filter-append}
use Rattle.std.proofs.lemmas.List.Folds.{list_any_at, list_any_none}
use Rattle.std.proofs.lemmas.List.Kept.{AllPairs-filter}
use Rattle.std.proofs.lemmas.Option.{slice_get_past, slice_get-get_or}
use Rattle.cs_types.specs.declared.Key.{Key}
use Rattle.delete_buffer.specs.Entries.{Entry, entry_cmp, AreInOrder, AreParts, Ascend, ended, is_among, without, order_of}
use Rattle.delete_buffer.proofs.Order.{entry_total, same_entry}
use Rattle.delete_buffer.proofs.TwoParts.{IsLess, less_trans, less_from_greater}
use Rattle.merge_laws.proofs.Merging.{IsMerging, IsMerging-start, IsMerging-old, IsMerging-new, All-below_last, AllPairs-front}

-- entries of ascending keys are in order
pub in_order-ended : (keys : List Key) (end : ℕ) → Ascend keys → AreInOrder (ended keys end)
in_order-ended keys end up i j d less there =
    let short : j < length keys = omega (arith, length-map {B = Entry} keys (λ (key : Key). (key, end))) in
    let x = get_or-map (λ (key : Key). (key, end)) keys i d.0 d (omega arith) in
    let y = get_or-map (λ (key : Key). (key, end)) keys j d.0 d short in
    ap (λ a. entry_cmp a (get_or (ended keys end) j d)) x ∙ ap (λ b. entry_cmp (get_or keys i d.0, end) b) y
    ∙ ap (λ o. ordering_then o (nat_cmp end end)) (up i j d.0 less short)

pub merges_start : (entries added : List Entry) (count : ℕ) → length entries ≡ count + length added → AreParts (take count entries) added
    → IsMerging IsLess (added ++ take count entries) (take count entries) added entries count (length added)
merges_start entries added count sized parts =
    IsMerging-start IsLess (take count entries) added entries count (length added)
    (sym (length-take-le count entries (omega arith))) refl sized refl parts.settled_in_order parts.recent_in_order

module _ (all before added cells : List Entry) (i j : ℕ) (merging : IsMerging IsLess all before added cells i j) (new : Entry) (is_new : get_or added (j - 1) new ≡ new) (news : 0 < j) where
  -- what stands at a place before it was there before
  at_front : (k : ℕ) (d : Entry) → k < i → get_or cells k d ≡ get_or before k d
  at_front k d less =
      sym (get_or-take i cells k d less) ∙ ap (λ xs. get_or xs k d) merging.front ∙ get_or-take i before k d less

  pub merges_old : (d : Entry) → 0 < i → entry_cmp (get_or cells (i - 1) new) new ≡ Greater
      → IsMerging IsLess all before added (set cells (i - 1 + j) (get_or cells (i - 1) d)) (i - 1) j
  merges_old d olds greater =
      let x : Entry = get_or cells (i - 1) d in
      let short : j - 1 < length added = omega (arith, merging.news_left) in
      let there : i - 1 < length before = omega (arith, merging.olds_left) in
      let last : i ≡ i - 1 + 1 = omega arith in
      let is : x ≡ get_or before (i - 1) x = at_front (i - 1) d (omega arith) ∙ get_or_default before (i - 1) d x there in
      let same : get_or cells (i - 1) new ≡ x = get_or_default cells (i - 1) new d (omega (arith, merging.gap)) in
      let above : IsLess new x = less_from_greater x new (ap (λ y. entry_cmp y new) (sym same) ∙ greater) in
      IsMerging-old IsLess all before added cells (i - 1) j x (subst (λ n. IsMerging IsLess all before added cells n j) last merging) is
      (All-below_last IsLess less_trans added j x (AllPairs-front IsLess (take j added) (drop (i + j) cells) merging.news_below) merging.news_left
      (λ _. ap (λ y. entry_cmp y x) (get_or_default added (j - 1) x new short ∙ is_new) ∙ above))

  pub merges_new : (Contains before new → ⊥) → (0 < i → entry_cmp (get_or cells (i - 1) new) new ≢ Greater)
      → IsMerging IsLess all before added (set cells (i + (j - 1)) new) i (j - 1)
  merges_new absent other =
      let last : j ≡ j - 1 + 1 = omega arith in
      IsMerging-new IsLess all before added cells i (j - 1) new (subst (λ n. IsMerging IsLess all before added cells i n) last merging)
      (sym is_new)
      (All-below_last IsLess less_trans before i new (AllPairs-front IsLess (take i before) (drop (i + j) cells) merging.olds_below) merging.olds_left
      (λ olds. less (entry_cmp (get_or before (i - 1) new) new) olds refl))
    where
      less : (o : Ordering) → 0 < i → entry_cmp (get_or before (i - 1) new) new ≡ o → IsLess (get_or before (i - 1) new) new
      less Less olds e = e
      less Equal olds e = absurd (absent (i - 1, omega (arith, merging.olds_left), same_entry (get_or before (i - 1) new) new e))
      less Greater olds e = absurd (other olds (ap (λ y. entry_cmp y new) (at_front (i - 1) new (omega arith)) ∙ e))

-- what a read past the end would give
abbrev pub no_entry : Entry
no_entry = (record { 0 = pos 0 }, 0)

-- the first n of the taken entries come before the entries from a place on
abbrev pub ArePassed : List Entry → ℕ → List Entry → ℕ → Type 0
ArePassed taken n entries place = (k q : ℕ) (d e : Entry) → k < n → place ≤ q → q < length entries → IsLess (get_or taken k d) (get_or entries q e)

module _ (taken entries : List Entry) (n place : ℕ) (order : AreInOrder entries) (in_order : AreInOrder taken) (d : Entry) (there : place < length entries)
    (passed : ArePassed taken n entries place) where
  -- a taken entry that comes before the one at the place is passed too
  pub passed_more : order_of (get_or entries place d) (slice_get taken n) ≡ Less → (n + 1 ≤ length taken) × ArePassed taken (n + 1) entries place
  passed_more is = elim (cases_lt n (length taken)) [
    | inr past ↦ absurd (differ (sym (ap (order_of (get_or entries place d)) (slice_get_past taken n past)) ∙ is))
    | inl within ↦
        let less : IsLess (get_or taken n d) (get_or entries place d) = sym (ap (order_of (get_or entries place d)) (slice_get-get_or taken n d within)) ∙ is in (
          omega arith,
          λ k q a e below from inside. elim (cases_lt k n) [
            | inl before ↦ passed k q a e before from inside
            | inr last ↦
                let same : k ≡ n = omega arith in
                let at : get_or taken k a ≡ get_or taken n d = ap (λ i. get_or taken i a) same ∙ get_or_default taken n a d within in
                subst (λ x. IsLess x (get_or entries q e)) (sym at)
                (elim (cases_lt place q) [
                  | inl later ↦
                      less_trans (get_or taken n d) (get_or entries place d) (get_or entries q e) less
                      (subst (λ x. IsLess x (get_or entries q e)) (get_or_default entries place e d there) (order place q e later inside))
                  | inr here ↦
                      let one : place ≡ q = omega arith in
                      subst (λ i. IsLess (get_or taken n d) (get_or entries i e)) one (subst (λ x. IsLess (get_or taken n d) x) (get_or_default entries place d e there) less)
                ])
          ],
        )
  ]
    where
      differ : Greater ≡ Less → ⊥
      differ e = cc

  pub taken_here : order_of (get_or entries place d) (slice_get taken n) ≡ Equal → is_among taken (get_or entries place d) ≡ true
  taken_here is = elim (cases_lt n (length taken)) [
    | inr past ↦ absurd (differ (sym (ap (order_of (get_or entries place d)) (slice_get_past taken n past)) ∙ is))
    | inl within ↦
        let tied : entry_cmp (get_or taken n d) (get_or entries place d) ≡ Equal = sym (ap (order_of (get_or entries place d)) (slice_get-get_or taken n d within)) ∙ is in
        list_any_at (λ y. is_eq (entry_cmp (get_or entries place d) y)) taken n d within
        (ap is_eq (entry_total.antisymm (get_or entries place d) (get_or taken n d) ∙ ap ordering_reverse tied))
  ]
    where
      differ : Greater ≡ Equal → ⊥
      differ e = cc

  pub kept_here : order_of (get_or entries place d) (slice_get taken n) ≡ Greater → is_among taken (get_or entries place d) ≡ false
  kept_here is = list_any_none (λ y. is_eq (entry_cmp (get_or entries place d) y)) taken (λ k e inside. elim (cases_lt k n) [
    | inl before ↦
        ap is_eq (entry_total.antisymm (get_or entries place d) (get_or taken k e) ∙ ap ordering_reverse (passed k place e d before (omega arith) there))
    | inr from ↦
        let within : n < length taken = omega arith in
        let above : IsLess (get_or entries place d) (get_or taken n d) =
        less_from_greater (get_or taken n d) (get_or entries place d) (sym (ap (order_of (get_or entries place d)) (slice_get-get_or taken n d within)) ∙ is) in
        ap is_eq (elim (cases_lt n k) [
          | inl later ↦
              less_trans (get_or entries place d) (get_or taken n d) (get_or taken k e) above
              (subst (λ x. IsLess x (get_or taken k e)) (get_or_default taken n e d within) (in_order n k e later inside))
          | inr here ↦
              let one : n ≡ k = omega arith in
              subst (λ i. IsLess (get_or entries place d) (get_or taken i e)) one (subst (λ x. IsLess (get_or entries place d) x) (get_or_default taken n d e within) above)
        ])
  ])

-- one entry more: a taken one is left out, and any other one comes to the end
without_more : (taken entries : List Entry) (place : ℕ) (d : Entry) → place < length entries
    → without taken (take (place + 1) entries) ≡ without taken (take place entries) ++ cond (not (is_among taken (get_or entries place d))) (get_or entries place d ∷ []) []
without_more taken entries place d there =
    ap (without taken) (take_more entries place d there) ∙ filter-append (λ x. not (is_among taken x)) (take place entries) (get_or entries place d ∷ [])

pub without_taken : (taken entries : List Entry) (place : ℕ) (d : Entry) → place < length entries → is_among taken (get_or entries place d) ≡ true
    → without taken (take (place + 1) entries) ≡ without taken (take place entries)
without_taken taken entries place d there is =
    without_more taken entries place d there ∙ ap (λ (b : Bool). without taken (take place entries) ++ cond (not b) (get_or entries place d ∷ []) []) is
    ∙ append-nil (without taken (take place entries))

pub without_kept : (taken entries : List Entry) (place : ℕ) (d : Entry) → place < length entries → is_among taken (get_or entries place d) ≡ false
    → without taken (take (place + 1) entries) ≡ without taken (take place entries) ++ get_or entries place d ∷ []
without_kept taken entries place d there is =
    without_more taken entries place d there ∙ ap (λ (b : Bool). without taken (take place entries) ++ cond (not b) (get_or entries place d ∷ []) []) is

-- what is left of entries in order is in order
pub in_order-without : (taken entries : List Entry) → AreInOrder entries → AreInOrder (without taken entries)
in_order-without taken entries order = AllPairs-filter IsLess (λ x. not (is_among taken x)) entries order

-- where nothing is taken, all entries stay
without_none : (entries : List Entry) → entries ≡ without [] entries
without_none [] = refl
without_none (x ∷ entries) = ap (λ (rest : List Entry). x ∷ rest) (without_none entries)

pub none_taken : (taken entries : List Entry) → true ≡ (length taken == 0) → entries ≡ without taken entries
none_taken [] entries is = without_none entries
none_taken (x ∷ taken) entries is = absurd (let some : 0 < length (x ∷ taken) = omega arith in grind (arith, nat_tests, is, some))

-- where as many entries stay as there were, none is taken
filter_short : {X : Type 0} (p : X → Bool) (xs : List X) → length (filter p xs) ≤ length xs
filter_short p [] = omega arith
filter_short p (x ∷ xs) = go (p x) (filter_short p xs)
  where
    go : (b : Bool) → length (filter p xs) ≤ length xs → length (cond b (x ∷ filter p xs) (filter p xs)) ≤ suc (length xs)
    go true short = omega (arith, short)
    go false short = omega (arith, short)

pub all_kept : {X : Type 0} (p : X → Bool) (xs : List X) → length xs ≤ length (filter p xs) → filter p xs ≡ xs
all_kept p [] long = refl
all_kept p (x ∷ xs) long = go (p x) (λ more. all_kept p xs more) long
  where
    go : (b : Bool) → (length xs ≤ length (filter p xs) → filter p xs ≡ xs) → suc (length xs) ≤ length (cond b (x ∷ filter p xs) (filter p xs)) → cond b (x ∷ filter p xs) (filter p xs) ≡ x ∷ xs
    go true rest long = ap (λ ys. x ∷ ys) (rest (omega (arith, long)))
    go false rest long = absurd (omega (arith, long, filter_short p xs))
