-- What a claim lends is right.
use Rattle.std.proofs.Common.{◌≡◌, ℕ, Bool, true, false, ◌&&◌, ◌||◌, cond, eqb, ltb, leb, List, [], ◌∷◌, ◌++◌, filter, not, Option, Some, None, refl, sym, ap, ◌∙◌, inl, inr, arith}
use Rattle.std.specs.Prelude.{◌==◌}
use Rattle.std.specs.List.{AllByRecursion, list_any}
use Rattle.std.proofs.lemmas.Bool.Decides.{nat_tests}
use Rattle.std.proofs.lemmas.Bool.{cases_lt}
use Rattle.std.proofs.lemmas.Option.{none-some}
use Rattle.std.proofs.lemmas.List.Elements.{recursion_from_All, All-from_recursion}
use Rattle.std.proofs.lemmas.List.Sorted.{All-permutation}
use Rattle.cs_types.specs.declared.Key.{Key}
use Rattle.cs_types.specs.Keys.{same_key}
use Rattle.cs_model.specs.declared.work.Actor.{Actor}
use Rattle.cs_model.specs.Changes.{Change}
use Rattle.group_book.specs.Book.{End, Version, Ending, Choice, Book, frozen, is_buffered}
use Rattle.group_book.specs.Turns.{is_number, holds, least_entry, unless_ended, ends, is_id_of, is_gone, versions_of, entries_for, claim_of}
use Rattle.group_book.specs.Stocks.{stock_of, EndFits, IsStockOf, next_change, is_after, is_end_of}
use Rattle.group_book.specs.Invariant.{IsLent}
use Rattle.group_book.proofs.Keys.{key_is, key_itself}
use Rattle.group_book.proofs.Lists.{both_true, any_same, weaker, all-left, all-filter}
use Rattle.group_book.proofs.Changes.{AreAscending, next-above}
use Rattle.group_book.proofs.Entries.{holds-filter}
use Rattle.group_book.proofs.Shown.{holds-buffered, unbuffered}
use Rattle.group_book.proofs.Flush.{least_next}
use Rattle.group_book.proofs.Groups.{frozen-split}

-- fewer entries hide no more
buffered_filter : (q : Ending → Bool) (xs : List Ending) (k : Key) (b s : ℕ) → is_buffered xs k b s ≡ false → is_buffered (filter q xs) k b s ≡ false
buffered_filter q [] k b s h = h
buffered_filter q (x ∷ xs) k b s h = step (q x) (same_key k x.key && (ltb b x.end && leb x.end s)) refl h (buffered_filter q xs k b s)
  where
    step : (t u : Bool) → (same_key k x.key && (ltb b x.end && leb x.end s)) ≡ u → (u || is_buffered xs k b s) ≡ false → (is_buffered xs k b s ≡ false → is_buffered (filter q xs) k b s ≡ false) → is_buffered (cond t (x ∷ filter q xs) (filter q xs)) k b s ≡ false
    step t true is h rest = cc
    step true false is h rest = rw (is, rest h) refl
    step false false is h rest = rest h

-- each entry of the buffer stands there
held_all : (xs : List Ending) → AllByRecursion (λ (x : Ending). holds xs x.key x.end ≡ true) xs
held_all [] = tt
held_all (x ∷ xs) = (
  (let same : eqb x.end x.end ≡ true = grind (arith, nat_tests) in rw (key_itself x.key, same) refl),
  weaker (λ (y : Ending). holds xs y.key y.end ≡ true) (λ (y : Ending). holds (x ∷ xs) y.key y.end ≡ true) xs (λ y h. rw h (step (same_key y.key x.key && eqb x.end y.end))) (held_all xs),
)
  where
    step : (t : Bool) → (t || true) ≡ true
    step true = refl
    step false = refl

module _ (book : Book) (cs : List Change) (floor : ℕ) (up : AreAscending cs) (j : IsStockOf (stock_of book) cs floor) (sources : List ℕ) where
  abbrev lent : List Version
  lent = versions_of sources book.groups

  abbrev entries : List Ending
  entries = entries_for book.buffer lent

  abbrev Fits : Version → Type 0
  Fits v = EndFits book.buffer floor v (next_change cs v.key v.begin)

  lent_fits : AllByRecursion Fits lent
  lent_fits = all-left Fits lent (frozen (filter (λ g. not (is_id_of sources g)) book.groups)) (recursion_from_All Fits _ (All-permutation Fits (frozen book.groups) (lent ++ frozen (filter (λ g. not (is_id_of sources g)) book.groups)) (frozen-split (is_id_of sources) book.groups) j.ends.frozen))

  -- an entry of the buffer ends a version exactly where it is its next change
  ends_step : (v : Version) → Fits v → (k : Key) (e : ℕ) → holds book.buffer k e ≡ true → (p : Bool) → same_key k v.key ≡ p → (end : Option End) → v.end ≡ end
      → (p && is_number e (unless_ended end (least_entry book.buffer v.key v.begin))) ≡ (p && is_number e (next_change cs v.key v.begin))
  ends_step v fits k e held false p_is end end_is = refl
  ends_step v fits k e held true p_is None end_is = ap (is_number e) (least_next (stock_of book) cs floor j v (next_change cs v.key v.begin) refl end_is fits)
  ends_step v fits k e held true p_is (Some end) end_is = sym (other (next_change cs v.key v.begin) refl fits)
    where
      held_v : holds book.buffer v.key e ≡ true
      held_v = ap (λ (q : Key). holds book.buffer q e) (key_is k v.key p_is) ∙ held

      other : (n : Option ℕ) → next_change cs v.key v.begin ≡ n → EndFits book.buffer floor v n → is_number e n ≡ false
      other None n_is f = refl
      other (Some d) n_is f = step (d == e) refl
        where
          away : d ≡ e → ⊥
          away same =
              let here : holds book.buffer v.key d ≡ true = ap (λ (n : ℕ). holds book.buffer v.key n) same ∙ held_v in
              elim f [
                | inl stamped ↦ cc (stamped.1, here)
                | inr others ↦ elim others [ inl plain ↦ cc (plain.2, here) | inr buffered ↦ none-some end (sym buffered.0 ∙ end_is) ]
              ]

          step : (t : Bool) → (d == e) ≡ t → t ≡ false
          step true is = absurd (away (grind (arith, nat_tests)))
          step false is = refl

  ends_is : (x : Ending) → holds book.buffer x.key x.end ≡ true → list_any (ends book.buffer x) lent ≡ list_any (is_end_of cs x) lent
  ends_is x held = any_same (ends book.buffer x) (is_end_of cs x) lent (weaker Fits (λ v. ends book.buffer x v ≡ is_end_of cs x v) lent (λ v fits. ends_step v fits x.key x.end held (same_key x.key v.key) refl v.end refl) lent_fits)

  abbrev entry : Key → ℕ → Ending
  entry k e = record { key = k; end = e }

  -- what was lent
  lent_holds : (k : Key) (e : ℕ) → holds entries k e ≡ (holds book.buffer k e && list_any (ends book.buffer (entry k e)) lent)
  lent_holds k e = holds-filter (λ q d. list_any (ends book.buffer (entry q d)) lent) book.buffer k e

  lent_held : (k : Key) (e : ℕ) → holds entries k e ≡ true → holds book.buffer k e ≡ true
  lent_held k e h = (both_true (holds book.buffer k e) (list_any (ends book.buffer (entry k e)) lent) (sym (lent_holds k e) ∙ h)).0

  lent_owned : AllByRecursion (λ (x : Ending). list_any (is_end_of cs x) lent ≡ true) entries
  lent_owned = all-filter (λ (x : Ending). holds book.buffer x.key x.end ≡ true) (λ (x : Ending). list_any (is_end_of cs x) lent ≡ true) (λ x. list_any (ends book.buffer x) lent) book.buffer (λ x held is. sym (ends_is x held) ∙ is) (held_all book.buffer)

  swap_and : (a b : Bool) → (a && b) ≡ (b && a)
  swap_and true true = refl
  swap_and true false = refl
  swap_and false true = refl
  swap_and false false = refl

  lent_spent : AllByRecursion (λ (x : Ending). holds (filter (λ (y : Ending). leb y.end floor) entries) x.key x.end ≡ (leb x.end floor && list_any (is_end_of cs x) lent)) book.buffer
  lent_spent = weaker (λ (x : Ending). holds book.buffer x.key x.end ≡ true) (λ (x : Ending). holds (filter (λ (y : Ending). leb y.end floor) entries) x.key x.end ≡ (leb x.end floor && list_any (is_end_of cs x) lent)) book.buffer (λ x held.
      holds-filter (λ k e. leb e floor) entries x.key x.end
      ∙ ap (λ t. t && leb x.end floor) (lent_holds x.key x.end ∙ ap (λ t. t && list_any (ends book.buffer x) lent) held ∙ ends_is x held)
      ∙ swap_and (list_any (is_end_of cs x) lent) (leb x.end floor)) (held_all book.buffer)

  -- ---- what had ended

  unlent : (v : Version) → is_after floor (next_change cs v.key v.begin) ≡ true → is_buffered entries v.key v.begin floor ≡ false
  unlent v after = buffered_filter (λ x. list_any (ends book.buffer x) lent) book.buffer v.key v.begin floor (unbuffered (stock_of book) cs floor j up floor (omega arith) v.key v.begin after)

  stamped_step : (e : ℕ) (t : Bool) → (ltb floor e ≡ true → t ≡ false) → (leb e floor || t) ≡ not (ltb floor e)
  stamped_step e t h = elim (cases_lt floor e) [
    | inl lt ↦
        let after : ltb floor e ≡ true = grind (arith, nat_tests) in
        let later : leb e floor ≡ false = grind (arith, nat_tests) in
        rw (after, later, h after) refl
    | inr ge ↦
        let not_after : ltb floor e ≡ false = grind (arith, nat_tests) in
        let reached : leb e floor ≡ true = grind (arith, nat_tests) in
        rw (not_after, reached) refl
  ]

  own_entry : (v : Version) → Fits v → (e : ℕ) → next_change cs v.key v.begin ≡ Some e → v.end ≡ None → holds book.buffer v.key e ≡ true
      → (ends book.buffer (entry v.key e) v ≡ true → list_any (ends book.buffer (entry v.key e)) lent ≡ true) → holds entries v.key e ≡ true
  own_entry v fits e n_is end held member =
      let itself : eqb e e ≡ true = grind (arith, nat_tests) in
      let is_end : ends book.buffer (entry v.key e) v ≡ true = ends_step v fits v.key e held (same_key v.key v.key) refl v.end refl ∙ rw (key_itself v.key, n_is, itself) refl in
      lent_holds v.key e ∙ rw (held, member is_end) refl

  gone_step : (v : Version) → Fits v → ((x : Ending) → ends book.buffer x v ≡ true → list_any (ends book.buffer x) lent ≡ true) → (n : Option ℕ) → next_change cs v.key v.begin ≡ n → EndFits book.buffer floor v n
      → is_gone floor entries v ≡ not (is_after floor n)
  gone_step v fits member None n_is f = rw (f, unlent v (ap (is_after floor) n_is)) refl
  gone_step v fits member (Some e) n_is f = elim f [
    | inl stamped ↦ rw stamped.0 (stamped_step e (is_buffered entries v.key v.begin floor) (λ after. unlent v (ap (is_after floor) n_is ∙ after)))
    | inr others ↦ elim others [
      | inl plain ↦ let not_after : ltb floor e ≡ false = let le = plain.1 in grind (arith, nat_tests) in rw (plain.0, not_after) refl
      | inr buffered ↦ elim (cases_lt floor e) [
        | inl lt ↦
            let after : ltb floor e ≡ true = grind (arith, nat_tests) in
            rw (buffered.0, after, unlent v (ap (is_after floor) n_is ∙ after)) refl
        | inr ge ↦
            let not_after : ltb floor e ≡ false = grind (arith, nat_tests) in
            let hidden = holds-buffered entries v.key v.begin e floor (next-above cs v.key v.begin e n_is) ge (own_entry v fits e n_is buffered.0 buffered.1 (member (entry v.key e))) in
            rw (buffered.0, not_after, hidden) refl
      ]
    ]
  ]

  members : (vs : List Version) → AllByRecursion (λ v. (x : Ending) → ends book.buffer x v ≡ true → list_any (ends book.buffer x) vs ≡ true) vs
  members [] = tt
  members (v ∷ vs) = (
    (λ x h. rw h refl),
    weaker (λ u. (x : Ending) → ends book.buffer x u ≡ true → list_any (ends book.buffer x) vs ≡ true) (λ u. (x : Ending) → ends book.buffer x u ≡ true → list_any (ends book.buffer x) (v ∷ vs) ≡ true) vs (λ u rest x h. rw (rest x h) (step (ends book.buffer x v))) (members vs),
  )
    where
      step : (t : Bool) → (t || true) ≡ true
      step true = refl
      step false = refl

  lent_gone : AllByRecursion (λ (v : Version). is_gone floor entries v ≡ not (is_after floor (next_change cs v.key v.begin))) lent
  lent_gone = both lent lent_fits (members lent)
    where
      both : (vs : List Version) → AllByRecursion Fits vs → AllByRecursion (λ v. (x : Ending) → ends book.buffer x v ≡ true → list_any (ends book.buffer x) lent ≡ true) vs
          → AllByRecursion (λ (v : Version). is_gone floor entries v ≡ not (is_after floor (next_change cs v.key v.begin))) vs
      both [] fits member = tt
      both (v ∷ vs) fits member = (gone_step v fits.0 member.0 (next_change cs v.key v.begin) refl fits.0, both vs fits.1 member.1)

  pub lent_is : (actor : Actor) (choice : Choice) (fresh : Option ℕ) → IsLent book cs (claim_of actor choice sources fresh floor book)
  lent_is actor choice fresh = record {
    versions = refl;
    gone = All-from_recursion _ lent lent_gone;
    spent = All-from_recursion _ book.buffer lent_spent;
    held = lent_held;
    owned = All-from_recursion _ entries lent_owned;
  }
