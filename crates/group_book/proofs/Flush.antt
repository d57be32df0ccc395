-- A flush keeps the versions in agreement with the changes.
use Rattle.std.proofs.Common.{◌≡◌, ℕ, ◌<◌, ◌≤◌, ◌+◌, Bool, true, false, ◌&&◌, ◌||◌, cond, eqb, ltb, List, [], ◌∷◌, ◌++◌, map, min, Option, Some, None, not, get_or, refl, sym, ap, subst, ◌∙◌, inl, inr, arith}
use Rattle.std.specs.List.{AllByRecursion, list_any}
use Rattle.std.proofs.lemmas.Bool.Decides.{nat_tests}
use Rattle.std.proofs.lemmas.Bool.{cases_lt}
use Rattle.std.proofs.lemmas.Option.{none-some}
use Rattle.std.proofs.lemmas.List.Elements.{recursion_from_All, All-from_recursion}
use Rattle.cs_types.specs.declared.Key.{Key}
use Rattle.cs_types.specs.Keys.{same_key}
use Rattle.cs_model.specs.Changes.{Change}
use Rattle.group_book.specs.Book.{End, Version, Ending, how_many}
use Rattle.group_book.specs.Book.End.{At, Plain}
use Rattle.group_book.specs.Turns.{is_number, holds, lesser, least_entry, unless_ended, buffered_end, end_in, flushed, without_entries}
use Rattle.group_book.specs.Stocks.{Stock, Stems, EndFits, IsStockOf, next_change, is_after, is_from, is_end_of}
use Rattle.group_book.proofs.Keys.{key_is, key_here}
use Rattle.group_book.proofs.Lists.{both_true, how_many-append, how_many-map, how_many-found, weaker, all-append, all-left, all-right, all-both, all-filter, all-map, some_pass, counted_all}
use Rattle.group_book.proofs.Changes.{next-above, next-before}
use Rattle.group_book.proofs.Entries.{holds-filter, held_one, sorted_filter}
use Rattle.group_book.proofs.Shown.{at_is}

-- ---- the entry that ends a version, by the changes

-- all entries of the key above the begin are at least e
abbrev AreFrom : Key → ℕ → ℕ → List Ending → Type 0
AreFrom k b e buffer = AllByRecursion (λ (x : Ending). same_key k x.key ≡ true → b < x.end → e ≤ x.end) buffer

least_from : (buffer : List Ending) (k : Key) (b e f : ℕ) → AreFrom k b e buffer → least_entry buffer k b ≡ Some f → e ≤ f
least_from [] k b e f all is = cc
least_from (x ∷ xs) k b e f all is = step (same_key k x.key) (ltb b x.end) refl refl (least_entry xs k b) (least_from xs k b e f all.1) is
  where
    step : (p q : Bool) → same_key k x.key ≡ p → ltb b x.end ≡ q → (o : Option ℕ) → (o ≡ Some f → e ≤ f) → cond (p && q) (lesser x.end o) o ≡ Some f → e ≤ f
    step true true p_is q_is None rest is = let same : x.end ≡ f = cc in let low = all.0 p_is (grind (arith, nat_tests)) in omega (arith, same, low)
    step true true p_is q_is (Some g) rest is =
        let least : min x.end g ≡ f = cc in
        let low = all.0 p_is (grind (arith, nat_tests)) in
        elim (cases_lt x.end g) [ inl lt ↦ omega (arith, least, lt, low) | inr ge ↦ rest (ap Some (omega (arith, least, ge))) ]
    step true false p_is q_is o rest is = rest is
    step false q p_is q_is o rest is = rest is

-- an entry above the begin bounds the least one
least_to : (buffer : List Ending) (k : Key) (b e : ℕ) → b < e → holds buffer k e ≡ true → (f : ℕ) × (least_entry buffer k b ≡ Some f) × (f ≤ e)
least_to [] k b e lt h = absurd (cc h)
least_to (x ∷ xs) k b e lt h = step (same_key k x.key) (ltb b x.end) (eqb x.end e) refl refl (least_entry xs k b) refl (least_to xs k b e lt) h
  where
    Goal : Option ℕ → Type 0
    Goal o = (f : ℕ) × (o ≡ Some f) × (f ≤ e)

    lower : (o : Option ℕ) → x.end ≤ e → (f : ℕ) × (lesser x.end o ≡ Some f) × (f ≤ e)
    lower None le = (x.end, refl, le)
    lower (Some g) le = (min x.end g, refl, omega (arith, le))

    other : (o : Option ℕ) → (f : ℕ) × (o ≡ Some f) × (f ≤ e) → (g : ℕ) × (lesser x.end o ≡ Some g) × (g ≤ e)
    other None r = absurd (none-some r.0 r.1)
    other (Some g) r = let same : g ≡ r.0 = cc (r.1) in (min x.end g, refl, omega (arith, same, r.2))

    step : (p q r : Bool) → ltb b x.end ≡ q → eqb x.end e ≡ r → (o : Option ℕ) → least_entry xs k b ≡ o → (holds xs k e ≡ true → (f : ℕ) × (least_entry xs k b ≡ Some f) × (f ≤ e)) → ((p && r) || holds xs k e) ≡ true → (f : ℕ) × (cond (p && q) (lesser x.end o) o ≡ Some f) × (f ≤ e)
    step true true true q_is r_is o o_is rest h = lower o (let same : x.end ≡ e = grind (arith, nat_tests) in omega (arith, same))
    step true true false q_is r_is o o_is rest h = other o (let found = rest h in (found.0, sym o_is ∙ found.1, found.2))
    step true false true q_is r_is o o_is rest h = absurd (let same : x.end ≡ e = grind (arith, nat_tests) in let low : x.end ≤ b = grind (arith, nat_tests) in omega (arith, same, low, lt))
    step true false false q_is r_is o o_is rest h = let found = rest h in (found.0, sym o_is ∙ found.1, found.2)
    step false q r q_is r_is o o_is rest h = let found = rest h in (found.0, sym o_is ∙ found.1, found.2)

least_is : (buffer : List Ending) (k : Key) (b e : ℕ) → AreFrom k b e buffer → b < e → holds buffer k e ≡ true → least_entry buffer k b ≡ Some e
least_is buffer k b e all lt h =
    let to = least_to buffer k b e lt h in
    let from = least_from buffer k b e to.0 all to.1 in
    to.1 ∙ ap Some (omega (arith, to.2, from))

least_none : (buffer : List Ending) (k : Key) (b : ℕ) → AllByRecursion (λ (x : Ending). same_key k x.key ≡ true → b < x.end → ⊥) buffer → least_entry buffer k b ≡ None
least_none [] k b all = refl
least_none (x ∷ xs) k b all = step (same_key k x.key) (ltb b x.end) refl refl (least_none xs k b all.1)
  where
    step : (p q : Bool) → same_key k x.key ≡ p → ltb b x.end ≡ q → least_entry xs k b ≡ None → cond (p && q) (lesser x.end (least_entry xs k b)) (least_entry xs k b) ≡ None
    step true true p_is q_is rest = absurd (all.0 p_is (grind (arith, nat_tests)))
    step true false p_is q_is rest = rest
    step false q p_is q_is rest = rest

-- the entry of the buffer that ends a version outside the open store is its next change, where no end stands beside it
module _ (b : Stock) (cs : List Change) (floor : ℕ) (j : IsStockOf b cs floor) where
  abbrev HasOneOwner : Ending → Type 0
  HasOneOwner x = how_many (is_end_of cs x) b.frozen ≡ 1

  not_past : (n : Option ℕ) (e f : ℕ) → n ≡ Some e → is_after f n ≡ false → e ≤ f
  not_past None e f n_is past = cc
  not_past (Some g) e f n_is past = let same : g ≡ e = cc in grind (arith, nat_tests)

  never_past : (n : Option ℕ) (f : ℕ) → n ≡ None → is_after f n ≡ false → ⊥
  never_past None f n_is past = cc
  never_past (Some g) f n_is past = cc

  -- an entry of a key is a change of it
  entry_past : (x : Ending) → HasOneOwner x → (k : Key) (d : ℕ) → same_key k x.key ≡ true → d < x.end → is_after x.end (next_change cs k d) ≡ false
  entry_past x one k d same lt =
      let owner = how_many-found (is_end_of cs x) b.frozen (omega (arith, one)) in
      let tests = both_true (same_key x.key owner.0.key) (is_number x.end (next_change cs owner.0.key owner.0.begin)) owner.1 in
      let first : owner.0.key ≡ x.key = key_is x.key owner.0.key tests.0 in
      let second : x.key ≡ k = key_is k x.key same in
      let next = at_is x.end (next_change cs owner.0.key owner.0.begin) tests.1 in
      let next_k : next_change cs k owner.0.begin ≡ Some x.end = ap (λ (q : Key). next_change cs q owner.0.begin) (sym (first ∙ second)) ∙ next in
      next-before cs k owner.0.begin d x.end next_k lt

  entries_all : AllByRecursion HasOneOwner b.buffer
  entries_all = recursion_from_All HasOneOwner b.buffer j.entries.owned

  from_next : (k : Key) (d e : ℕ) → next_change cs k d ≡ Some e → AreFrom k d e b.buffer
  from_next k d e n_is = weaker HasOneOwner (λ (x : Ending). same_key k x.key ≡ true → d < x.end → e ≤ x.end) b.buffer (λ x one same lt. not_past (next_change cs k d) e x.end n_is (entry_past x one k d same lt)) entries_all

  pub least_next : (v : Version) (n : Option ℕ) → next_change cs v.key v.begin ≡ n → v.end ≡ None → EndFits b.buffer floor v n → least_entry b.buffer v.key v.begin ≡ n
  least_next v None n_is end fits = least_none b.buffer v.key v.begin (weaker HasOneOwner (λ (x : Ending). same_key v.key x.key ≡ true → v.begin < x.end → ⊥) b.buffer (λ x one same lt. never_past (next_change cs v.key v.begin) x.end n_is (entry_past x one v.key v.begin same lt)) entries_all)
  least_next v (Some e) n_is end fits = least_is b.buffer v.key v.begin e (from_next v.key v.begin e n_is) (next-above cs v.key v.begin e n_is) (elim fits [
    | inl stamped ↦ absurd (none-some (At e) (sym end ∙ stamped.0))
    | inr other ↦ elim other [ inl plain ↦ absurd (none-some Plain (sym end ∙ plain.0)) | inr buffered ↦ buffered.1 ]
  ])

  -- what a flush makes of an end, by the next change
  pub end_by_next : (lent : List Ending) → ((k : Key) (e : ℕ) → holds lent k e ≡ true → holds b.buffer k e ≡ true)
      → (v : Version) (n : Option ℕ) → next_change cs v.key v.begin ≡ n → EndFits b.buffer floor v n → end_in (buffered_end b.buffer v) lent v.key v.end ≡ end_in n lent v.key v.end
  end_by_next lent held v n n_is fits = step v.end refl
    where
      stands : (end : End) (m : Option ℕ) → v.end ≡ Some end → EndFits b.buffer floor v m → Some end ≡ end_in m lent v.key (Some end)
      stands end None is fits = refl
      stands end (Some e) is fits = elim fits [
        | inl stamped ↦ free stamped.1
        | inr other ↦ elim other [ inl plain ↦ free plain.2 | inr buffered ↦ absurd (none-some end (sym buffered.0 ∙ is)) ]
      ]
        where
          free_step : (t : Bool) → holds lent v.key e ≡ t → holds b.buffer v.key e ≡ false → Some end ≡ cond t (Some (At e)) (Some end)
          free_step true t_is none = absurd (cc (held v.key e t_is, none))
          free_step false t_is none = refl

          free : holds b.buffer v.key e ≡ false → Some end ≡ cond (holds lent v.key e) (Some (At e)) (Some end)
          free none = free_step (holds lent v.key e) refl none

      step : (end : Option End) → v.end ≡ end → end_in (unless_ended end (least_entry b.buffer v.key v.begin)) lent v.key end ≡ end_in n lent v.key end
      step None is = ap (λ o. end_in o lent v.key None) (least_next v n n_is is fits)
      step (Some end) is = stands end n is fits

-- the stock where the sources are the first of the frozen versions, and rest are the others
abbrev pub after_flushed : Stock → List Version → List Version → List Ending → Stock
after_flushed b sources rest lent = record {
  opened = b.opened;
  frozen = map (flushed b.buffer lent) sources ++ rest;
  buffer = without_entries lent b.buffer;
}

module _ (b : Stock) (cs : List Change) (floor : ℕ) (sources rest : List Version) (lent : List Ending)
    (j : IsStockOf b cs floor) (split : b.frozen ≡ sources ++ rest)
    (lent_held : (k : Key) (e : ℕ) → holds lent k e ≡ true → holds b.buffer k e ≡ true)
    (lent_owned : AllByRecursion (λ (x : Ending). list_any (is_end_of cs x) sources ≡ true) lent) where
  abbrev b' : Stock
  b' = after_flushed b sources rest lent

  -- no count sees an end
  count_same : (p : Version → Bool) → ((v : Version) → p (flushed b.buffer lent v) ≡ p v) → how_many p (map (flushed b.buffer lent) sources ++ rest) ≡ how_many p b.frozen
  count_same p h = how_many-append p (map (flushed b.buffer lent) sources) rest ∙ ap (λ n. n + how_many p rest) (how_many-map p (flushed b.buffer lent) sources ∙ same sources) ∙ sym (ap (how_many p) split ∙ how_many-append p sources rest)
    where
      same : (xs : List Version) → how_many (λ v. p (flushed b.buffer lent v)) xs ≡ how_many p xs
      same [] = refl
      same (x ∷ xs) = rw (h x, same xs) refl

  stems_all : AllByRecursion (Stems cs floor) (sources ++ rest)
  stems_all = rw split at (recursion_from_All (Stems cs floor) b.frozen j.versions.frozen)

  Stems-flushed : (v : Version) → Stems cs floor v → Stems cs floor (flushed b.buffer lent v)
  Stems-flushed v s = record { origin = s.origin; is_origin = s.is_origin; row = s.row; begin = s.begin }

  abbrev HasOwner : Ending → Type 0
  HasOwner x = how_many (is_end_of cs x) b.frozen ≡ 1

  abbrev HasOwner' : Ending → Type 0
  HasOwner' x = how_many (is_end_of cs x) (map (flushed b.buffer lent) sources ++ rest) ≡ 1

  held_after : (k : Key) (e : ℕ) → holds b'.buffer k e ≡ (holds b.buffer k e && not (holds lent k e))
  held_after k e = holds-filter (λ x y. not (holds lent x y)) b.buffer k e

  and-true : (t : Bool) → (t && true) ≡ t
  and-true true = refl
  and-true false = refl

  and-false : (t : Bool) → (t && false) ≡ false
  and-false true = refl
  and-false false = refl

  same_after : (k : Key) (e : ℕ) → holds lent k e ≡ false → holds b'.buffer k e ≡ holds b.buffer k e
  same_after k e is = held_after k e ∙ rw is (and-true (holds b.buffer k e))

  fits_same : (v : Version) (end : Option End) (e : ℕ) → v.end ≡ end → holds lent v.key e ≡ false → EndFits b.buffer floor v (Some e) → EndFits b'.buffer floor v (Some e)
  fits_same v end e end_is is fits =
      let same = same_after v.key e is in
      elim fits [
        | inl stamped ↦ inl (stamped.0, same ∙ stamped.1)
        | inr other ↦ elim other [
          | inl plain ↦ inr (inl (plain.0, plain.1, same ∙ plain.2))
          | inr buffered ↦ inr (inr (buffered.0, same ∙ buffered.1))
        ]
      ]

  abbrev Fits : Version → Type 0
  Fits v = EndFits b.buffer floor v (next_change cs v.key v.begin)

  abbrev Fits' : Version → Type 0
  Fits' v = EndFits b'.buffer floor v (next_change cs v.key v.begin)

  flush_step : (v : Version) (n : Option ℕ) → EndFits b.buffer floor v n → EndFits b'.buffer floor (record v { end = end_in n lent v.key v.end }) n
  flush_step v None fits = fits
  flush_step v (Some e) fits = step (holds lent v.key e) refl
    where
      step : (t : Bool) → holds lent v.key e ≡ t → EndFits b'.buffer floor (record v { end = cond t (Some (At e)) v.end }) (Some e)
      step true is = inl (refl, held_after v.key e ∙ rw is (and-false (holds b.buffer v.key e)))
      step false is = fits_same v v.end e refl is fits

  flush_fits : (v : Version) → Fits v → Fits' (flushed b.buffer lent v)
  flush_fits v fits =
      let same = end_by_next b cs floor j lent lent_held v (next_change cs v.key v.begin) refl fits in
      subst (λ (end : Option End). EndFits b'.buffer floor (record v { end = end }) (next_change cs v.key v.begin)) (sym same) (flush_step v (next_change cs v.key v.begin) fits)

  abbrev Counted : Version → Type 0
  Counted v = (p : Version → Bool) → p v ≡ true → 1 ≤ how_many p rest

  -- no lent entry is the end of another version
  rest_step : (v : Version) → Counted v → (e : ℕ) → next_change cs v.key v.begin ≡ Some e → (t : Bool) → holds lent v.key e ≡ t → t ≡ false
  rest_step v counted e n_is false is = refl
  rest_step v counted e n_is true is =
      let one = held_one (λ x. list_any (is_end_of cs x) sources ≡ true) lent v.key e lent_owned is in
      let two = held_one HasOwner b.buffer v.key e (recursion_from_All HasOwner b.buffer j.entries.owned) (lent_held v.key e is) in
      let same : same_key two.0.key v.key ≡ true = key_here two.0.key v.key (sym two.1) in
      let same_end : eqb e two.0.end ≡ true = let end = two.2 in grind (arith, nat_tests) in
      let is_end : is_end_of cs two.0 v ≡ true = rw (same, n_is, same_end) refl in
      let in_sources : list_any (is_end_of cs two.0) sources ≡ true = alike one.0 two.0 (one.1 ∙ sym two.1) (one.2 ∙ sym two.2) one.3 in
      let before : how_many (is_end_of cs two.0) (sources ++ rest) ≡ 1 = sym (ap (how_many (is_end_of cs two.0)) split) ∙ two.3 in
      absurd (omega (arith, before, how_many-append (is_end_of cs two.0) sources rest, some_pass (is_end_of cs two.0) sources in_sources, counted (is_end_of cs two.0) is_end))
    where
      alike : (x y : Ending) → x.key ≡ y.key → x.end ≡ y.end → list_any (is_end_of cs x) sources ≡ true → list_any (is_end_of cs y) sources ≡ true
      alike x y key end h = ap (λ (z : Ending). list_any (is_end_of cs z) sources) (sym (ap (λ (k : Key). let z : Ending = record { key = k; end = x.end } in z) key ∙ ap (λ (n : ℕ). let z : Ending = record { key = y.key; end = n } in z) end)) ∙ h

  rest_fits : (v : Version) → Counted v → (n : Option ℕ) → next_change cs v.key v.begin ≡ n → EndFits b.buffer floor v n → EndFits b'.buffer floor v n
  rest_fits v counted None n_is fits = fits
  rest_fits v counted (Some e) n_is fits = fits_same v v.end e refl (rest_step v counted e n_is (holds lent v.key e) refl) fits

  fits_all : AllByRecursion Fits (sources ++ rest)
  fits_all = rw split at (recursion_from_All Fits b.frozen j.ends.frozen)

  pub stock_flushed : IsStockOf (after_flushed b sources rest lent) cs floor
  stock_flushed = record {
    versions = record {
      frozen = All-from_recursion (Stems cs floor) (map (flushed b.buffer lent) sources ++ rest) (all-append (Stems cs floor) (map (flushed b.buffer lent) sources) rest (all-map (Stems cs floor) (Stems cs floor) (flushed b.buffer lent) sources Stems-flushed (all-left (Stems cs floor) sources rest stems_all)) (all-right (Stems cs floor) sources rest stems_all));
      opened = j.versions.opened;
      begins = j.versions.begins;
      once = λ k c. let le = j.versions.once k c in omega (arith, le, count_same (is_from cs k c) (λ v. refl));
    };
    ends = record {
      frozen = All-from_recursion Fits' (map (flushed b.buffer lent) sources ++ rest) (all-append Fits' (map (flushed b.buffer lent) sources) rest
          (all-map Fits Fits' (flushed b.buffer lent) sources flush_fits (all-left Fits sources rest fits_all))
          (all-both Fits Counted Fits' rest (λ v fits counted. rest_fits v counted (next_change cs v.key v.begin) refl fits) (all-right Fits sources rest fits_all) (counted_all rest)));
      opened = j.ends.opened;
    };
    entries = record {
      sorted = sorted_filter (λ (x : Ending). not (holds lent x.key x.end)) b.buffer j.entries.sorted;
      owned = All-from_recursion HasOwner' b'.buffer (all-filter HasOwner HasOwner' (λ (x : Ending). not (holds lent x.key x.end)) b.buffer (λ x one _. count_same (is_end_of cs x) (λ v. refl) ∙ one) (recursion_from_All HasOwner b.buffer j.entries.owned));
    };
    kept = λ i d inside some is_open. let x = get_or cs i d in ap (λ n. n + how_many (is_from cs x.edit.0 x.commit) b.opened) (count_same (is_from cs x.edit.0 x.commit) (λ v. refl)) ∙ j.kept i d inside some is_open;
  }
