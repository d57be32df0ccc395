-- Versions that go from the open store to the others, and versions in another order.
use Rattle.std.proofs.Common.{◌≡◌, ℕ, ◌≤◌, ◌+◌, Bool, true, false, cond, eqb, leb, map, List, [], ◌∷◌, ◌++◌, fold, Option, Some, None, get_or, refl, sym, ap, ◌∙◌, inl, inr, arith}
use Rattle.std.specs.List.{AllByRecursion, count_by}
use Rattle.std.specs.List.Sorted.{IsPermutation}
use Rattle.std.specs.Option.{option_map}
use Rattle.std.proofs.lemmas.Bool.Decides.{nat_tests}
use Rattle.std.proofs.lemmas.List.Elements.{recursion_from_All, All-from_recursion, All-append}
use Rattle.std.proofs.lemmas.List.Sorted.{All-permutation, sum_by-IsPermutation}
use Rattle.cs_types.specs.declared.Key.{Key}
use Rattle.cs_types.specs.Keys.{same_key}
use Rattle.cs_model.specs.Changes.{Change}
use Rattle.group_book.specs.Book.{Version, Ending, how_many}
use Rattle.group_book.specs.Book.End.{At, Plain}
use Rattle.group_book.specs.Turns.{is_number, holds, settled_end, settled}
use Rattle.group_book.specs.Stocks.{Stock, Stems, EndFits, IsStockOf, next_change, is_from, is_end_of}
use Rattle.group_book.proofs.Keys.{key_is, key_here, key_itself}
use Rattle.group_book.proofs.Lists.{both_true, how_many-append, how_many-none, how_many-map, weaker, all-both, all-left, all-right, all-map, counted_all}
use Rattle.group_book.proofs.Changes.{last_at, one_origin}
use Rattle.group_book.proofs.Entries.{held_one}
use Rattle.group_book.proofs.Shown.{at_is}

-- ---- order

fold_count : {X : Type 0} (p : X → Bool) (xs : List X) (n : ℕ) → fold (λ a x. a + cond (p x) 1 0) n xs ≡ n + how_many p xs
fold_count p [] n = omega arith
fold_count p (x ∷ xs) n = fold_count p xs (n + cond (p x) 1 0) ∙ omega arith

pub count_by-how_many : {X : Type 0} (p : X → Bool) (xs : List X) → count_by p xs ≡ how_many p xs
count_by-how_many p xs = fold_count p xs 0 ∙ omega arith

pub how_many-permutation : {X : Type 0} (p : X → Bool) (xs ys : List X) → IsPermutation xs ys → how_many p ys ≡ how_many p xs
how_many-permutation p xs ys moved = sym (count_by-how_many p ys) ∙ sum_by-IsPermutation (λ x. cond (p x) 1 0) xs ys moved ∙ count_by-how_many p xs

-- the order of the versions does not matter
pub stock_permuted : (b : Stock) (cs : List Change) (floor : ℕ) (ys zs : List Version) → IsPermutation b.frozen ys → IsPermutation b.opened zs → IsStockOf b cs floor
    → IsStockOf (record { opened = zs; frozen = ys; buffer = b.buffer }) cs floor
stock_permuted b cs floor ys zs frozen opened j = record {
  versions = record {
    frozen = All-permutation (Stems cs floor) b.frozen ys frozen j.versions.frozen;
    opened = All-permutation (Stems cs floor) b.opened zs opened j.versions.opened;
    begins = All-permutation (λ (v : Version). is_from cs v.key v.begin v ≡ true) b.opened zs opened j.versions.begins;
    once = λ k c. let le = j.versions.once k c in omega (arith, le, how_many-permutation (is_from cs k c) b.frozen ys frozen, how_many-permutation (is_from cs k c) b.opened zs opened);
  };
  ends = record {
    frozen = All-permutation (λ (v : Version). EndFits b.buffer floor v (next_change cs v.key v.begin)) b.frozen ys frozen j.ends.frozen;
    opened = All-permutation (λ (v : Version). v.end ≡ option_map At (next_change cs v.key v.begin)) b.opened zs opened j.ends.opened;
  };
  entries = record {
    sorted = j.entries.sorted;
    owned = λ i d inside. let x = get_or b.buffer i d in how_many-permutation (is_end_of cs x) b.frozen ys frozen ∙ j.entries.owned i d inside;
  };
  kept = λ i d inside some is_open. let x = get_or cs i d in
      let one = j.kept i d inside some is_open in
      omega (arith, one, how_many-permutation (is_from cs x.edit.0 x.commit) b.frozen ys frozen, how_many-permutation (is_from cs x.edit.0 x.commit) b.opened zs opened);
}

-- ---- versions that leave the open store

count-imp : {X : Type 0} (p q : X → Bool) (xs : List X) → ((x : X) → p x ≡ true → q x ≡ true) → how_many p xs ≤ how_many q xs
count-imp p q [] h = omega arith
count-imp p q (x ∷ xs) h = step (p x) (q x) (h x) (count-imp p q xs h)
  where
    step : (s t : Bool) → (s ≡ true → t ≡ true) → how_many p xs ≤ how_many q xs → cond s 1 0 + how_many p xs ≤ cond t 1 0 + how_many q xs
    step true t imp rest = rw (imp refl) (omega (arith, rest))
    step false true imp rest = omega (arith, rest)
    step false false imp rest = omega (arith, rest)

-- the stock with the last open versions among the others
abbrev pub after_move : Stock → List Version → List Version → Stock
after_move b keep moved = record { opened = keep; frozen = b.frozen ++ moved; buffer = b.buffer }

module _ (b : Stock) (cs : List Change) (floor : ℕ) (keep moved : List Version) (j : IsStockOf b cs floor) (split : b.opened ≡ keep ++ moved) where
  abbrev HasOwner : Ending → Type 0
  HasOwner x = how_many (is_end_of cs x) b.frozen ≡ 1

  abbrev Counted : Version → Type 0
  Counted v = (p : Version → Bool) → p v ≡ true → 1 ≤ how_many p moved

  abbrev StemsCounted : Version → Type 0
  StemsCounted v = Stems cs floor v × Counted v

  opened_count : (p : Version → Bool) → how_many p b.opened ≡ how_many p keep + how_many p moved
  opened_count p = ap (how_many p) split ∙ how_many-append p keep moved

  -- no entry is the end of an open version
  not_end : (x : Ending) → HasOwner x → (v : Version) → StemsCounted v → (t : Bool) → is_end_of cs x v ≡ t → t ≡ false
  not_end x one v both false is = refl
  not_end x one v both true is =
      let stems = both.0 in
      let tests = both_true (same_key x.key v.key) (is_number x.end (next_change cs v.key v.begin)) is in
      let next_v = at_is x.end (next_change cs v.key v.begin) tests.1 in
      let more = count-imp (is_end_of cs x) (is_from cs v.key stems.origin.commit) b.frozen (λ w is_end.
      let tests_w = both_true (same_key x.key w.key) (is_number x.end (next_change cs w.key w.begin)) is_end in
      let key : w.key ≡ v.key = key_is x.key w.key tests_w.0 ∙ sym (key_is x.key v.key tests.0) in
      let here : same_key v.key w.key ≡ true = key_here v.key w.key key in
      let next_w = at_is x.end (next_change cs w.key w.begin) tests_w.1 in
      let next_k : next_change cs v.key w.begin ≡ Some x.end = ap (λ (q : Key). next_change cs q w.begin) (sym key) ∙ next_w in
      let last_w : last_at cs w.key w.begin ≡ Some stems.origin = ap (λ (q : Key). last_at cs q w.begin) key ∙ one_origin cs v.key w.begin v.begin x.end next_k next_v ∙ stems.is_origin in
      let itself : eqb stems.origin.commit stems.origin.commit ≡ true = grind (arith, nat_tests) in
      rw (here, last_w, itself) refl) in
      let own : is_from cs v.key stems.origin.commit v ≡ true =
      let here : same_key v.key v.key ≡ true = key_itself v.key in
      let itself : eqb stems.origin.commit stems.origin.commit ≡ true = grind (arith, nat_tests) in
      rw (here, stems.is_origin, itself) refl in
      absurd (omega (arith, more, one, j.versions.once v.key stems.origin.commit, opened_count (is_from cs v.key stems.origin.commit), both.1 (is_from cs v.key stems.origin.commit) own))

  stems_all : AllByRecursion (Stems cs floor) (keep ++ moved)
  stems_all = rw split at (recursion_from_All (Stems cs floor) b.opened j.versions.opened)

  stems_counted : AllByRecursion StemsCounted moved
  stems_counted = all-both (Stems cs floor) Counted StemsCounted moved (λ v s c. (s, c)) (all-right (Stems cs floor) keep moved stems_all) (counted_all moved)

  owner_after : (x : Ending) → HasOwner x → how_many (is_end_of cs x) (b.frozen ++ moved) ≡ 1
  owner_after x one = omega (arith, one, how_many-append (is_end_of cs x) b.frozen moved, how_many-none (is_end_of cs x) moved (weaker StemsCounted (λ v. is_end_of cs x v ≡ false) moved (λ v both. not_end x one v both (is_end_of cs x v) refl) stems_counted))

  -- an open version's end is recorded with it
  unbuffered_step : (v : Version) → StemsCounted v → (e : ℕ) → next_change cs v.key v.begin ≡ Some e → (t : Bool) → holds b.buffer v.key e ≡ t → t ≡ false
  unbuffered_step v both e n_is false is = refl
  unbuffered_step v both e n_is true is =
      let one = held_one HasOwner b.buffer v.key e (recursion_from_All HasOwner b.buffer j.entries.owned) is in
      let same : same_key one.0.key v.key ≡ true = key_here one.0.key v.key (sym one.1) in
      let same_end : eqb e one.0.end ≡ true = let end = one.2 in grind (arith, nat_tests) in
      let is_end : is_end_of cs one.0 v ≡ true = rw (same, n_is, same_end) refl in
      let contrary = not_end one.0 one.3 v both true is_end in
      cc

  abbrev Fits : Version → Type 0
  Fits v = EndFits b.buffer floor v (next_change cs v.key v.begin)

  abbrev EndIs : Version → Type 0
  EndIs v = v.end ≡ option_map At (next_change cs v.key v.begin)

  fits_step : (v : Version) → StemsCounted v → (n : Option ℕ) → next_change cs v.key v.begin ≡ n → v.end ≡ option_map At n → EndFits b.buffer floor v n
  fits_step v both None n_is end = end
  fits_step v both (Some e) n_is end = inl (end, unbuffered_step v both e n_is (holds b.buffer v.key e) refl)

  count_after : (p : Version → Bool) → how_many p (b.frozen ++ moved) + how_many p keep ≡ how_many p b.frozen + how_many p b.opened
  count_after p = omega (arith, how_many-append p b.frozen moved, opened_count p)

  ends_all : AllByRecursion EndIs (keep ++ moved)
  ends_all = rw split at (recursion_from_All EndIs b.opened j.ends.opened)

  abbrev Begins : Version → Type 0
  Begins v = is_from cs v.key v.begin v ≡ true

  pub stock_moved : IsStockOf (after_move b keep moved) cs floor
  stock_moved = record {
    versions = record {
      frozen = All-append (Stems cs floor) b.frozen moved j.versions.frozen (All-from_recursion (Stems cs floor) moved (all-right (Stems cs floor) keep moved stems_all));
      opened = All-from_recursion (Stems cs floor) keep (all-left (Stems cs floor) keep moved stems_all);
      begins = All-from_recursion Begins keep (all-left Begins keep moved (rw split at (recursion_from_All Begins b.opened j.versions.begins)));
      once = λ k c. let le = j.versions.once k c in omega (arith, le, count_after (is_from cs k c));
    };
    ends = record {
      frozen = All-append Fits b.frozen moved j.ends.frozen (All-from_recursion Fits moved (all-both StemsCounted EndIs Fits moved (λ v both end. fits_step v both (next_change cs v.key v.begin) refl end) stems_counted (all-right EndIs keep moved ends_all)));
      opened = All-from_recursion EndIs keep (all-left EndIs keep moved ends_all);
    };
    entries = record {
      sorted = j.entries.sorted;
      owned = λ i d inside. owner_after (get_or b.buffer i d) (j.entries.owned i d inside);
    };
    kept = λ i d inside some is_open. let x = get_or cs i d in count_after (is_from cs x.edit.0 x.commit) ∙ j.kept i d inside some is_open;
  }

-- ---- ends that become plain

-- the stock where the sources, the first of the frozen versions, are settled
abbrev pub after_settled : Stock → List Version → List Version → ℕ → Stock
after_settled b sources rest f = record { opened = b.opened; frozen = map (settled f) sources ++ rest; buffer = b.buffer }

module _ (b : Stock) (cs : List Change) (floor : ℕ) (sources rest : List Version) (f : ℕ) (j : IsStockOf b cs floor) (split : b.frozen ≡ sources ++ rest) (low_f : f ≤ floor) where
  settle_count : (p : Version → Bool) → ((v : Version) → p (settled f v) ≡ p v) → how_many p (map (settled f) sources ++ rest) ≡ how_many p b.frozen
  settle_count p h = how_many-append p (map (settled f) sources) rest ∙ ap (λ n. n + how_many p rest) (how_many-map p (settled f) sources ∙ same sources) ∙ sym (ap (how_many p) split ∙ how_many-append p sources rest)
    where
      same : (xs : List Version) → how_many (λ v. p (settled f v)) xs ≡ how_many p xs
      same [] = refl
      same (x ∷ xs) = rw (h x, same xs) refl

  abbrev Fits2 : Version → Type 0
  Fits2 v = EndFits b.buffer floor v (next_change cs v.key v.begin)

  settle_step : (v : Version) (n : Option ℕ) → EndFits b.buffer floor v n → EndFits b.buffer floor (settled f v) n
  settle_step v None fits = ap (settled_end f) fits
  settle_step v (Some e) fits = elim fits [
    | inl stamped ↦ step stamped (leb e f) refl
    | inr other ↦ elim other [
      | inl plain ↦ inr (inl (ap (settled_end f) plain.0, plain.1, plain.2))
      | inr buffered ↦ inr (inr (ap (settled_end f) buffered.0, buffered.1))
    ]
  ]
    where
      step : (v.end ≡ Some (At e)) × (holds b.buffer v.key e ≡ false) → (t : Bool) → leb e f ≡ t → EndFits b.buffer floor (settled f v) (Some e)
      step stamped true is = let le : e ≤ f = grind (arith, nat_tests) in inr (inl (ap (settled_end f) stamped.0 ∙ ap (λ (t : Bool). cond t (Some Plain) (Some (At e))) is, omega (arith, le, low_f), stamped.1))
      step stamped false is = inl (ap (settled_end f) stamped.0 ∙ ap (λ (t : Bool). cond t (Some Plain) (Some (At e))) is, stamped.1)

  stems_both : AllByRecursion (Stems cs floor) (sources ++ rest)
  stems_both = rw split at (recursion_from_All (Stems cs floor) b.frozen j.versions.frozen)

  fits_both : AllByRecursion Fits2 (sources ++ rest)
  fits_both = rw split at (recursion_from_All Fits2 b.frozen j.ends.frozen)

  pub stock_settled : IsStockOf (after_settled b sources rest f) cs floor
  stock_settled = record {
    versions = record {
      frozen = All-append (Stems cs floor) (map (settled f) sources) rest
          (All-from_recursion (Stems cs floor) (map (settled f) sources) (all-map (Stems cs floor) (Stems cs floor) (settled f) sources (λ v s. record { origin = s.origin; is_origin = s.is_origin; row = s.row; begin = s.begin }) (all-left (Stems cs floor) sources rest stems_both)))
          (All-from_recursion (Stems cs floor) rest (all-right (Stems cs floor) sources rest stems_both));
      opened = j.versions.opened;
      begins = j.versions.begins;
      once = λ k c. let le = j.versions.once k c in omega (arith, le, settle_count (is_from cs k c) (λ v. refl));
    };
    ends = record {
      frozen = All-append Fits2 (map (settled f) sources) rest
          (All-from_recursion Fits2 (map (settled f) sources) (all-map Fits2 Fits2 (settled f) sources (λ v fits. settle_step v (next_change cs v.key v.begin) fits) (all-left Fits2 sources rest fits_both)))
          (All-from_recursion Fits2 rest (all-right Fits2 sources rest fits_both));
      opened = j.ends.opened;
    };
    entries = record { sorted = j.entries.sorted; owned = λ i d inside. settle_count (is_end_of cs (get_or b.buffer i d)) (λ v. refl) ∙ j.entries.owned i d inside };
    kept = λ i d inside some is_open. let x = get_or cs i d in ap (λ n. n + how_many (is_from cs x.edit.0 x.commit) b.opened) (settle_count (is_from cs x.edit.0 x.commit) (λ v. refl)) ∙ j.kept i d inside some is_open;
  }
