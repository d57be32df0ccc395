-- An install keeps the versions in agreement with the changes.
use Rattle.std.proofs.Common.{◌≡◌, ℕ, ◌<◌, ◌≤◌, Bool, true, false, ◌&&◌, eqb, leb, List, ◌++◌, Option, Some, None, is_some, not, refl, sym, ap, ◌∙◌, inl, inr, arith}
use Rattle.std.specs.List.{All, AllByRecursion, list_any}
use Rattle.std.proofs.lemmas.Bool.Decides.{nat_tests}
use Rattle.std.proofs.lemmas.Bool.{cases_lt}
use Rattle.std.proofs.lemmas.List.Elements.{recursion_from_All, All-from_recursion}
use Rattle.cs_types.specs.declared.Key.{Key}
use Rattle.cs_types.specs.Keys.{same_key}
use Rattle.cs_model.specs.Changes.{Change}
use Rattle.group_book.specs.Book.{Version, Ending, how_many}
use Rattle.group_book.specs.Turns.{is_number, holds, is_gone, raised, repacked, without_entries}
use Rattle.group_book.specs.Stocks.{Stock, Stems, EndFits, IsSeenFrom, IsStockOf, next_change, is_after, is_numbered, is_from, copies, is_end_of}
use Rattle.group_book.proofs.Keys.{key_is, key_here}
use Rattle.group_book.proofs.Lists.{both_true, how_many-append, weaker, all-append, all-left, all-right, all-both, all-kept, all-filter, count-le, count-all, none_pass, some_pass, counted_all}
use Rattle.group_book.proofs.Changes.{last_at, last-is, last-max, next-max, next-above, next-before}
use Rattle.group_book.proofs.Entries.{holds-filter, held_one, sorted_filter}

flip : (t u : Bool) → t ≡ not u → not t ≡ true → u ≡ true
flip true true is h = cc
flip true false is h = cc
flip false true is h = refl
flip false false is h = cc

flop : (t u : Bool) → t ≡ not u → not t ≡ false → u ≡ false
flop true true is h = cc
flop true false is h = refl
flop false true is h = cc
flop false false is h = cc

-- the stock where the sources are the first of the frozen versions, and rest are the others
abbrev pub after_repack : Stock → List Version → List Version → ℕ → List Ending → List Ending → Stock
after_repack b sources rest f lent spent = record {
  opened = b.opened;
  frozen = repacked f lent sources ++ rest;
  buffer = without_entries spent b.buffer;
}

module _ (b : Stock) (cs : List Change) (floor : ℕ) (sources rest : List Version) (f : ℕ) (lent spent : List Ending)
    (j : IsStockOf b cs floor) (split : b.frozen ≡ sources ++ rest) (low_f : f ≤ floor)
    (gone_is : AllByRecursion (λ (v : Version). is_gone f lent v ≡ not (is_after f (next_change cs v.key v.begin))) sources)
    (spent_is : AllByRecursion (λ (x : Ending). holds spent x.key x.end ≡ (leb x.end f && list_any (is_end_of cs x) sources)) b.buffer) where
  abbrev keeps : Version → Bool
  keeps v = not (is_gone f lent v)

  abbrev After : Version → Type 0
  After v = is_gone f lent v ≡ not (is_after f (next_change cs v.key v.begin))

  after : (v : Version) → After v → keeps v ≡ true → is_after f (next_change cs v.key v.begin) ≡ true
  after v is kept = flip (is_gone f lent v) (is_after f (next_change cs v.key v.begin)) is kept

  stems_all : AllByRecursion (Stems cs floor) (sources ++ rest)
  stems_all = rw split at (recursion_from_All (Stems cs floor) b.frozen j.versions.frozen)

  Stems-raised : (v : Version) → is_after f (next_change cs v.key v.begin) ≡ true → Stems cs floor v → Stems cs floor (raised f v)
  Stems-raised v is stems = record {
    origin = stems.origin;
    is_origin = last-max cs v.key v.begin f is ∙ stems.is_origin;
    row = stems.row;
    begin = elim (cases_lt f v.begin) [
      | inl lt ↦ elim stems.begin [ inl same ↦ inl (omega (arith, same)) | inr below ↦ inr (omega (arith, below, low_f)) ]
      | inr ge ↦ inr (omega (arith, low_f))
    ];
  }

  abbrev StemsAfter : Version → Type 0
  StemsAfter v = Stems cs floor v × After v

  stems_frozen' : All (Stems cs floor) (repacked f lent sources ++ rest)
  stems_frozen' = All-from_recursion (Stems cs floor) (repacked f lent sources ++ rest) (all-append (Stems cs floor) (repacked f lent sources) rest
      (all-kept StemsAfter (Stems cs floor) keeps (raised f) sources (λ v both kept. Stems-raised v (after v both.1 kept) both.0)
      (all-both (Stems cs floor) After StemsAfter sources (λ v s a. (s, a)) (all-left (Stems cs floor) sources rest stems_all) gone_is))
      (all-right (Stems cs floor) sources rest stems_all))

  from_raised : (k : Key) (c : ℕ) (v : Version) → is_after f (next_change cs v.key v.begin) ≡ true → is_from cs k c (raised f v) ≡ is_from cs k c v
  from_raised k c v is = rw (last-max cs v.key v.begin f is) refl

  end_raised : (x : Ending) (v : Version) → is_after f (next_change cs v.key v.begin) ≡ true → is_end_of cs x (raised f v) ≡ is_end_of cs x v
  end_raised x v is = rw (next-max cs v.key v.begin f is) refl

  once' : (k : Key) (c : ℕ) → copies cs k c (after_repack b sources rest f lent spent) ≤ 1
  once' k c =
      let less = count-le (is_from cs k c) keeps (raised f) sources (weaker After (λ v. keeps v ≡ true → is_from cs k c (raised f v) ≡ is_from cs k c v) sources (λ v is kept. from_raised k c v (after v is kept)) gone_is) in
      let before = rw split at (j.versions.once k c) in
      omega (arith, less, before, how_many-append (is_from cs k c) sources rest, how_many-append (is_from cs k c) (repacked f lent sources) rest)

  -- a version that is left out had ended at most at f
  gone_next : (v : Version) → After v → keeps v ≡ false → (n : Option ℕ) → next_change cs v.key v.begin ≡ n → is_after f n ≡ false
  gone_next v is gone n n_is = ap (is_after f) (sym n_is) ∙ flop (is_gone f lent v) (is_after f (next_change cs v.key v.begin)) is gone

  not_end_step : (x : Ending) (n : Option ℕ) → f < x.end → is_after f n ≡ false → is_number x.end n ≡ false
  not_end_step x None lt h = refl
  not_end_step x (Some e) lt h = grind (arith, nat_tests)

  and-false : (t : Bool) → (t && false) ≡ false
  and-false true = refl
  and-false false = refl

  abbrev HasOwner : Ending → Type 0
  HasOwner x = how_many (is_end_of cs x) b.frozen ≡ 1

  abbrev HasOwner' : Ending → Type 0
  HasOwner' x = how_many (is_end_of cs x) (repacked f lent sources ++ rest) ≡ 1

  abbrev Spent : Ending → Type 0
  Spent x = holds spent x.key x.end ≡ (leb x.end f && list_any (is_end_of cs x) sources)

  left_out : (x : Ending) → (leb x.end f && list_any (is_end_of cs x) sources) ≡ false → AllByRecursion (λ v. keeps v ≡ false → is_end_of cs x v ≡ false) sources
  left_out x stays = step (leb x.end f) refl stays
    where
      step : (t : Bool) → leb x.end f ≡ t → (t && list_any (is_end_of cs x) sources) ≡ false → AllByRecursion (λ v. keeps v ≡ false → is_end_of cs x v ≡ false) sources
      step true is none = weaker (λ v. is_end_of cs x v ≡ false) (λ v. keeps v ≡ false → is_end_of cs x v ≡ false) sources (λ v no_end _. no_end) (none_pass (is_end_of cs x) sources none)
      step false is none =
          let lt : f < x.end = grind (arith, nat_tests) in
          weaker After (λ v. keeps v ≡ false → is_end_of cs x v ≡ false) sources (λ v is gone.
          ap (λ (t : Bool). same_key x.key v.key && t) (not_end_step x (next_change cs v.key v.begin) lt (gone_next v is gone (next_change cs v.key v.begin) refl)) ∙ and-false (same_key x.key v.key)) gone_is

  owner_kept : (x : Ending) → HasOwner x → Spent x → not (holds spent x.key x.end) ≡ true → HasOwner' x
  owner_kept x one is stays =
      let not_spent = flip-not (holds spent x.key x.end) stays in
      let same = count-all (is_end_of cs x) keeps (raised f) sources (weaker After (λ v. keeps v ≡ true → is_end_of cs x (raised f v) ≡ is_end_of cs x v) sources (λ v is kept. end_raised x v (after v is kept)) gone_is) (left_out x (sym is ∙ not_spent)) in
      let before = rw split at one in
      omega (arith, same, before, how_many-append (is_end_of cs x) sources rest, how_many-append (is_end_of cs x) (repacked f lent sources) rest)
    where
      flip-not : (t : Bool) → not t ≡ true → t ≡ false
      flip-not true h = cc
      flip-not false h = refl

  abbrev buffer' : List Ending
  buffer' = without_entries spent b.buffer

  owners_both : AllByRecursion (λ x. HasOwner x × Spent x) b.buffer
  owners_both = all-both HasOwner Spent (λ x. HasOwner x × Spent x) b.buffer (λ x o s. (o, s)) (recursion_from_All HasOwner b.buffer j.entries.owned) spent_is

  entries' : All HasOwner' buffer'
  entries' = All-from_recursion HasOwner' buffer' (all-filter (λ x. HasOwner x × Spent x) HasOwner' (λ x. not (holds spent x.key x.end)) b.buffer (λ x both stays. owner_kept x both.0 both.1 stays) owners_both)

  -- an entry that is not spent stays
  stays_held : (k : Key) (e : ℕ) → (holds b.buffer k e ≡ true → holds spent k e ≡ false) → holds buffer' k e ≡ holds b.buffer k e
  stays_held k e h = holds-filter (λ x y. not (holds spent x y)) b.buffer k e ∙ step (holds b.buffer k e) refl
    where
      step : (t : Bool) → holds b.buffer k e ≡ t → (t && not (holds spent k e)) ≡ t
      step true is = rw (h is) refl
      step false is = refl

  kept_entry : (k : Key) (e : ℕ) → f < e → holds b.buffer k e ≡ true → holds spent k e ≡ false
  kept_entry k e lt held =
      let one = held_one Spent b.buffer k e spent_is held in
      let late : leb one.0.end f ≡ false = let end = one.2 in grind (arith, nat_tests) in
      ap (λ (n : Key). holds spent n e) (sym one.1) ∙ ap (λ (n : ℕ). holds spent one.0.key n) (sym one.2) ∙ one.3 ∙ rw late refl

  abbrev buffered_stays : Version → Option ℕ → Type 0
  buffered_stays v n = (e : ℕ) → n ≡ Some e → holds b.buffer v.key e ≡ true → holds spent v.key e ≡ false

  fits_kept : (v : Version) (n : Option ℕ) → buffered_stays v n → EndFits b.buffer floor v n → EndFits buffer' floor v n
  fits_kept v None stays fits = fits
  fits_kept v (Some e) stays fits =
      let same = stays_held v.key e (stays e refl) in
      elim fits [
        | inl stamped ↦ inl (stamped.0, same ∙ stamped.1)
        | inr other ↦ elim other [
          | inl plain ↦ inr (inl (plain.0, plain.1, same ∙ plain.2))
          | inr buffered ↦ inr (inr (buffered.0, same ∙ buffered.1))
        ]
      ]

  after_lt : (n : Option ℕ) (e : ℕ) → is_after f n ≡ true → n ≡ Some e → f < e
  after_lt n e h is = let late = rw is at h in grind (arith, nat_tests)

  abbrev Fits : Version → Type 0
  Fits v = EndFits b.buffer floor v (next_change cs v.key v.begin)

  abbrev Fits' : Version → Type 0
  Fits' v = EndFits buffer' floor v (next_change cs v.key v.begin)

  fits_raised : (v : Version) → is_after f (next_change cs v.key v.begin) ≡ true → Fits v → Fits' (raised f v)
  fits_raised v is fits = rw (next-max cs v.key v.begin f is) (fits_kept v (next_change cs v.key v.begin) (λ e n_is. kept_entry v.key e (after_lt (next_change cs v.key v.begin) e is n_is)) fits)

  abbrev Counted : Version → Type 0
  Counted v = (p : Version → Bool) → p v ≡ true → 1 ≤ how_many p rest

  rest_entry : (v : Version) → Counted v → buffered_stays v (next_change cs v.key v.begin)
  rest_entry v counted e n_is held =
      let one = held_one (λ x. HasOwner x × Spent x) b.buffer v.key e owners_both held in
      ap (λ (n : Key). holds spent n e) (sym one.1) ∙ ap (λ (n : ℕ). holds spent one.0.key n) (sym one.2) ∙ one.3.1 ∙ step one.0 one.1 one.2 one.3.0 (leb one.0.end f) (list_any (is_end_of cs one.0) sources) refl
    where
      step : (x : Ending) → x.key ≡ v.key → x.end ≡ e → HasOwner x → (t u : Bool) → list_any (is_end_of cs x) sources ≡ u → (t && u) ≡ false
      step x key end owner false u u_is = refl
      step x key end owner true false u_is = refl
      step x key end owner true true u_is =
          let same : same_key x.key v.key ≡ true = key_here x.key v.key (sym key) in
          let same_end : eqb e x.end ≡ true = grind (arith, nat_tests) in
          let is_end : is_end_of cs x v ≡ true = rw (same, n_is, same_end) refl in
          let before = rw split at owner in
          absurd (omega (arith, before, how_many-append (is_end_of cs x) sources rest, some_pass (is_end_of cs x) sources u_is, counted (is_end_of cs x) is_end))

  fits_all : AllByRecursion Fits (sources ++ rest)
  fits_all = rw split at (recursion_from_All Fits b.frozen j.ends.frozen)

  ends_frozen' : All Fits' (repacked f lent sources ++ rest)
  ends_frozen' = All-from_recursion Fits' (repacked f lent sources ++ rest) (all-append Fits' (repacked f lent sources) rest
      (all-kept (λ v. Fits v × After v) Fits' keeps (raised f) sources (λ v both kept. fits_raised v (after v both.1 kept) both.0)
      (all-both Fits After (λ v. Fits v × After v) sources (λ v x a. (x, a)) (all-left Fits sources rest fits_all) gone_is))
      (all-both Fits Counted Fits' rest (λ v fits counted. fits_kept v (next_change cs v.key v.begin) (rest_entry v counted) fits) (all-right Fits sources rest fits_all) (counted_all rest)))

  -- what has to be kept was not left out
  abbrev Kept : Change → Type 0
  Kept x = is_some x.edit.1 ≡ true → IsSeenFrom floor (next_change cs x.edit.0 x.commit) → copies cs x.edit.0 x.commit b ≡ 1

  abbrev Kept' : Change → Type 0
  Kept' x = is_some x.edit.1 ≡ true → IsSeenFrom floor (next_change cs x.edit.0 x.commit) → copies cs x.edit.0 x.commit (after_repack b sources rest f lent spent) ≡ 1

  closed_step : (n : Option ℕ) (e : ℕ) → e ≤ f → is_after e n ≡ false → IsSeenFrom floor n → ⊥
  closed_step None e le h is_open = cc
  closed_step (Some d) e le h is_open = let reached : d ≤ e = grind (arith, nat_tests) in omega (arith, is_open, low_f, reached)

  not_from_gone : (x : Change) → IsSeenFrom floor (next_change cs x.edit.0 x.commit) → (v : Version) → Stems cs floor v → After v → keeps v ≡ false → is_from cs x.edit.0 x.commit v ≡ false
  not_from_gone x is_open v stems is gone = step (next_change cs v.key v.begin) refl (is_from cs x.edit.0 x.commit v) refl
    where
      step : (n : Option ℕ) → next_change cs v.key v.begin ≡ n → (t : Bool) → is_from cs x.edit.0 x.commit v ≡ t → t ≡ false
      step n n_is false from = refl
      step None n_is true from = let early = gone_next v is gone None n_is in cc
      step (Some e) n_is true from =
          let tests = both_true (same_key x.edit.0 v.key) (is_numbered x.commit (last_at cs v.key v.begin)) from in
          let numbered = rw stems.is_origin at tests.1 in
          let key : v.key ≡ x.edit.0 = key_is x.edit.0 v.key tests.0 in
          let number : stems.origin.commit ≡ x.commit = grind (arith, nat_tests, numbered) in
          let low = (last-is cs v.key v.begin stems.origin stems.is_origin).low in
          let above = next-above cs v.key v.begin e n_is in
          let early : e ≤ f = let past = gone_next v is gone (Some e) n_is in grind (arith, nat_tests, past) in
          let next_x : next_change cs x.edit.0 v.begin ≡ Some e = ap (λ (k : Key). next_change cs k v.begin) (sym key) ∙ n_is in
          absurd (closed_step (next_change cs x.edit.0 x.commit) e early (next-before cs x.edit.0 v.begin x.commit e next_x (omega (arith, low, above, number))) is_open)

  present_step : (x : Change) → Kept x → Kept' x
  present_step x kept some is_open =
      let same = count-all (is_from cs x.edit.0 x.commit) keeps (raised f) sources
      (weaker After (λ v. keeps v ≡ true → is_from cs x.edit.0 x.commit (raised f v) ≡ is_from cs x.edit.0 x.commit v) sources (λ v is kept. from_raised x.edit.0 x.commit v (after v is kept)) gone_is)
      (all-both (Stems cs floor) After (λ v. keeps v ≡ false → is_from cs x.edit.0 x.commit v ≡ false) sources (λ v stems is gone. not_from_gone x is_open v stems is gone) (all-left (Stems cs floor) sources rest stems_all) gone_is) in
      let before = rw split at (kept some is_open) in
      omega (arith, same, before, how_many-append (is_from cs x.edit.0 x.commit) sources rest, how_many-append (is_from cs x.edit.0 x.commit) (repacked f lent sources) rest)

  pub stock_repacked : IsStockOf (after_repack b sources rest f lent spent) cs floor
  stock_repacked = record {
    versions = record { frozen = stems_frozen'; opened = j.versions.opened; begins = j.versions.begins; once = once' };
    ends = record { frozen = ends_frozen'; opened = j.ends.opened };
    entries = record { sorted = sorted_filter (λ (x : Ending). not (holds spent x.key x.end)) b.buffer j.entries.sorted; owned = entries' };
    kept = All-from_recursion Kept' cs (weaker Kept Kept' cs present_step (recursion_from_All Kept cs j.kept));
  }
