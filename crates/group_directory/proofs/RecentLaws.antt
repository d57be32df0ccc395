-- The newest changes, as changes are committed and pruned.
use Rattle.std.proofs.Common.{◌≡◌, ℕ, ◌<◌, ◌≤◌, ◌+◌, Bool, true, false, ◌||◌, cond, ltb, List, [], ◌∷◌, ◌++◌, fold, Option, Some, None, is_some, IfSome, refl, sym, ap, subst, ◌∙◌, arith}
use Rattle.std.specs.List.{AllByRecursion}
use Rattle.std.specs.Option.{option_map, ForSome}
use Rattle.std.specs.FinMap as finite
use Rattle.std.proofs.lemmas.Bool.Decides.{nat_tests}
use Rattle.std.proofs.lemmas.List.Sums.{fold-append}
use Rattle.cs_types.specs.declared.Key.{Key}
use Rattle.cs_types.specs.Keys.{key_cmp, same_key}
use Rattle.cs_model.specs.Changes.{Edit, Change, newest}
use Rattle.cs_model.specs.Obstacles.{keys_of, is_above, IsChange}
use Rattle.cs_model.specs.Steps.{numbered}
use Rattle.version_store.specs.declared.NewestChange.{NewestChange}
use Rattle.version_store.specs.Newest.{Changes, noted_by, above, KeepsAbove}
use Rattle.version_store.proofs.Laid.{get-noted}
use Rattle.group_book.specs.Commits.{is_one_of}
use Rattle.group_book.specs.Stocks.{AreChanges}
use Rattle.group_book.proofs.Visible.{below_of}
use Rattle.group_book.proofs.Made.{is_written}
use Rattle.group_directory.specs.Stands.{note_of, IsRecent}

-- ---- what is noted

keys_written : (own : List Edit) (key : Key) → is_one_of (keys_of own) key ≡ is_written own key
keys_written [] key = refl
keys_written (w ∷ own) key = ap (λ t. same_key key w.0 || t) (keys_written own key)

-- ---- the newest change after a commit

abbrev taken : Key → Option Change → Change → Option Change
taken key last change = cond (same_key key change.edit.0) (Some change) last

module _ (c txn : ℕ) (key : Key) where
  abbrev note : NewestChange
  note = record { commit = c; txn = txn }

  newest_step : (p q : Bool) (w : Edit) (acc : Option Change) → cond q (Some note) (option_map note_of (cond p (Some (record { commit = c; txn = txn; edit = w })) acc)) ≡ cond (p || q) (Some note) (option_map note_of acc)
  newest_step true true w acc = refl
  newest_step true false w acc = refl
  newest_step false q w acc = refl

  newest_from : (own : List Edit) (acc : Option Change) → option_map note_of (fold (taken key) acc (numbered c txn own)) ≡ cond (is_written own key) (Some note) (option_map note_of acc)
  newest_from [] acc = refl
  newest_from (w ∷ own) acc = newest_from own (taken key acc (record { commit = c; txn = txn; edit = w })) ∙ newest_step (same_key key w.0) (is_written own key) w acc

  pub newest_committed : (cs : List Change) (own : List Edit) → option_map note_of (newest key (cs ++ numbered c txn own)) ≡ cond (is_written own key) (Some note) (option_map note_of (newest key cs))
  newest_committed cs own = ap (option_map note_of) (fold-append (taken key) None cs (numbered c txn own)) ∙ newest_from own (newest key cs)

  -- a key that it does not write has a change above a snapshot exactly where it had one
  pub above_stays : (cs : List Change) (own : List Edit) (q : Option ℕ) → is_written own key ≡ false → is_above (newest key (cs ++ numbered c txn own)) q ≡ is_above (newest key cs) q
  above_stays cs own q none = above_alike (newest key (cs ++ numbered c txn own)) (newest key cs) q (newest_committed cs own ∙ ap (λ (t : Bool). cond t (Some note) (option_map note_of (newest key cs))) none)
    where
      above_alike : (o p : Option Change) (q : Option ℕ) → option_map note_of o ≡ option_map note_of p → is_above o q ≡ is_above p q
      above_alike None None q is = refl
      above_alike None (Some y) q is = absurd (cc is)
      above_alike (Some x) None q is = absurd (cc is)
      above_alike (Some x) (Some y) None is = refl
      above_alike (Some x) (Some y) (Some s) is = let same : note_of x ≡ note_of y = cc is in ap (λ (n : NewestChange). ltb s n.commit) same

-- what holds of each change holds of a key's newest one
newest_holds : (P : Change → Type 0) (key : Key) (acc : Option Change) (xs : List Change) → IfSome acc P → AllByRecursion P xs → IfSome (fold (taken key) acc xs) P
newest_holds P key acc [] h all = h
newest_holds P key acc (x ∷ xs) h all = newest_holds P key (taken key acc x) xs (step (same_key key x.edit.0)) all.1
  where
    step : (t : Bool) → IfSome (cond t (Some x) acc) P
    step true = all.0
    step false = h

newest_low : (clock : ℕ) (cs : List Change) (key : Key) → AreChanges cs clock → IfSome (newest key cs) (λ change. change.commit ≤ clock)
newest_low clock cs key a = newest_holds (λ change. change.commit ≤ clock) key None cs tt (below_of cs clock a)

-- ---- a commit

-- a change whose note is this one
from_note : (o : Option Change) (note : NewestChange) → option_map note_of o ≡ Some note → (change : Change) × (o ≡ Some change) × (note_of change ≡ note)
from_note None note is = cc
from_note (Some change) note is = (change, refl, cc)

module _ (pruned : ℕ) (noted : Changes) (cs : List Change) (j : IsRecent pruned noted cs) where
  module _ (clock txn : ℕ) (own : List Edit) where
    abbrev new : NewestChange
    new = record { commit = clock + 1; txn = txn }

    abbrev now : List Change
    now = cs ++ numbered (clock + 1) txn own

    get_is : (key : Key) → finite.get (noted_by new noted (keys_of own)) key ≡ cond (is_written own key) (Some new) (finite.get noted key)
    get_is key = get-noted new noted (keys_of own) key ∙ ap (λ (t : Bool). cond t (Some new) (finite.get noted key)) (keys_written own key)

    known_step : (key : Key) (n : NewestChange) (t : Bool) → cond t (Some new) (finite.get noted key) ≡ Some n → cond t (Some new) (option_map note_of (newest key cs)) ≡ Some n
    known_step key n true is = is
    known_step key n false is = j.known key n is

    known : (key : Key) (n : NewestChange) → finite.get (noted_by new noted (keys_of own)) key ≡ Some n → option_map note_of (newest key now) ≡ Some n
    known key n is = newest_committed (clock + 1) txn key cs own ∙ known_step key n (is_written own key) (sym (get_is key) ∙ is)

    above_step : (key : Key) (n : NewestChange) (t : Bool) → pruned < n.commit → cond t (Some new) (option_map note_of (newest key cs)) ≡ Some n → cond t (Some new) (finite.get noted key) ≡ Some n
    above_step key n true lt is = is
    above_step key n false lt is =
        let found = from_note (newest key cs) n is in
        j.above key found.0 found.1 (subst (λ (m : NewestChange). pruned < m.commit) (sym found.2) lt) ∙ ap Some found.2

    above_it : (key : Key) (change : Change) → newest key now ≡ Some change → pruned < change.commit → finite.get (noted_by new noted (keys_of own)) key ≡ Some (note_of change)
    above_it key change is lt = get_is key ∙ above_step key (note_of change) (is_written own key) lt (sym (newest_committed (clock + 1) txn key cs own) ∙ ap (option_map note_of) is)

    pub recent_new : IsRecent pruned (noted_by new noted (keys_of own)) now
    recent_new = record { known = known; above = above_it }

  -- ---- a prune

  pub recent_pruned : (at : ℕ) (left : Changes) → pruned ≤ at → KeepsAbove at noted left → IsRecent at left cs
  recent_pruned at left le keeps = record {
    known = λ key n is. j.known key n (was (finite.get noted key) n (sym (keeps key) ∙ is));
    above = λ key change is lt. keeps key ∙ ap (above at) (j.above key change is (omega (arith, le, lt))) ∙ kept (note_of change) lt;
  }
    where
      was_step : (t : Bool) (m n : NewestChange) → cond t (Some m) None ≡ Some n → Some m ≡ Some n
      was_step true m n is = is
      was_step false m n is = cc

      was : (o : Option NewestChange) (n : NewestChange) → above at o ≡ Some n → o ≡ Some n
      was None n is = cc
      was (Some m) n is = was_step (ltb at m.commit) m n is

      kept : (n : NewestChange) → at < n.commit → above at (Some n) ≡ Some n
      kept n lt = let passes : ltb at n.commit ≡ true = grind (arith, nat_tests) in ap (λ (t : Bool). cond t (Some n) None) passes

  -- ---- who judges by it

  module _ (s : ℕ) (reach : pruned ≤ s) (key : Key) where
    judged_none : (o : Option NewestChange) → finite.get noted key ≡ o → newest key cs ≡ None → false ≡ is_some (above s o)
    judged_none None is none = refl
    judged_none (Some n) is none = let known = j.known key n is in absurd (cc (ap (option_map note_of) none))

    judged_step : (change : Change) (o : Option NewestChange) → finite.get noted key ≡ o → newest key cs ≡ Some change → (t : Bool) → ltb s change.commit ≡ t → t ≡ is_some (above s o)
    judged_step change None is found true lt =
        let passed : pruned < change.commit = grind (arith, nat_tests) in
        let noted_it = j.above key change found passed in absurd (cc (is, noted_it))
    judged_step change None is found false lt = refl
    judged_step change (Some n) is found t lt =
        let known = j.known key n is in
        let same : note_of change ≡ n = cc (ap (option_map note_of) found) in
        sym lt ∙ passes (ltb s change.commit) ∙ ap (λ (m : NewestChange). is_some (above s (Some m))) same
      where
        passes : (u : Bool) → u ≡ is_some (cond u (Some (note_of change)) None)
        passes true = refl
        passes false = refl

    judged_at : (o : Option Change) → newest key cs ≡ o → is_above o (Some s) ≡ is_some (above s (finite.get noted key))
    judged_at None found = judged_none (finite.get noted key) refl found
    judged_at (Some change) found = judged_step change (finite.get noted key) refl found (ltb s change.commit) refl

    pub judged : is_above (newest key cs) (Some s) ≡ is_some (above s (finite.get noted key))
    judged = judged_at (newest key cs) refl

  named_at : (o : Option Change) (note : NewestChange) → option_map note_of o ≡ Some note → IsChange o note.txn note.commit
  named_at None note is = absurd (cc)
  named_at (Some change) note is = let same : note_of change ≡ note = cc in (ap (λ (n : NewestChange). n.txn) same, ap (λ (n : NewestChange). n.commit) same)

  pub named : (key : Key) (note : NewestChange) → finite.get noted key ≡ Some note → IsChange (newest key cs) note.txn note.commit
  named key note is = named_at (newest key cs) note (j.known key note is)

  -- ---- their numbers

  pub noted_low : (clock : ℕ) → AreChanges cs clock → (key : Key) → ForSome (finite.get noted key) (λ note. note.commit ≤ clock)
  noted_low clock a key note is =
      let found = from_note (newest key cs) note (j.known key note is) in
      let low : found.0.commit ≤ clock = subst (λ (o : Option Change). IfSome o (λ change. change.commit ≤ clock)) found.1 (newest_low clock cs key a) in
      subst (λ (n : NewestChange). n.commit ≤ clock) found.2 low

  pub noted_newer : (clock : ℕ) (note : NewestChange) (keys : List Key) (key : Key) → AreChanges cs clock → is_one_of keys key ≡ false → ForSome (finite.get (noted_by note noted keys) key) (λ other. other.commit < clock + 1)
  noted_newer clock note keys key a fresh other is =
      let low = noted_low clock a key other (sym (get-noted note noted keys key ∙ ap (λ (t : Bool). cond t (Some note) (finite.get noted key)) fresh) ∙ is) in omega (arith, low)

-- nothing is noted of no change
pub recent_none : (pruned : ℕ) → IsRecent pruned finite.empty []
recent_none pruned = record {
  known = λ key note is. absurd (cc (finite.get-empty {X = NewestChange} key_cmp key));
  above = λ key change is lt. absurd (cc);
}

-- nothing has to be noted of changes up to the clock
pub recent_clear : (clock : ℕ) (cs : List Change) → AreChanges cs clock → IsRecent clock finite.empty cs
recent_clear clock cs a = record {
  known = λ key note is. absurd (cc (finite.get-empty {X = NewestChange} key_cmp key));
  above = λ key change is lt.
      let low : change.commit ≤ clock = subst (λ (o : Option Change). IfSome o (λ change. change.commit ≤ clock)) is (newest_low clock cs key a) in
      absurd (omega (arith, low, lt));
}
