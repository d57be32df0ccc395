-- What a commit's changes keep of the claims.
use Rattle.std.proofs.Common.{◌≡◌, ℕ, ◌≤◌, ◌+◌, Bool, true, false, ◌&&◌, leb, List, [], ◌∷◌, ◌++◌, map, filter, not, Option, Some, None, refl, sym, ap, subst, ◌∙◌, arith}
use Rattle.std.specs.List.{All, AllByRecursion, list_any, Contains}
use Rattle.std.proofs.lemmas.Bool.Decides.{nat_tests}
use Rattle.std.proofs.lemmas.List.Elements.{recursion_from_All, All-from_recursion, All-contains, All-contains_itself}
use Rattle.std.proofs.lemmas.List.Sorted.{All-permutation}
use Rattle.cs_types.specs.declared.Key.{Key}
use Rattle.cs_types.specs.Keys.{same_key}
use Rattle.cs_model.specs.Changes.{Edit, Change}
use Rattle.cs_model.specs.Steps.{numbered}
use Rattle.group_book.specs.Book.{Version, Ending, Content, Group, Claim, Book, opened, frozen, is_opened, is_invisible}
use Rattle.group_book.specs.Book.Content.{Opened, Closed, Compressed, Invisible, Tombstone}
use Rattle.group_book.specs.Commits.{replaced_by, ended_by, with_opened, has_live, with_endings, entries_by, after_ends}
use Rattle.group_book.specs.Turns.{is_number, holds, is_id_of, is_fresh, is_gone, spent_of}
use Rattle.group_book.specs.Stocks.{stock_of, Stems, IsStockOf, next_change, is_after, is_end_of}
use Rattle.group_book.specs.Invariant.{IsClaim, may_be_source}
use Rattle.group_book.proofs.Lists.{All-in, all-left, both_true, any_same, list_any-found, weaker}
use Rattle.group_book.proofs.Changes.{AreAscending, AreBelow, next-le}
use Rattle.group_book.proofs.Shown.{at_is}
use Rattle.group_book.proofs.Entries.{holds-filter}
use Rattle.group_book.proofs.Made.{is_written, HasEachKeyOnce, next_after, next-commit, holds-append, all-endings, endings_of}
use Rattle.group_book.proofs.Commit.{low, end_same, entries_low}
use Rattle.group_book.proofs.Groups.{frozen-split}
use Rattle.group_book.proofs.Installed.{shut_source, shut_invisible}
use Rattle.group_book.proofs.Steady.{IsSteady, claim_changed}

-- a change of the open store alone leaves what claims name
pub steady_shut : (f : Group → Content) → ((g : Group) → is_opened g.content ≡ false → f g ≡ g.content) → (group_rows : ℕ) (book : Book) (cs : List Change) (floor : ℕ) (claim : Claim) → IsClaim group_rows book cs floor claim
    → All (IsSteady f claim.sources claim.fresh) book.groups
steady_shut f shut group_rows book cs floor claim c = All-in (Contains book.groups) (IsSteady f claim.sources claim.fresh) book.groups (λ g in_groups _. record {
  source = λ is. shut g (shut_source claim.choice g.content (All-contains (λ (h : Group). is_id_of claim.sources h ≡ true → may_be_source claim.choice h.content ≡ true) book.groups g c.sources in_groups is));
  fresh_group = λ is. shut g (shut_invisible g.content (All-contains (λ (h : Group). is_fresh claim.fresh h ≡ true → is_invisible h.content ≡ true) book.groups g c.fresh in_groups is));
}) (All-contains_itself book.groups)

module _ (group_rows : ℕ) (book : Book) (cs : List Change) (clock floor txn : ℕ) (ws : List Edit) (low_c : AreBelow clock cs) (up : AreAscending cs) (reach : floor ≤ clock) (once : HasEachKeyOnce ws) (j : IsStockOf (stock_of book) cs floor) where
  abbrev now : List Change
  now = cs ++ numbered (clock + 1) txn ws

  abbrev reps : List Key
  reps = replaced_by cs clock ws

  -- the contents, with the ends of what is replaced
  abbrev pub content_ended : Group → Content
  content_ended g = with_opened (map (ended_by reps (clock + 1))) g.content

  pub ended_shut : (g : Group) → is_opened g.content ≡ false → content_ended g ≡ g.content
  ended_shut g = step g.content
    where
      step : (content : Content) → is_opened content ≡ false → with_opened (map (ended_by reps (clock + 1))) content ≡ content
      step (Opened versions) is = cc
      step (Closed versions) is = refl
      step (Compressed versions) is = refl
      step Invisible is = refl
      step (Tombstone versions ends) is = refl

  abbrev IsLow : Version → Type 0
  IsLow v = v.begin ≤ clock

  where_low : All IsLow (frozen book.groups)
  where_low = All-in (Stems cs floor) IsLow (frozen book.groups) (λ v _ s. low (stock_of book) cs clock floor txn ws low_c up reach once j v s) j.versions.frozen

  some_low : (sources : List ℕ) → All IsLow (frozen (filter (is_id_of sources) book.groups))
  some_low sources = All-from_recursion IsLow _ (all-left IsLow (frozen (filter (is_id_of sources) book.groups)) (frozen (filter (λ g. not (is_id_of sources g)) book.groups))
      (recursion_from_All IsLow _ (All-permutation IsLow (frozen book.groups) (frozen (filter (is_id_of sources) book.groups) ++ frozen (filter (λ g. not (is_id_of sources g)) book.groups)) (frozen-split (is_id_of sources) book.groups) where_low)))

  -- what had ended at a number that is at most the clock, had ended before
  after_step : (f : ℕ) → f ≤ clock → (n : Option ℕ) (w : Bool) → is_after f (next_after n w (clock + 1)) ≡ is_after f n
  after_step f le (Some e) w = refl
  after_step f le None true = grind (arith, nat_tests)
  after_step f le None false = refl

  after_same : (f : ℕ) → f ≤ clock → (v : Version) → v.begin ≤ clock → is_after f (next_change now v.key v.begin) ≡ is_after f (next_change cs v.key v.begin)
  after_same f le v low_v = rw (next-commit cs clock txn low_c ws v.key v.begin low_v) (after_step f le (next_change cs v.key v.begin) (is_written ws v.key))

  same_ends : (x : Ending) (vs : List Version) → AllByRecursion IsLow vs → x.end ≤ clock → list_any (is_end_of now x) vs ≡ list_any (is_end_of cs x) vs
  same_ends x vs all le = any_same (is_end_of now x) (is_end_of cs x) vs (weaker IsLow (λ v. is_end_of now x v ≡ is_end_of cs x v) vs (λ v low_v. end_same (stock_of book) cs clock floor txn ws low_c up reach once j x v le low_v) all)

  -- the end of a version is the number of a change
  end_low : (x : Ending) (vs : List Version) → AllByRecursion IsLow vs → list_any (is_end_of cs x) vs ≡ true → x.end ≤ clock
  end_low x vs all is =
      let found = list_any-found (is_end_of cs x) IsLow vs all is in
      let tests = both_true (same_key x.key found.0.key) (is_number x.end (next_change cs found.0.key found.0.begin)) found.1 in
      next-le cs clock low_c found.0.key found.0.begin x.end (at_is x.end (next_change cs found.0.key found.0.begin) tests.1)

  and_false : (t : Bool) → (t && false) ≡ false
  and_false true = refl
  and_false false = refl

  abbrev added : List Ending
  added = entries_by (opened book.groups) reps (clock + 1)

  module _ (claim : Claim) (c : IsClaim group_rows book cs floor claim) where
    lent_low : All IsLow claim.lent
    lent_low = subst (All IsLow) c.lent.versions (some_low claim.sources)

    claim_low : claim.floor ≤ clock
    claim_low = let le = c.below in omega (arith, le, reach)

    abbrev Spent : Ending → Type 0
    Spent x = holds (spent_of claim) x.key x.end ≡ (leb x.end claim.floor && list_any (is_end_of now x) claim.lent)

    spent_old : All Spent book.buffer
    spent_old = All-in (λ (x : Ending). holds (spent_of claim) x.key x.end ≡ (leb x.end claim.floor && list_any (is_end_of cs x) claim.lent)) Spent book.buffer (λ x in_buffer is.
        let le = All-contains (λ (y : Ending). y.end ≤ clock) book.buffer x (All-from_recursion (λ (y : Ending). y.end ≤ clock) book.buffer (entries_low (stock_of book) cs clock floor txn ws low_c up reach once j)) in_buffer in
        is ∙ ap (λ t. leb x.end claim.floor && t) (sym (same_ends x claim.lent (recursion_from_All IsLow claim.lent lent_low) le))) c.lent.spent

    spent_new : (keys : List Key) → AllByRecursion Spent (endings_of (clock + 1) keys)
    spent_new [] = tt
    spent_new (key ∷ keys) =
        let late : leb (clock + 1) claim.floor ≡ false = let le = claim_low in grind (arith, nat_tests) in
        (holds-filter (λ k e. leb e claim.floor) claim.entries key (clock + 1) ∙ rw late (and_false (holds claim.entries key (clock + 1))), spent_new keys)

    -- a claim stays, whatever is committed
    pub claim_since : IsClaim group_rows (after_ends reps (clock + 1) book) now floor claim
    claim_since =
        let r = claim_changed content_ended group_rows book cs floor claim (steady_shut content_ended ended_shut group_rows book cs floor claim c) c in
        record {
          below = r.below;
          kind = r.kind;
          there = r.there;
          sources = r.sources;
          makes = r.makes;
          fresh = r.fresh;
          once = r.once;
          lent = record {
            versions = r.lent.versions;
            gone = All-in (λ (v : Version). is_gone claim.floor claim.entries v ≡ not (is_after claim.floor (next_change cs v.key v.begin))) (λ (v : Version). is_gone claim.floor claim.entries v ≡ not (is_after claim.floor (next_change now v.key v.begin))) claim.lent
                (λ v in_lent is. is ∙ ap not (sym (after_same claim.floor claim_low v (All-contains IsLow claim.lent v lent_low in_lent)))) c.lent.gone;
            spent = All-from_recursion Spent (with_endings book.buffer added) (all-endings Spent book.buffer added (recursion_from_All Spent book.buffer spent_old) (spent_new (filter (λ key. not (has_live key (opened book.groups))) reps)));
            held = λ k e is. holds-append book.buffer added k e ∙ rw (c.lent.held k e is) refl;
            owned = All-in (λ (x : Ending). list_any (is_end_of cs x) claim.lent ≡ true) (λ (x : Ending). list_any (is_end_of now x) claim.lent ≡ true) claim.entries
                (λ x _ is. same_ends x claim.lent (recursion_from_All IsLow claim.lent lent_low) (end_low x claim.lent (recursion_from_All IsLow claim.lent lent_low) is) ∙ is) c.lent.owned;
          };
          room = r.room;
        }
