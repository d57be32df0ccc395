-- A commit keeps the versions in agreement with the changes.
use Rattle.std.proofs.Common.{◌≡◌, ℕ, ◌<◌, ◌≤◌, ◌+◌, Bool, true, false, ◌&&◌, ◌||◌, cond, eqb, leb, List, [], ◌∷◌, ◌++◌, map, filter, Option, Some, None, is_some, is_none, not, refl, sym, ap, ◌∙◌, inl, inr, arith}
use Rattle.std.specs.List.{All, AllByRecursion, list_any, Contains}
use Rattle.std.specs.List.Sorted.{IsStrictlySortedBy}
use Rattle.std.specs.Option.{option_map}
use Rattle.std.proofs.lemmas.Bool.Decides.{nat_tests}
use Rattle.std.proofs.lemmas.Bool.{cases_lt}
use Rattle.std.proofs.lemmas.List.Elements.{All-append, All-map, All-from_recursion, recursion_from_All, All-contains, All-contains_itself}
use Rattle.cs_types.specs.declared.Key.{Key}
use Rattle.cs_types.specs.Keys.{same_key}
use Rattle.cs_model.specs.Changes.{Edit, Change, made as row_of}
use Rattle.cs_model.specs.Steps.{numbered}
use Rattle.group_book.specs.Book.{End, Version, Ending, how_many}
use Rattle.group_book.specs.Book.End.{At}
use Rattle.group_book.specs.Commits.{is_in_table, replaced_by, is_one_of, is_live, has_live, end_after, ended_by, ending_cmp, with_endings, entries_by}
use Rattle.group_book.specs.Turns.{is_number, holds}
use Rattle.group_book.specs.Stocks.{Stock, Stems, EndFits, IsSeenFrom, IsStockOf, next_change, is_after, is_from, copies, is_end_of}
use Rattle.group_book.proofs.Keys.{key_is, key_here, key_itself}
use Rattle.group_book.proofs.Lists.{both_true, All-in, how_many-map, how_many-append, how_many-same, how_many-none, list_any-none, weaker, counted}
use Rattle.group_book.proofs.Changes.{last_at, later, last-append, last-le, last-later, AreAscending, AreBelow, next-le}
use Rattle.group_book.proofs.Shown.{from_is, shown_count, shown_once}
use Rattle.group_book.proofs.Made.{is_written, HasEachKeyOnce, next_after, next-commit, next-at_commit, last-commit, replaced-written, holds-append, holds-entries, all-endings, sorted-endings, apart-endings, endings_of, once-filter, once-keys, made_by, IsMade, made-are, of_key, made-once, made-each}

written_all : (us : List Edit) → AllByRecursion (λ (w : Edit). is_written us w.0 ≡ true) us
written_all [] = tt
written_all (u ∷ us) = (rw (key_itself u.0) refl, weaker (λ (w : Edit). is_written us w.0 ≡ true) (λ (w : Edit). is_written (u ∷ us) w.0 ≡ true) us (λ w h. rw h (step (same_key w.0 u.0))) (written_all us))
  where
    step : (p : Bool) → (p || true) ≡ true
    step true = refl
    step false = refl

module _ (b : Stock) (cs : List Change) (clock floor txn : ℕ) (ws : List Edit) (low_c : AreBelow clock cs) (up : AreAscending cs) (reach : floor ≤ clock) (once_keys' : HasEachKeyOnce ws) (j : IsStockOf b cs floor) where
  abbrev c : ℕ
  c = clock + 1

  abbrev news : List Change
  news = numbered c txn ws

  abbrev new_change : Edit → Change
  new_change edit = record { commit = c; txn = txn; edit = edit }

  -- the keys that are replaced
  abbrev reps : List Key
  reps = replaced_by cs clock ws

  made_all : AllByRecursion (IsMade c txn ws) (made_by ws c)
  made_all = made-are ws c txn once_keys'

  -- a begin is at most the clock
  pub low : (v : Version) → Stems cs floor v → v.begin ≤ clock
  low v s = elim s.begin [
    | inl same ↦ omega (arith, same, last-le cs clock low_c v.key v.begin s.origin s.is_origin)
    | inr below ↦ omega (arith, below, reach)
  ]

  Stems-kept : (v : Version) (end : Option End) → Stems cs floor v → Stems (cs ++ news) floor (record v { end = end })
  Stems-kept v end s = record {
    origin = s.origin;
    is_origin = rw (last-commit cs clock txn ws v.key v.begin (low v s)) s.is_origin;
    row = s.row;
    begin = elim s.begin [ inl same ↦ inl same | inr below ↦ inr (omega (arith, below)) ];
  }

  last_of_made : (v : Version) (made : IsMade c txn ws v) → last_at (cs ++ news) v.key v.begin ≡ Some (new_change made.edit)
  last_of_made v made =
      let at_begin : last_at news v.key v.begin ≡ Some (new_change made.edit) = ap (λ (n : ℕ). last_at news v.key n) made.begin ∙ made.last in
      last-append cs news v.key v.begin ∙ ap (λ (o : Option Change). later o (last_at cs v.key v.begin)) at_begin

  Stems-made : (v : Version) → IsMade c txn ws v → Stems (cs ++ news) floor v
  Stems-made v made = record { origin = new_change made.edit; is_origin = last_of_made v made; row = made.row; begin = inl made.begin }

  -- a key whose last version has no next change is in the table
  in_table : (v : Version) → Stems cs floor v → next_change cs v.key v.begin ≡ None → is_in_table cs clock v.key ≡ true
  in_table v s none = rw (last-later cs v.key v.begin clock none (low v s), s.is_origin, s.row) refl

  replaced : (k : Key) → is_one_of reps k ≡ (is_written ws k && is_in_table cs clock k)
  replaced k = replaced-written cs clock ws k

  end_step : (v : Version) → Stems cs floor v → (n : Option ℕ) → next_change cs v.key v.begin ≡ n → v.end ≡ option_map At n → end_after (is_one_of reps v.key) c v.end ≡ option_map At (next_after n (is_written ws v.key) c)
  end_step v s None none is = rw (is, replaced v.key, in_table v s none) (cases (is_written ws v.key))
    where
      cases : (w : Bool) → end_after (w && true) c None ≡ option_map At (next_after None w c)
      cases true = refl
      cases false = refl
  end_step v s (Some e) some is = rw is (cases (is_one_of reps v.key))
    where
      cases : (r : Bool) → end_after r c (Some (At e)) ≡ Some (At e)
      cases true = refl
      cases false = refl

  abbrev EndIs : Version → Type 0
  EndIs v = v.end ≡ option_map At (next_change cs v.key v.begin)

  abbrev EndIs' : Version → Type 0
  EndIs' v = v.end ≡ option_map At (next_change (cs ++ news) v.key v.begin)

  ends_opened_old : All EndIs' (map (ended_by reps c) b.opened)
  ends_opened_old = All-map EndIs' (ended_by reps c) b.opened (All-in EndIs (λ v. EndIs' (ended_by reps c v)) b.opened (λ v in_list is.
      let stems = All-contains (Stems cs floor) b.opened v j.versions.opened in_list in
      rw (next-commit cs clock txn low_c ws v.key v.begin (low v stems))
      (end_step v stems (next_change cs v.key v.begin) refl is)) j.ends.opened)

  ends_opened_new : All EndIs' (made_by ws c)
  ends_opened_new = All-from_recursion EndIs' (made_by ws c) (weaker (IsMade c txn ws) EndIs' (made_by ws c) (λ v made.
      rw (made.begin, next-at_commit cs clock txn low_c ws v.key) made.end) made_all)

  -- whether an entry of an earlier end stands in the buffer stays
  holds-kept : (k : Key) (e : ℕ) → e ≤ clock → holds (with_endings b.buffer (entries_by b.opened reps c)) k e ≡ holds b.buffer k e
  holds-kept k e h =
      let other : eqb c e ≡ false = grind (arith, nat_tests) in
      rw (holds-append b.buffer (entries_by b.opened reps c) k e, holds-entries b.opened reps c k e, other) (cases (holds b.buffer k e) (is_one_of reps k && not (has_live k b.opened)))
    where
      cases : (p q : Bool) → (p || (q && false)) ≡ p
      cases true q = refl
      cases false true = refl
      cases false false = refl

  -- the change that a version with no next change stems from
  is_last : (v : Version) (s : Stems cs floor v) → next_change cs v.key v.begin ≡ None → last_at cs v.key clock ≡ Some s.origin
  is_last v s none = last-later cs v.key v.begin clock none (low v s) ∙ s.is_origin

  is_from-origin : (v : Version) (k : Key) (x : Change) → v.key ≡ k → last_at cs v.key v.begin ≡ Some x → is_from cs k x.commit v ≡ true
  is_from-origin v k x same is =
      let here : same_key k v.key ≡ true = key_here k v.key same in
      let itself : eqb x.commit x.commit ≡ true = grind (arith, nat_tests) in
      rw (here, is, itself) refl

  none_end : (o : Option End) → is_none o ≡ true → o ≡ None
  none_end None is = refl
  none_end (Some e) is = cc

  none_next : (n : Option ℕ) → None ≡ option_map At n → n ≡ None
  none_next None is = refl
  none_next (Some e) is = cc

  -- two versions of a key with no next change are not in both
  not_both : (v u : Version) → Contains b.frozen v → Contains b.opened u → u.key ≡ v.key → next_change cs v.key v.begin ≡ None → next_change cs u.key u.begin ≡ None → ⊥
  not_both v u in_frozen in_opened same none_v none_u =
      let stems_v = All-contains (Stems cs floor) b.frozen v j.versions.frozen in_frozen in
      let stems_u = All-contains (Stems cs floor) b.opened u j.versions.opened in_opened in
      let last_v = is_last v stems_v none_v in
      let last_u = is_last u stems_u none_u in
      let one : Some stems_u.origin ≡ Some stems_v.origin = sym last_u ∙ ap (λ (k : Key). last_at cs k clock) same ∙ last_v in
      let from_v = is_from-origin v v.key stems_v.origin refl stems_v.is_origin in
      let from_u = is_from-origin u v.key stems_v.origin same (stems_u.is_origin ∙ one) in
      omega (arith, j.versions.once v.key stems_v.origin.commit, counted (is_from cs v.key stems_v.origin.commit) b.frozen v in_frozen from_v, counted (is_from cs v.key stems_v.origin.commit) b.opened u in_opened from_u)

  -- no live version stands in the open store beside a frozen one
  one_live : (v u : Version) → Contains b.frozen v → Contains b.opened u → next_change cs v.key v.begin ≡ None → (t : Bool) → is_live v.key u ≡ t → t ≡ false
  one_live v u in_frozen in_opened none false is = refl
  one_live v u in_frozen in_opened none true is =
      let tests = both_true (same_key v.key u.key) (is_none u.end) is in
      let same : u.key ≡ v.key = key_is v.key u.key tests.0 in
      let no_end = none_end u.end tests.1 in
      absurd (not_both v u in_frozen in_opened same none (none_next _ (sym no_end ∙ All-contains EndIs b.opened u j.ends.opened in_opened)))

  no_live : (v : Version) → Contains b.frozen v → next_change cs v.key v.begin ≡ None → has_live v.key b.opened ≡ false
  no_live v in_frozen none = list_any-none (is_live v.key) b.opened (recursion_from_All (λ u. is_live v.key u ≡ false) b.opened (All-in (Contains b.opened) (λ u. is_live v.key u ≡ false) b.opened (λ u in_opened _. one_live v u in_frozen in_opened none (is_live v.key u) refl) (All-contains_itself b.opened)))

  abbrev buffer' : List Ending
  buffer' = with_endings b.buffer (entries_by b.opened reps c)

  -- the end of a frozen version
  frozen_step : (v : Version) → Contains b.frozen v → (n : Option ℕ) → next_change cs v.key v.begin ≡ n → (w : Bool) → is_written ws v.key ≡ w → EndFits b.buffer floor v n → EndFits buffer' floor v (next_after n w c)
  frozen_step v in_frozen None none false w fits = fits
  frozen_step v in_frozen None none true is_w fits =
      let itself : eqb c c ≡ true = grind (arith, nat_tests) in
      let stems = All-contains (Stems cs floor) b.frozen v j.versions.frozen in_frozen in
      inr (inr (fits, holds-append b.buffer (entries_by b.opened reps c) v.key c ∙ rw (holds-entries b.opened reps c v.key c, replaced v.key, is_w, in_table v stems none, no_live v in_frozen none, itself) (cases (holds b.buffer v.key c))))
    where
      cases : (p : Bool) → (p || true) ≡ true
      cases true = refl
      cases false = refl
  frozen_step v in_frozen (Some e) some w is_w fits =
      let same = holds-kept v.key e (next-le cs clock low_c v.key v.begin e some) in
      elim fits [
        | inl stamped ↦ inl (stamped.0, same ∙ stamped.1)
        | inr other ↦ elim other [
          | inl plain ↦ inr (inl (plain.0, omega (arith, plain.1), same ∙ plain.2))
          | inr buffered ↦ inr (inr (buffered.0, same ∙ buffered.1))
        ]
      ]

  abbrev Fits : Version → Type 0
  Fits v = EndFits b.buffer floor v (next_change cs v.key v.begin)

  abbrev Fits' : Version → Type 0
  Fits' v = EndFits buffer' floor v (next_change (cs ++ news) v.key v.begin)

  ends_frozen' : All Fits' b.frozen
  ends_frozen' = All-in Fits Fits' b.frozen (λ v in_list fits.
      rw (next-commit cs clock txn low_c ws v.key v.begin (low v (All-contains (Stems cs floor) b.frozen v j.versions.frozen in_list)))
      (frozen_step v in_list (next_change cs v.key v.begin) refl (is_written ws v.key) refl fits)) j.ends.frozen

  stems_frozen' : All (Stems (cs ++ news) floor) b.frozen
  stems_frozen' = All-in (Stems cs floor) (Stems (cs ++ news) floor) b.frozen (λ v in_list s. Stems-kept v v.end s) j.versions.frozen

  stems_opened' : All (Stems (cs ++ news) floor) (map (ended_by reps c) b.opened ++ made_by ws c)
  stems_opened' = All-append (Stems (cs ++ news) floor) (map (ended_by reps c) b.opened) (made_by ws c)
      (All-map (Stems (cs ++ news) floor) (ended_by reps c) b.opened (All-in (Stems cs floor) (λ v. Stems (cs ++ news) floor (ended_by reps c v)) b.opened (λ v in_list s. Stems-kept v (end_after (is_one_of reps v.key) c v.end) s) j.versions.opened))
      (All-from_recursion (Stems (cs ++ news) floor) (made_by ws c) (weaker (IsMade c txn ws) (Stems (cs ++ news) floor) (made_by ws c) Stems-made made_all))

  -- an old version stems from what it did
  from_same : (k : Key) (c0 : ℕ) (v : Version) → Stems cs floor v → is_from (cs ++ news) k c0 v ≡ is_from cs k c0 v
  from_same k c0 v s = rw (last-commit cs clock txn ws v.key v.begin (low v s)) refl

  -- a new one stems from the commit's change
  from_new : (k : Key) (c0 : ℕ) (v : Version) → IsMade c txn ws v → is_from (cs ++ news) k c0 v ≡ (same_key k v.key && eqb c c0)
  from_new k c0 v made = rw (last_of_made v made) refl

  abbrev p' : Key → ℕ → Version → Bool
  p' k c0 v = is_from (cs ++ news) k c0 v

  abbrev p : Key → ℕ → Version → Bool
  p k c0 v = is_from cs k c0 v

  count_frozen : (k : Key) (c0 : ℕ) → how_many (p' k c0) b.frozen ≡ how_many (p k c0) b.frozen
  count_frozen k c0 = how_many-same (p' k c0) (p k c0) b.frozen (recursion_from_All (λ v. p' k c0 v ≡ p k c0 v) b.frozen (All-in (Stems cs floor) (λ v. p' k c0 v ≡ p k c0 v) b.frozen (λ v _ s. from_same k c0 v s) j.versions.frozen))

  count_ended : (k : Key) (c0 : ℕ) → how_many (p' k c0) (map (ended_by reps c) b.opened) ≡ how_many (p k c0) b.opened
  count_ended k c0 = how_many-map (p' k c0) (ended_by reps c) b.opened ∙ how_many-same (λ v. p' k c0 (ended_by reps c v)) (p k c0) b.opened (recursion_from_All (λ v. p' k c0 v ≡ p k c0 v) b.opened (All-in (Stems cs floor) (λ v. p' k c0 v ≡ p k c0 v) b.opened (λ v _ s. from_same k c0 v s) j.versions.opened))

  made_count : (k : Key) (c0 : ℕ) (t : Bool) → eqb c c0 ≡ t → how_many (p' k c0) (made_by ws c) ≡ cond t (how_many (of_key k) (made_by ws c)) 0
  made_count k c0 true is = how_many-same (p' k c0) (of_key k) (made_by ws c) (weaker (IsMade c txn ws) (λ v. p' k c0 v ≡ of_key k v) (made_by ws c) (λ v made. from_new k c0 v made ∙ rw is (cases (same_key k v.key))) made_all)
    where
      cases : (t : Bool) → (t && true) ≡ t
      cases true = refl
      cases false = refl
  made_count k c0 false is = how_many-none (p' k c0) (made_by ws c) (weaker (IsMade c txn ws) (λ v. p' k c0 v ≡ false) (made_by ws c) (λ v made. from_new k c0 v made ∙ rw is (cases (same_key k v.key))) made_all)
    where
      cases : (t : Bool) → (t && false) ≡ false
      cases true = refl
      cases false = refl

  -- the stock after the commit, before any version leaves the open store
  abbrev pub after_edits : Stock
  after_edits = record { opened = map (ended_by reps c) b.opened ++ made_by ws c; frozen = b.frozen; buffer = buffer' }

  -- the copies of a change: those before, and for the commit's own changes the new versions
  copies_after : (k : Key) (c0 : ℕ) (t : Bool) → eqb c c0 ≡ t → copies (cs ++ news) k c0 after_edits ≡ copies cs k c0 b + cond t (how_many (of_key k) (made_by ws c)) 0
  copies_after k c0 t is = rw (how_many-append (p' k c0) (map (ended_by reps c) b.opened) (made_by ws c)) (omega (arith, count_frozen k c0, count_ended k c0, made_count k c0 t is))

  -- no old version stems from the commit's changes
  not_from_new : (k : Key) (v : Version) → Stems cs floor v → p k c v ≡ false
  not_from_new k v s =
      let before = last-le cs clock low_c v.key v.begin s.origin s.is_origin in
      let other : eqb s.origin.commit c ≡ false = grind (arith, nat_tests) in
      rw (s.is_origin, other) (cases (same_key k v.key))
    where
      cases : (t : Bool) → (t && false) ≡ false
      cases true = refl
      cases false = refl

  none_new : (k : Key) → copies cs k c b ≡ 0
  none_new k = omega (
    arith,
    how_many-none (p k c) b.frozen (recursion_from_All (λ v. p k c v ≡ false) b.frozen (All-in (Stems cs floor) (λ v. p k c v ≡ false) b.frozen (λ v _ s. not_from_new k v s) j.versions.frozen)),
    how_many-none (p k c) b.opened (recursion_from_All (λ v. p k c v ≡ false) b.opened (All-in (Stems cs floor) (λ v. p k c v ≡ false) b.opened (λ v _ s. not_from_new k v s) j.versions.opened)),
  )

  once_step : (k : Key) (c0 : ℕ) (t : Bool) → eqb c c0 ≡ t → copies (cs ++ news) k c0 after_edits ≤ 1
  once_step k c0 true is =
      let same : c ≡ c0 = grind (arith, nat_tests) in
      omega (arith, copies_after k c0 true is, ap (λ (n : ℕ). copies cs k n b) same, none_new k, made-once ws c k once_keys')
  once_step k c0 false is = omega (arith, copies_after k c0 false is, j.versions.once k c0)

  -- what has to be kept
  abbrev Kept : Change → Type 0
  Kept x = is_some x.edit.1 ≡ true → IsSeenFrom floor (next_change cs x.edit.0 x.commit) → copies cs x.edit.0 x.commit b ≡ 1

  abbrev Kept' : Change → Type 0
  Kept' x = is_some x.edit.1 ≡ true → IsSeenFrom floor (next_change (cs ++ news) x.edit.0 x.commit) → copies (cs ++ news) x.edit.0 x.commit after_edits ≡ 1

  open_before : (n : Option ℕ) (w : Bool) → IsSeenFrom floor (next_after n w c) → IsSeenFrom floor n
  open_before None w is_open = tt
  open_before (Some e) w is_open = omega (arith, is_open)

  kept_old : (x : Change) → x.commit ≤ clock → Kept x → Kept' x
  kept_old x le kept some is_open =
      let other : eqb c x.commit ≡ false = grind (arith, nat_tests) in
      let open_now = rw (next-commit cs clock txn low_c ws x.edit.0 x.commit le) at is_open in
      omega (arith, copies_after x.edit.0 x.commit false other, kept some (open_before (next_change cs x.edit.0 x.commit) (is_written ws x.edit.0) open_now))

  kept_new : (w : Edit) → (is_some w.1 ≡ true → 1 ≤ how_many (of_key w.0) (made_by ws c)) → Kept' (new_change w)
  kept_new w one some is_open =
      let itself : eqb c c ≡ true = grind (arith, nat_tests) in
      omega (arith, copies_after w.0 c true itself, none_new w.0, one some, made-once ws c w.0 once_keys')

  present' : All Kept' (cs ++ news)
  present' = All-append Kept' cs news
      (All-in Kept Kept' cs (λ x in_list kept. kept_old x (All-contains (λ (y : Change). y.commit ≤ clock) cs x (All-from_recursion (λ (y : Change). y.commit ≤ clock) cs low_c) in_list) kept) j.kept)
      (All-map Kept' (new_change) ws (All-from_recursion (λ (w : Edit). Kept' (new_change w)) ws (weaker (λ (w : Edit). is_some w.1 ≡ true → 1 ≤ how_many (of_key w.0) (made_by ws c)) (λ (w : Edit). Kept' (new_change w)) ws kept_new (made-each ws c))))

  -- an entry that stood before is the end of the version that it was
  end_same_step : (e : ℕ) (n : Option ℕ) (w : Bool) → e ≤ clock → is_number e (next_after n w c) ≡ is_number e n
  end_same_step e (Some f) w le = refl
  end_same_step e None true le = grind (arith, nat_tests)
  end_same_step e None false le = refl

  pub end_same : (x : Ending) (v : Version) → x.end ≤ clock → v.begin ≤ clock → is_end_of (cs ++ news) x v ≡ is_end_of cs x v
  end_same x v le low_v = rw (next-commit cs clock txn low_c ws v.key v.begin low_v) (ap (λ (t : Bool). same_key x.key v.key && t) (end_same_step x.end (next_change cs v.key v.begin) (is_written ws v.key) le))

  -- the end of an entry is a number of a change
  past_step : (e : ℕ) (k : Bool) (n : Option ℕ) → clock < e → ((f : ℕ) → n ≡ Some f → f ≤ clock) → (k && is_number e n) ≡ false
  past_step e true None lt h = refl
  past_step e true (Some f) lt h = let le = h f refl in grind (arith, nat_tests)
  past_step e false n lt h = refl

  entry_low : (x : Ending) → how_many (is_end_of cs x) b.frozen ≡ 1 → x.end ≤ clock
  entry_low x one = elim (cases_lt clock x.end) [
    | inl lt ↦ absurd (omega (arith, one, how_many-none (is_end_of cs x) b.frozen (recursion_from_All (λ v. is_end_of cs x v ≡ false) b.frozen (All-in (Stems cs floor) (λ v. is_end_of cs x v ≡ false) b.frozen (λ v _ _. past_step x.end (same_key x.key v.key) (next_change cs v.key v.begin) lt (next-le cs clock low_c v.key v.begin)) j.versions.frozen))))
    | inr ge ↦ ge
  ]

  abbrev HasOwner : Ending → Type 0
  HasOwner x = how_many (is_end_of cs x) b.frozen ≡ 1

  abbrev HasOwner' : Ending → Type 0
  HasOwner' x = how_many (is_end_of (cs ++ news) x) b.frozen ≡ 1

  entry_kept : (x : Ending) → HasOwner x → HasOwner' x
  entry_kept x one = how_many-same (is_end_of (cs ++ news) x) (is_end_of cs x) b.frozen (recursion_from_All (λ v. is_end_of (cs ++ news) x v ≡ is_end_of cs x v) b.frozen (All-in (Stems cs floor) (λ v. is_end_of (cs ++ news) x v ≡ is_end_of cs x v) b.frozen (λ v _ s. end_same x v (entry_low x one) (low v s)) j.versions.frozen)) ∙ one

  -- a version of a written key gets the commit as its next change where it stems from the last change
  owner_step : (n : Option ℕ) → ((f : ℕ) → n ≡ Some f → f ≤ clock) → is_number c (next_after n true c) ≡ is_after clock n
  owner_step None h = grind (arith, nat_tests)
  owner_step (Some f) h = let le = h f refl in grind (arith, nat_tests)

  owner_same : (k : Key) → is_written ws k ≡ true → (v : Version) → v.begin ≤ clock → (t : Bool) → same_key k v.key ≡ t → (t && is_number c (next_change (cs ++ news) v.key v.begin)) ≡ (t && (leb v.begin clock && is_after clock (next_change cs v.key v.begin)))
  owner_same k written v low_v false is = refl
  owner_same k written v low_v true is =
      let key : v.key ≡ k = key_is k v.key is in
      let written_v : is_written ws v.key ≡ true = rw key written in
      let early : leb v.begin clock ≡ true = grind (arith, nat_tests) in
      rw (next-commit cs clock txn low_c ws v.key v.begin low_v, written_v, early) (owner_step (next_change cs v.key v.begin) (next-le cs clock low_c v.key v.begin))

  owner_frozen : (k : Key) (x : Change) → is_written ws k ≡ true → last_at cs k clock ≡ Some x → how_many (is_end_of (cs ++ news) (record { key = k; end = c })) b.frozen ≡ how_many (is_from cs k x.commit) b.frozen
  owner_frozen k x written last = how_many-same (is_end_of (cs ++ news) (record { key = k; end = c })) (is_from cs k x.commit) b.frozen (recursion_from_All (λ v. is_end_of (cs ++ news) (record { key = k; end = c }) v ≡ is_from cs k x.commit v) b.frozen (All-in (Stems cs floor) (λ v. is_end_of (cs ++ news) (record { key = k; end = c }) v ≡ is_from cs k x.commit v) b.frozen (λ v _ stems.
      owner_same k written v (low v stems) (same_key k v.key) refl ∙ from_is b cs floor j up clock reach k x last v stems) j.versions.frozen))

  -- in the open store no version stems from the last change, where none is live
  opened_none_step : (k : Key) (u : Version) → is_live k u ≡ false → EndIs u → (n : Option ℕ) → next_change cs u.key u.begin ≡ n → (t r : Bool) → same_key k u.key ≡ t → (t && (r && is_after clock n)) ≡ false
  opened_none_step k u dead is None n_is true r same =
      let no_end = is ∙ ap (option_map At) n_is in
      let live : is_live k u ≡ true = rw (same, no_end) refl in
      cc
  opened_none_step k u dead is (Some e) n_is true true same =
      let le = next-le cs clock low_c u.key u.begin e n_is in
      grind (arith, nat_tests)
  opened_none_step k u dead is (Some e) n_is true false same = refl
  opened_none_step k u dead is n n_is false r same = refl

  dead_all : (k : Key) (us : List Version) → list_any (is_live k) us ≡ false → AllByRecursion (λ u. is_live k u ≡ false) us
  dead_all k [] h = tt
  dead_all k (u ∷ us) h = step (is_live k u) refl h (dead_all k us)
    where
      step : (t : Bool) → is_live k u ≡ t → (t || list_any (is_live k) us) ≡ false → (list_any (is_live k) us ≡ false → AllByRecursion (λ v. is_live k v ≡ false) us) → (is_live k u ≡ false) × AllByRecursion (λ v. is_live k v ≡ false) us
      step true is h rest = cc
      step false is h rest = (is, rest h)

  owner_opened : (k : Key) (x : Change) → last_at cs k clock ≡ Some x → has_live k b.opened ≡ false → how_many (is_from cs k x.commit) b.opened ≡ 0
  owner_opened k x last dead = how_many-none (is_from cs k x.commit) b.opened (recursion_from_All (λ u. is_from cs k x.commit u ≡ false) b.opened (All-in (Stems cs floor) (λ u. is_from cs k x.commit u ≡ false) b.opened (λ u in_list stems.
      sym (from_is b cs floor j up clock reach k x last u stems)
      ∙ opened_none_step k u (All-contains (λ v. is_live k v ≡ false) b.opened u (All-from_recursion (λ v. is_live k v ≡ false) b.opened (dead_all k b.opened dead)) in_list) (All-contains EndIs b.opened u j.ends.opened in_list) (next_change cs u.key u.begin) refl (same_key k u.key) (leb u.begin clock) refl) j.versions.opened))

  owner_new : (k : Key) → is_written ws k ≡ true → is_in_table cs clock k ≡ true → has_live k b.opened ≡ false → HasOwner' (record { key = k; end = c })
  owner_new k written table dead = step (last_at cs k clock) refl table
    where
      step : (o : Option Change) → last_at cs k clock ≡ o → is_some (row_of o) ≡ true → HasOwner' (record { key = k; end = c })
      step None is row = cc
      step (Some x) is row =
          let one = shown_once b cs floor j up clock reach k x is row in
          let count = shown_count b cs floor j up clock reach k x is in
          omega (arith, one, count, owner_frozen k x written is, owner_opened k x is dead)

  owners : (us : List Edit) → AllByRecursion (λ (w : Edit). is_written ws w.0 ≡ true) us → AllByRecursion HasOwner' (entries_by b.opened (replaced_by cs clock us) c)
  owners [] all = tt
  owners (u ∷ us) all = step (is_in_table cs clock u.0) refl (owners us all.1)
    where
      inner : (h : Bool) → has_live u.0 b.opened ≡ h → is_in_table cs clock u.0 ≡ true → AllByRecursion HasOwner' (entries_by b.opened (replaced_by cs clock us) c)
          → AllByRecursion HasOwner' (endings_of c (cond (not h) (u.0 ∷ filter (λ key. not (has_live key b.opened)) (replaced_by cs clock us)) (filter (λ key. not (has_live key b.opened)) (replaced_by cs clock us))))
      inner true h_is table rest = rest
      inner false h_is table rest = (owner_new u.0 all.0 table h_is, rest)

      step : (t : Bool) → is_in_table cs clock u.0 ≡ t → AllByRecursion HasOwner' (entries_by b.opened (replaced_by cs clock us) c) → AllByRecursion HasOwner' (entries_by b.opened (cond t (u.0 ∷ replaced_by cs clock us) (replaced_by cs clock us)) c)
      step true table rest = inner (has_live u.0 b.opened) refl table rest
      step false table rest = rest

  pub entries_low : AllByRecursion (λ (x : Ending). x.end ≤ clock) b.buffer
  entries_low = weaker HasOwner (λ (x : Ending). x.end ≤ clock) b.buffer entry_low (recursion_from_All HasOwner b.buffer j.entries.owned)

  sorted' : IsStrictlySortedBy ending_cmp buffer'
  sorted' = sorted-endings b.buffer (entries_by b.opened reps c)
      (apart-endings clock c b.buffer (filter (λ key. not (has_live key b.opened)) reps) (omega arith) entries_low
      (once-filter (λ key. not (has_live key b.opened)) reps (once-filter (is_in_table cs clock) (map (λ (edit : Edit). edit.0) ws) (once-keys ws once_keys')))) j.entries.sorted

  abbrev Begins : Version → Type 0
  Begins v = is_from cs v.key v.begin v ≡ true

  abbrev Begins' : Version → Type 0
  Begins' v = is_from (cs ++ news) v.key v.begin v ≡ true

  begins_made : (v : Version) → IsMade c txn ws v → Begins' v
  begins_made v made =
      let itself : eqb c v.begin ≡ true = let begin = made.begin in grind (arith, nat_tests) in
      from_new v.key v.begin v made ∙ rw (key_itself v.key, itself) refl

  begins' : All Begins' (map (ended_by reps c) b.opened ++ made_by ws c)
  begins' = All-append Begins' (map (ended_by reps c) b.opened) (made_by ws c)
      (All-map Begins' (ended_by reps c) b.opened (All-in Begins (λ v. Begins' (ended_by reps c v)) b.opened (λ v in_list is. from_same v.key v.begin v (All-contains (Stems cs floor) b.opened v j.versions.opened in_list) ∙ is) j.versions.begins))
      (All-from_recursion Begins' (made_by ws c) (weaker (IsMade c txn ws) Begins' (made_by ws c) begins_made made_all))

  pub stock_committed : IsStockOf after_edits (cs ++ news) floor
  stock_committed = record {
    versions = record { frozen = stems_frozen'; opened = stems_opened'; begins = begins'; once = λ k c0. once_step k c0 (eqb c c0) refl };
    ends = record { frozen = ends_frozen'; opened = All-append EndIs' (map (ended_by reps c) b.opened) (made_by ws c) ends_opened_old ends_opened_new };
    entries = record {
      sorted = sorted';
      owned = All-from_recursion HasOwner' buffer' (all-endings HasOwner' b.buffer (entries_by b.opened reps c) (weaker HasOwner HasOwner' b.buffer entry_kept (recursion_from_All HasOwner b.buffer j.entries.owned)) (owners ws (written_all ws)));
    };
    kept = present';
  }
