-- The counts of the groups and the buffer add up to the rows of the table.
use Rattle.std.proofs.Common.{◌≡◌, ℕ, ◌≤◌, ◌+◌, Bool, true, false, ◌&&◌, ◌||◌, cond, ltb, leb, List, [], ◌∷◌, ◌++◌, length, Option, Some, None, is_some, refl, sym, ap, ◌∙◌, inl, inr, arith}
use Rattle.std.specs.Prelude.{◌==◌}
use Rattle.std.specs.declared.cmp.Ordering.{Ordering}
use Rattle.std.specs.declared.cmp.Ordering.TheVariants.{Less}
use Rattle.std.specs.Ordering.{nat_cmp, ordering_then}
use Rattle.std.specs.BTreeMap.{is_at}
use Rattle.std.specs.Map.{keys_of, lookup}
use Rattle.std.specs.List.{All, AllByRecursion, list_any, sum_by}
use Rattle.std.specs.List.Sorted.{IsStrictlySortedBy}
use Rattle.std.specs.Option.{option_map}
use Rattle.std.proofs.lemmas.Bool.Decides.{nat_tests}
use Rattle.std.proofs.lemmas.Cmp.{tied_itself, eq_by_cmp_equiv}
use Rattle.std.proofs.lemmas.List.{length-append}
use Rattle.std.proofs.lemmas.List.Sums.{sum_by-cons}
use Rattle.std.proofs.lemmas.List.Elements.{recursion_from_All, All-contains}
use Rattle.cs_types.specs.declared.Key.{Key}
use Rattle.cs_types.specs.declared.Value.{Value}
use Rattle.cs_types.specs.Keys.{key_cmp, same_key}
use Rattle.cs_types.proofs.KeyLemmas.{key_total}
use Rattle.cs_model.specs.Changes.{Table, Change, made, table}
use Rattle.cs_model.proofs.Tables.{row_is, table_ascends}
use Rattle.group_book.specs.Book.{Version, Ending, Content, Group, Book, opened, opened_in, frozen, frozen_in, how_many, is_visible, shows, total, deleted, is_tombstone, total_sum, deleted_sum}
use Rattle.group_book.specs.Book.Content.{Opened, Closed, Compressed, Invisible, Tombstone}
use Rattle.group_book.specs.Book.End.{At}
use Rattle.group_book.specs.Commits.{ending_cmp}
use Rattle.group_book.specs.Turns.{is_number, holds}
use Rattle.group_book.specs.Stocks.{AreChanges, stock_of, Stems, EndFits, next_change, is_after, is_end_of}
use Rattle.group_book.specs.Invariant.{IsBookOf, IsSeenAt}
use Rattle.cs_model.specs.Obstacles.{has_row}
use Rattle.group_book.proofs.Keys.{key_is, key_itself}
use Rattle.group_book.proofs.Lists.{All-in, both_true, how_many-append, how_many-map, how_many-none, how_many-same, weaker}
use Rattle.group_book.proofs.Changes.{AreAscending, AreBelow, next-le}
use Rattle.group_book.proofs.Shown.{frozen_shown, opened_shown}
use Rattle.group_book.proofs.Visible.{ascending_of, below_of, each_shown, frozen_seen, opened_seen}
use Rattle.group_book.proofs.Made.{ending_total}
use Rattle.group_book.proofs.Commit.{low}

-- ---- sums

zeros : {X : Type 0} (xs : List X) → sum_by (λ (x : X). 0) xs ≡ 0
zeros [] = refl
zeros {X} (x ∷ xs) = omega (arith, sum_by-cons (λ (y : X). 0) x xs, zeros xs)

counted_more : {X : Type 0} (p : X → Bool) (f : X → ℕ) (xs : List X) → sum_by (λ x. cond (p x) 1 0 + f x) xs ≡ how_many p xs + sum_by f xs
counted_more p f [] = refl
counted_more p f (x ∷ xs) = omega (arith, sum_by-cons (λ y. cond (p y) 1 0 + f y) x xs, sum_by-cons f x xs, counted_more p f xs)

sum_both : {X : Type 0} (f g : X → ℕ) (xs : List X) → sum_by (λ x. f x + g x) xs ≡ sum_by f xs + sum_by g xs
sum_both f g [] = refl
sum_both f g (x ∷ xs) = omega (arith, sum_by-cons (λ y. f y + g y) x xs, sum_by-cons f x xs, sum_by-cons g x xs, sum_both f g xs)

-- pairs are counted from either side
pair_count : {X Y : Type 0} (r : X → Y → Bool) (xs : List X) (ys : List Y) → sum_by (λ x. how_many (r x) ys) xs ≡ sum_by (λ y. how_many (λ x. r x y) xs) ys
pair_count r [] ys = sym (zeros ys)
pair_count r (x ∷ xs) ys = sum_by-cons (λ z. how_many (r z) ys) x xs ∙ ap (λ n. how_many (r x) ys + n) (pair_count r xs ys) ∙ sym (counted_more (r x) (λ y. how_many (λ z. r z y) xs) ys)

each_one : {X : Type 0} (f : X → ℕ) (xs : List X) → AllByRecursion (λ x. f x ≡ 1) xs → sum_by f xs ≡ length xs
each_one f [] all = refl
each_one f (x ∷ xs) all = let one = all.0 in omega (arith, one, sum_by-cons f x xs, each_one f xs all.1)

each_split : {X : Type 0} (p q : X → Bool) (f : X → ℕ) (xs : List X) → AllByRecursion (λ x. (cond (p x) 1 0 + cond (q x) 1 0) + f x ≡ 1) xs → length xs ≡ (how_many p xs + how_many q xs) + sum_by f xs
each_split p q f [] all = refl
each_split p q f (x ∷ xs) all = let one = all.0 in omega (arith, one, sum_by-cons f x xs, each_split p q f xs all.1)

each_same : {X : Type 0} (p : X → Bool) (f : X → ℕ) (xs : List X) → AllByRecursion (λ x. f x ≡ cond (p x) 1 0) xs → sum_by f xs ≡ how_many p xs
each_same p f [] all = refl
each_same p f (x ∷ xs) all = let one = all.0 in omega (arith, one, sum_by-cons f x xs, each_same p f xs all.1)

-- ---- one element at most

every : {X : Type 0} (P : X → Type 0) → ((x : X) → P x) → (xs : List X) → AllByRecursion P xs
every P h [] = tt
every P h (x ∷ xs) = (h x, every P h xs)

unique : {X : Type 0} (cmp : X → X → Ordering) (test : X → Bool) (xs : List X) → ((x y : X) → test x ≡ true → test y ≡ true → cmp x y ≡ Less → ⊥) → IsStrictlySortedBy cmp xs → how_many test xs ≡ cond (list_any test xs) 1 0
unfolding IsStrictlySortedBy
unique cmp test [] apart up = refl
unique cmp test (x ∷ xs) apart up = step (test x) refl up.0 (unique cmp test xs apart up.1)
  where
    untrue : (y : _) → test x ≡ true → cmp x y ≡ Less → (t : Bool) → test y ≡ t → t ≡ false
    untrue y x_is less true y_is = absurd (apart x y x_is y_is less)
    untrue y x_is less false y_is = refl

    step : (t : Bool) → test x ≡ t → AllByRecursion (λ y. cmp x y ≡ Less) xs → how_many test xs ≡ cond (list_any test xs) 1 0 → cond t 1 0 + how_many test xs ≡ cond (t || list_any test xs) 1 0
    step true is below rest = let none = how_many-none test xs (weaker (λ y. cmp x y ≡ Less) (λ y. test y ≡ false) xs (λ y less. untrue y is less (test y) refl) below) in omega (arith, none)
    step false is below rest = omega (arith, rest)

abbrev ends_at : Key → ℕ → Ending → Bool
ends_at k e x = same_key k x.key && (x.end == e)

apart_ends : (k : Key) (e : ℕ) (x y : Ending) → ends_at k e x ≡ true → ends_at k e y ≡ true → ending_cmp x y ≡ Less → ⊥
apart_ends k e x y x_is y_is less =
    let tests_x = both_true (same_key k x.key) (x.end == e) x_is in
    let tests_y = both_true (same_key k y.key) (y.end == e) y_is in
    let key : y.key ≡ x.key = key_is k y.key tests_y.0 ∙ sym (key_is k x.key tests_x.0) in
    let end : y.end ≡ x.end = let t = tests_x.1 in let u = tests_y.1 in let a : x.end ≡ e = grind (arith, nat_tests) in let b : y.end ≡ e = grind (arith, nat_tests) in omega (arith, a, b) in
    let same : ending_cmp x y ≡ ending_cmp x x = ap (λ (q : Key). ordering_then (key_cmp x.key q) (nat_cmp x.end y.end)) key ∙ ap (λ n. ordering_then (key_cmp x.key x.key) (nat_cmp x.end n)) end in
    cc (sym less ∙ same ∙ tied_itself ending_total x)

apart_keys : (k x y : Key) → same_key k x ≡ true → same_key k y ≡ true → key_cmp x y ≡ Less → ⊥
apart_keys k x y x_is y_is less = cc (sym less ∙ ap (λ (q : Key). key_cmp x q) (key_is k y y_is ∙ sym (key_is k x x_is)) ∙ tied_itself key_total x)

-- ---- the table's keys

key_any : (k : Key) (rows : Table) → has_row rows k ≡ list_any (same_key k) (keys_of rows)
key_any k [] = refl
key_any k (row ∷ rows) = step (same_key k row.0) (key_any k rows)
  where
    step : (t : Bool) → has_row rows k ≡ list_any (same_key k) (keys_of rows) → is_some (cond t (Some row.1) (lookup (is_at (key_cmp k)) rows)) ≡ (t || list_any (same_key k) (keys_of rows))
    step true rest = refl
    step false rest = rest

self_any : (rows : Table) → AllByRecursion (λ (row : Key × List Value). list_any (same_key row.0) (keys_of rows) ≡ true) rows
self_any [] = tt
self_any (row ∷ rows) = (rw (key_itself row.0) refl, weaker (λ (r : Key × List Value). list_any (same_key r.0) (keys_of rows) ≡ true) (λ (r : Key × List Value). list_any (same_key r.0) (keys_of (row ∷ rows)) ≡ true) rows (λ r is. rw is (step (same_key r.0 row.0))) (self_any rows))
  where
    step : (t : Bool) → (t || true) ≡ true
    step true = refl
    step false = refl

-- ---- the groups

abbrev has_end : Version → Bool
has_end v = is_some v.end

totals : (groups : List Group) → total_sum groups ≡ length (opened groups) + length (frozen groups)
totals [] = refl
totals (g ∷ gs) = step g.content (totals gs)
  where
    step : (content : Content) → total_sum gs ≡ length (opened gs) + length (frozen gs) → cond (is_tombstone content) 0 (total content) + total_sum gs ≡ length (opened_in content ++ opened gs) + length (frozen_in content ++ frozen gs)
    step (Opened versions) rest = omega (arith, rest, length-append versions (opened gs))
    step (Closed versions) rest = omega (arith, rest, length-append versions (frozen gs))
    step (Compressed versions) rest = omega (arith, rest, length-append versions (frozen gs))
    step Invisible rest = omega (arith, rest)
    step (Tombstone versions ends) rest = omega (arith, rest)

deleteds : (groups : List Group) → deleted_sum groups ≡ how_many has_end (opened groups) + how_many has_end (frozen groups)
deleteds [] = refl
deleteds (g ∷ gs) = step g.content (deleteds gs)
  where
    step : (content : Content) → deleted_sum gs ≡ how_many has_end (opened gs) + how_many has_end (frozen gs) → cond (is_tombstone content) 0 (deleted content) + deleted_sum gs ≡ how_many has_end (opened_in content ++ opened gs) + how_many has_end (frozen_in content ++ frozen gs)
    step (Opened versions) rest = omega (arith, rest, how_many-append has_end versions (opened gs))
    step (Closed versions) rest = omega (arith, rest, how_many-append has_end versions (frozen gs))
    step (Compressed versions) rest = omega (arith, rest, how_many-append has_end versions (frozen gs))
    step Invisible rest = omega (arith, rest)
    step (Tombstone versions ends) rest = omega (arith, rest)

module _ (group_rows : ℕ) (book : Book) (cs : List Change) (clock floor : ℕ) (a : AreChanges cs clock) (reach : floor ≤ clock) (j : IsBookOf group_rows book cs floor) where
  up : AreAscending cs
  up = ascending_of cs a.ascend

  low_c : AreBelow clock cs
  low_c = below_of cs clock a

  abbrev vis : Version → Bool
  vis v = is_visible book.buffer clock v

  begun : (v : Version) → Stems cs floor v → leb v.begin clock ≡ true
  begun v s = let le = low (stock_of book) cs clock floor 0 [] low_c up reach tt j.stock v s in grind (arith, nat_tests)

  -- ---- a version is visible, or ended beside it, or ended by an entry

  swap_key : (k q : Key) → same_key k q ≡ same_key q k
  swap_key k q = (eq_by_cmp_equiv key_total).symm k q

  swap_end : (e n : ℕ) → (e == n) ≡ (n == e)
  swap_end e n = grind (arith, nat_tests)

  entry_count : (k : Key) (e : ℕ) → how_many (λ (x : Ending). same_key x.key k && (e == x.end)) book.buffer ≡ cond (holds book.buffer k e) 1 0
  entry_count k e =
      how_many-same (λ (x : Ending). same_key x.key k && (e == x.end)) (ends_at k e) book.buffer (every (λ (x : Ending). (same_key x.key k && (e == x.end)) ≡ ends_at k e x) (λ x. rw (swap_key x.key k, swap_end e x.end) refl) book.buffer)
      ∙ unique ending_cmp (ends_at k e) book.buffer (apart_ends k e) j.stock.entries.sorted

  and_false : (t : Bool) → (t && false) ≡ false
  and_false true = refl
  and_false false = refl

  frozen_step : (v : Version) (n : Option ℕ) → ((e : ℕ) → n ≡ Some e → e ≤ clock) → EndFits book.buffer floor v n
      → (cond (is_after clock n) 1 0 + cond (is_some v.end) 1 0) + how_many (λ (x : Ending). same_key x.key v.key && is_number x.end n) book.buffer ≡ 1
  frozen_step v None le fits =
      let none = how_many-none (λ (x : Ending). same_key x.key v.key && false) book.buffer (every (λ (x : Ending). (same_key x.key v.key && false) ≡ false) (λ x. and_false (same_key x.key v.key)) book.buffer) in
      rw fits (omega (arith, none))
  frozen_step v (Some e) le fits =
      let past : ltb clock e ≡ false = let l = le e refl in grind (arith, nat_tests) in
      let count = entry_count v.key e in
      elim fits [
        | inl stamped ↦ let zero_is = count ∙ ap (λ (t : Bool). cond t 1 0) stamped.1 in rw (past, stamped.0) (omega (arith, zero_is))
        | inr others ↦ elim others [
          | inl plain ↦ let zero_is = count ∙ ap (λ (t : Bool). cond t 1 0) plain.2 in rw (past, plain.0) (omega (arith, zero_is))
          | inr buffered ↦ let one_is = count ∙ ap (λ (t : Bool). cond t 1 0) buffered.1 in rw (past, buffered.0) (omega (arith, one_is))
        ]
      ]

  opened_step : (v : Version) (n : Option ℕ) → ((e : ℕ) → n ≡ Some e → e ≤ clock) → v.end ≡ option_map At n → (cond (is_after clock n) 1 0 + cond (is_some v.end) 1 0) + 0 ≡ 1
  opened_step v None le end = rw end refl
  opened_step v (Some e) le end = let past : ltb clock e ≡ false = let l = le e refl in grind (arith, nat_tests) in rw (past, end) refl

  abbrev Fits : Version → Type 0
  Fits v = EndFits book.buffer floor v (next_change cs v.key v.begin)

  abbrev EndIs : Version → Type 0
  EndIs v = v.end ≡ option_map At (next_change cs v.key v.begin)

  frozen_split : length (frozen book.groups) ≡ (how_many vis (frozen book.groups) + how_many has_end (frozen book.groups)) + sum_by (λ v. how_many (λ x. is_end_of cs x v) book.buffer) (frozen book.groups)
  frozen_split = each_split vis has_end (λ v. how_many (λ x. is_end_of cs x v) book.buffer) (frozen book.groups) (recursion_from_All _ (frozen book.groups) (All-in Fits (λ v. (cond (vis v) 1 0 + cond (has_end v) 1 0) + how_many (λ x. is_end_of cs x v) book.buffer ≡ 1) (frozen book.groups) (λ v in_list fits.
      let stems = All-contains (Stems cs floor) (frozen book.groups) v j.stock.versions.frozen in_list in
      rw (begun v stems, frozen_shown (stock_of book) cs floor j.stock up clock reach v (next_change cs v.key v.begin) refl fits)
      (frozen_step v (next_change cs v.key v.begin) (next-le cs clock low_c v.key v.begin) fits)) j.stock.ends.frozen))

  opened_split : length (opened book.groups) ≡ (how_many vis (opened book.groups) + how_many has_end (opened book.groups)) + sum_by (λ (v : Version). 0) (opened book.groups)
  opened_split = each_split vis has_end (λ (v : Version). 0) (opened book.groups) (recursion_from_All _ (opened book.groups) (All-in EndIs (λ v. (cond (vis v) 1 0 + cond (has_end v) 1 0) + 0 ≡ 1) (opened book.groups) (λ v in_list end.
      let stems = All-contains (Stems cs floor) (opened book.groups) v j.stock.versions.opened in_list in
      rw (begun v stems, opened_shown (stock_of book) cs floor j.stock up clock reach v (next_change cs v.key v.begin) refl end)
      (opened_step v (next_change cs v.key v.begin) (next-le cs clock low_c v.key v.begin) end)) j.stock.ends.opened))

  -- each entry ends one version
  entries_sum : sum_by (λ v. how_many (λ x. is_end_of cs x v) book.buffer) (frozen book.groups) ≡ length book.buffer
  entries_sum = sym (pair_count (is_end_of cs) book.buffer (frozen book.groups)) ∙ each_one (λ x. how_many (is_end_of cs x) (frozen book.groups)) book.buffer (recursion_from_All _ book.buffer j.stock.entries.owned)

  -- ---- each row of the table shows once

  abbrev rows : Table
  rows = table cs clock

  abbrev shows_row : Key × List Value → Version → Bool
  shows_row row v = shows book.buffer row.0 clock v

  row_one : AllByRecursion (λ (row : Key × List Value). how_many (shows_row row) (opened book.groups) + how_many (shows_row row) (frozen book.groups) ≡ 1) rows
  row_one = weaker (λ (row : Key × List Value). list_any (same_key row.0) (keys_of rows) ≡ true) (λ (row : Key × List Value). how_many (shows_row row) (opened book.groups) + how_many (shows_row row) (frozen book.groups) ≡ 1) rows
      (λ row is. each_shown group_rows book cs clock floor a j clock reach row.0 ∙ ap (λ (t : Bool). cond t 1 0) (key_any row.0 rows ∙ is)) (self_any rows)

  key_there : (v : Version) → IsSeenAt cs floor clock v → has_row rows v.key ≡ true
  key_there v seen = ap is_some (row_is cs clock v.key ∙ ap made seen.is_last) ∙ seen.row

  row_of : (v : Version) → (vis v ≡ true → IsSeenAt cs floor clock v) → how_many (λ (row : Key × List Value). shows_row row v) rows ≡ cond (vis v) 1 0
  row_of v seen = step (vis v) seen
    where
      counted : how_many (λ (row : Key × List Value). same_key row.0 v.key) rows ≡ cond (has_row rows v.key) 1 0
      counted =
          how_many-same (λ (row : Key × List Value). same_key row.0 v.key) (λ (row : Key × List Value). same_key v.key row.0) rows (every (λ (row : Key × List Value). same_key row.0 v.key ≡ same_key v.key row.0) (λ row. swap_key row.0 v.key) rows)
          ∙ sym (how_many-map (same_key v.key) (λ (row : Key × List Value). row.0) rows)
          ∙ unique key_cmp (same_key v.key) (keys_of rows) (apart_keys v.key) (table_ascends cs clock)
          ∙ ap (λ (t : Bool). cond t 1 0) (sym (key_any v.key rows))

      and_true : (t : Bool) → (t && true) ≡ t
      and_true true = refl
      and_true false = refl

      step : (t : Bool) → (t ≡ true → IsSeenAt cs floor clock v) → how_many (λ (row : Key × List Value). same_key row.0 v.key && t) rows ≡ cond t 1 0
      step true s = how_many-same (λ (row : Key × List Value). same_key row.0 v.key && true) (λ (row : Key × List Value). same_key row.0 v.key) rows (every (λ (row : Key × List Value). (same_key row.0 v.key && true) ≡ same_key row.0 v.key) (λ row. and_true (same_key row.0 v.key)) rows)
          ∙ counted ∙ ap (λ (t : Bool). cond t 1 0) (key_there v (s refl))
      step false s = how_many-none (λ (row : Key × List Value). same_key row.0 v.key && false) rows (every (λ (row : Key × List Value). (same_key row.0 v.key && false) ≡ false) (λ row. and_false (same_key row.0 v.key)) rows)

  abbrev Seen : Version → Type 0
  Seen v = vis v ≡ true → IsSeenAt cs floor clock v

  shown_sum : (vs : List Version) → All Seen vs → sum_by (λ row. how_many (shows_row row) vs) rows ≡ how_many vis vs
  shown_sum vs seen = pair_count shows_row rows vs ∙ each_same vis (λ v. how_many (λ (row : Key × List Value). shows_row row v) rows) vs (weaker Seen (λ v. how_many (λ (row : Key × List Value). shows_row row v) rows ≡ cond (vis v) 1 0) vs row_of (recursion_from_All Seen vs seen))

  table_length : length rows ≡ how_many vis (opened book.groups) + how_many vis (frozen book.groups)
  table_length =
      let sums = sum_both (λ row. how_many (shows_row row) (opened book.groups)) (λ row. how_many (shows_row row) (frozen book.groups)) rows in
      let one = each_one (λ row. how_many (shows_row row) (opened book.groups) + how_many (shows_row row) (frozen book.groups)) rows row_one in
      let first = shown_sum (opened book.groups) (opened_seen group_rows book cs clock floor a j clock reach) in
      let second = shown_sum (frozen book.groups) (frozen_seen group_rows book cs clock floor a j clock reach) in
      omega (arith, sums, one, first, second)

  pub adds_up : total_sum book.groups ≡ deleted_sum book.groups + (length book.buffer + length (table cs clock))
  adds_up = omega (arith, totals book.groups, deleteds book.groups, frozen_split, opened_split, zeros (opened book.groups), entries_sum, table_length)
