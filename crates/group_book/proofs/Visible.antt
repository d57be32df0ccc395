-- What is visible at a number from the floor on is the table there.
use Rattle.std.proofs.Common.{◌≡◌, ℕ, zero, suc, ◌≤◌, Bool, true, false, ◌&&◌, cond, leb, List, [], ◌∷◌, Option, Some, None, is_some, refl, sym, ap, ◌∙◌, inl, inr, arith}
use Rattle.std.specs.List.{All}
use Rattle.std.specs.List.Sorted.{IsNonDecreasingBy}
use Rattle.std.specs.Option.{option_map}
use Rattle.std.proofs.lemmas.List.Elements.{recursion_from_All, All-contains}
use Rattle.cs_types.specs.declared.Key.{Key}
use Rattle.cs_model.specs.Changes.{Change, table}
use Rattle.cs_model.proofs.Tables.{row_is}
use Rattle.group_book.specs.Book.{Version, Book, is_visible, shown_count, opened, frozen}
use Rattle.group_book.specs.Book.End.{At}
use Rattle.group_book.specs.Stocks.{AreChanges, stock_of, Stems, EndFits, next_change, is_after}
use Rattle.group_book.specs.Invariant.{IsBookOf, IsSeenAt}
use Rattle.cs_model.specs.Obstacles.{has_row}
use Rattle.group_book.proofs.Keys.{key_itself}
use Rattle.group_book.proofs.Lists.{All-in}
use Rattle.group_book.proofs.Changes.{last_at, AreAscending, AreBelow, last-is}
use Rattle.group_book.proofs.Shown.{makes_row, shown_once, shown_none, shown_last, frozen_shown, opened_shown}

pub ascending_of : (xs : List Change) → IsNonDecreasingBy (λ (change : Change). change.commit) xs → AreAscending xs
ascending_of [] h = tt
ascending_of (x ∷ xs) h = (recursion_from_All (λ (y : Change). x.commit ≤ y.commit) xs (λ k d inside. h zero (suc k) d (omega arith) (omega (arith, inside))), ascending_of xs (λ i j d le inside. h (suc i) (suc j) d (omega (arith, le)) (omega (arith, inside))))

pub below_of : (xs : List Change) (n : ℕ) → AreChanges xs n → AreBelow n xs
below_of xs n a = recursion_from_All (λ (x : Change). x.commit ≤ n) xs a.below

module _ (group_rows : ℕ) (book : Book) (cs : List Change) (clock floor : ℕ) (a : AreChanges cs clock) (j : IsBookOf group_rows book cs floor) (s : ℕ) (reach : floor ≤ s) where
  up : AreAscending cs
  up = ascending_of cs a.ascend

  count_step : (k : Key) (o : Option Change) → last_at cs k s ≡ o → (t : Bool) → makes_row o ≡ t → shown_count book k s ≡ cond t 1 0
  count_step k (Some x) is true row =
      let one = shown_once (stock_of book) cs floor j.stock up s reach k x is row in
      omega (arith, one)
  count_step k None is true row = absurd (cc row)
  count_step k o is false row =
      let none = shown_none (stock_of book) cs floor j.stock up s reach k (ap makes_row is ∙ row) in
      omega (arith, none)

  -- each key of the table shows once, and no other does
  pub each_shown : (k : Key) → shown_count book k s ≡ cond (has_row (table cs s) k) 1 0
  each_shown k = count_step k (last_at cs k s) refl (has_row (table cs s) k) (ap is_some (sym (row_is cs s k)))

  seen_step : (v : Version) (stems : Stems cs floor v) → (leb v.begin s && is_after s (next_change cs v.key v.begin)) ≡ true → IsSeenAt cs floor s v
  seen_step v stems is =
      let last = shown_last (stock_of book) cs floor j.stock up s reach v.key v stems (rw (key_itself v.key) is) in
      let low = (last-is cs v.key v.begin stems.origin stems.is_origin).low in
      record {
        change = stems.origin;
        is_last = last;
        stems = stems.is_origin;
        row = stems.row;
        begin = elim stems.begin [ inl same ↦ inl same | inr below ↦ inr (below, omega (arith, below, low)) ];
      }

  abbrev Seen : Version → Type 0
  Seen v = is_visible book.buffer s v ≡ true → IsSeenAt cs floor s v

  abbrev after_begin : Version → Bool → Bool
  after_begin v t = leb v.begin s && t

  pub frozen_seen : All Seen (frozen book.groups)
  frozen_seen = All-in (Stems cs floor) Seen (frozen book.groups) (λ v in_list stems is.
      seen_step v stems (ap (after_begin v) (sym (frozen_shown (stock_of book) cs floor j.stock up s reach v (next_change cs v.key v.begin) refl (All-contains (λ (u : Version). EndFits book.buffer floor u (next_change cs u.key u.begin)) (frozen book.groups) v j.stock.ends.frozen in_list))) ∙ is)) j.stock.versions.frozen

  pub opened_seen : All Seen (opened book.groups)
  opened_seen = All-in (Stems cs floor) Seen (opened book.groups) (λ v in_list stems is.
      seen_step v stems (ap (after_begin v) (sym (opened_shown (stock_of book) cs floor j.stock up s reach v (next_change cs v.key v.begin) refl (All-contains (λ (u : Version). u.end ≡ option_map At (next_change cs u.key u.begin)) (opened book.groups) v j.stock.ends.opened in_list))) ∙ is)) j.stock.versions.opened
