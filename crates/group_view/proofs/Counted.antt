-- Counts of a packed group's versions, by its bitmap.
use Rattle.std.proofs.Common.{◌≡◌, ℕ, ◌+◌, ◌-◌, ◌*◌, ◌&&◌, Bool, true, false, cond, leb, List, [], ◌∷◌, length, not, Option, None, Some, refl, sym, ap, ◌∙◌, arith}
use Rattle.std.specs.Prelude.{◌↔◌, slice_get}
use Rattle.std.specs.List.{Contains, count_by, list_any}
use Rattle.std.specs.Option.{option_map}
use Rattle.std.proofs.lemmas.List.{length-map}
use Rattle.std.proofs.lemmas.List.Folds.{Any-from_list_any, list_any_at}
use Rattle.std.proofs.lemmas.Option.{slice_get-get_or}
use Rattle.delete_bitmap.specs.declared.MarkedEnd.{MarkedEnd}
use Rattle.delete_bitmap.specs.declared.MarkedEnd.TheVariants.{Plain, Stamped}
use Rattle.delete_bitmap.specs.Marks.{is_removable, is_settling}
use Rattle.row_group.specs.Rows.{PackedRow}
use Rattle.group_book.specs.Book.{End, Version, has_ended, how_many}
use Rattle.group_book.specs.Choices as book
use Rattle.group_book.proofs.Lists.{every_one, how_many-same}
use Rattle.group_book.proofs.Move.{count_by-how_many}
use Rattle.group_view.specs.Parts.{Rowed, end_of_mark, packed_versions}
use Rattle.group_view.specs.Books.{versions_of}
use Rattle.group_view.proofs.Versions.{length-packed_versions}
use Rattle.group_view.proofs.Walks.{any_alike, any_one}

-- ---- ends

module _ (test : Option End → Bool) where
  count_ends : (key : ℕ) (rows : List PackedRow) (marks : List (Option MarkedEnd)) → length marks ≡ length rows → how_many (λ (version : Version). test version.end) (versions_of (packed_versions key rows marks)) ≡ how_many (λ mark. test (end_of_mark mark)) marks
  count_ends key [] [] same = refl
  count_ends key [] (mark ∷ marks) same = absurd (omega (arith, same))
  count_ends key (row ∷ rows) [] same = absurd (omega (arith, same))
  count_ends key (row ∷ rows) (mark ∷ marks) same = ap (λ n. cond (test (end_of_mark mark)) 1 0 + n) (count_ends key rows marks (omega (arith, same)))

  any_ends : (key : ℕ) (rows : List PackedRow) (marks : List (Option MarkedEnd)) → length marks ≡ length rows → list_any (λ (version : Version). test version.end) (versions_of (packed_versions key rows marks)) ≡ list_any (λ mark. test (end_of_mark mark)) marks
  any_ends key [] [] same = refl
  any_ends key [] (mark ∷ marks) same = absurd (omega (arith, same))
  any_ends key (row ∷ rows) [] same = absurd (omega (arith, same))
  any_ends key (row ∷ rows) (mark ∷ marks) same = rw (any_ends key rows marks (omega (arith, same))) refl

removable_mark : (floor : ℕ) (mark : Option MarkedEnd) → has_ended floor (end_of_mark mark) ≡ is_removable floor mark
removable_mark floor None = refl
removable_mark floor (Some Plain) = refl
removable_mark floor (Some (Stamped commit)) = refl

settling_mark : (floor : ℕ) (mark : Option MarkedEnd) → book.is_settling floor (end_of_mark mark) ≡ is_settling floor mark
settling_mark floor None = refl
settling_mark floor (Some Plain) = refl
settling_mark floor (Some (Stamped commit)) = refl

-- ---- stamps

agree : (t u : Bool) → (t ≡ true → u ≡ true) → (u ≡ true → t ≡ true) → t ≡ u
agree true u there back = sym (there refl)
agree false true there back = back refl
agree false false there back = refl

module _ (floor : ℕ) (stamps : List (ℕ × ℕ)) (marks : List (Option MarkedEnd)) (same : (p commit : ℕ) → Contains stamps (p, commit) ↔ (slice_get marks p ≡ Some (Some (Stamped commit)))) where
  there : list_any (λ (stamp : ℕ × ℕ). leb stamp.1 floor) stamps ≡ true → list_any (is_settling floor) marks ≡ true
  there some =
      let found = Any-from_list_any (λ (stamp : ℕ × ℕ). leb stamp.1 floor) stamps some in
      let mark = (same found.1.0 found.1.1).0 (found.0, found.2, found.3) in
      any_one (is_settling floor) marks found.1.0 (ap (option_map (is_settling floor)) mark ∙ ap Some found.4)

  back : list_any (is_settling floor) marks ≡ true → list_any (λ (stamp : ℕ × ℕ). leb stamp.1 floor) stamps ≡ true
  back some =
      let found = Any-from_list_any (is_settling floor) marks some in
      step found.0 found.1 (slice_get-get_or marks found.0 found.1 found.2 ∙ ap Some found.3) found.4
    where
      step : (p : ℕ) (mark : Option MarkedEnd) → slice_get marks p ≡ Some mark → is_settling floor mark ≡ true → list_any (λ (stamp : ℕ × ℕ). leb stamp.1 floor) stamps ≡ true
      step p None at is = cc
      step p (Some Plain) at is = cc
      step p (Some (Stamped commit)) at is =
          let stamp = (same p commit).1 at in
          list_any_at (λ (s : ℕ × ℕ). leb s.1 floor) stamps stamp.0 (p, commit) stamp.1 (ap (λ (s : ℕ × ℕ). leb s.1 floor) stamp.2 ∙ is)

  -- the stamps tell whether an end is one that a settle makes plain
  pub settling_stamps : list_any (λ (stamp : ℕ × ℕ). leb stamp.1 floor) stamps ≡ list_any (is_settling floor) marks
  settling_stamps = agree _ _ there back

-- ---- counts

-- those that pass and those that do not are all
count_both : {X : Type 0} (p : X → Bool) (xs : List X) → how_many p xs + how_many (λ x. not (p x)) xs ≡ length xs
count_both p [] = refl
count_both p (x ∷ xs) = step (p x) (count_both p xs)
  where
    step : (t : Bool) → how_many p xs + how_many (λ y. not (p y)) xs ≡ length xs → (cond t 1 0 + how_many p xs) + (cond (not t) 1 0 + how_many (λ y. not (p y)) xs) ≡ length (x ∷ xs)
    step true rest = omega (arith, rest)
    step false rest = omega (arith, rest)

module _ (floor key : ℕ) (rows : List PackedRow) (marks : List (Option MarkedEnd)) (same : length marks ≡ length rows) where
  abbrev versions : List Version
  versions = versions_of (packed_versions key rows marks)

  length_versions : length versions ≡ length rows
  length_versions = length-map (packed_versions key rows marks) (λ (rowed : Rowed). rowed.version) ∙ length-packed_versions key rows marks same

  pub removable_is : count_by (is_removable floor) marks ≡ how_many (λ (version : Version). has_ended floor version.end) versions
  removable_is =
      count_by-how_many (is_removable floor) marks
      ∙ sym (how_many-same (λ mark. has_ended floor (end_of_mark mark)) (is_removable floor) marks (every_one _ (removable_mark floor) marks))
      ∙ sym (count_ends (has_ended floor) key rows marks same)

  pub remaining_is : length rows - count_by (is_removable floor) marks ≡ how_many (λ (version : Version). not (has_ended floor version.end)) versions
  remaining_is =
      let both = count_both (λ (version : Version). has_ended floor version.end) versions in
      omega (arith, both, length_versions, removable_is)

  pub thin_is : (leb 1 (count_by (is_removable floor) marks) && leb (length rows) (10 * count_by (is_removable floor) marks)) ≡ (leb 1 (how_many (λ (version : Version). has_ended floor version.end) versions) && leb (length versions) (10 * how_many (λ (version : Version). has_ended floor version.end) versions))
  thin_is = rw (removable_is, sym length_versions) refl

  pub settling_is : list_any (is_settling floor) marks ≡ list_any (λ (version : Version). book.is_settling floor version.end) versions
  settling_is =
      sym (any_alike (λ mark. book.is_settling floor (end_of_mark mark)) (is_settling floor) marks (settling_mark floor)) ∙ sym (any_ends (book.is_settling floor) key rows marks same)
