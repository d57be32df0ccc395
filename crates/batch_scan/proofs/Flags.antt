-- Whether the version at a position is read, by what hides it.
use Rattle.std.proofs.Common.{◌≡◌, ℕ, zero, suc, ◌<◌, Bool, true, false, not, ◌&&◌, cond, leb, List, [], ◌∷◌, length, get_or, refl, sym, ap, ◌∙◌, arith}
use Rattle.std.specs.Prelude.{◌||◌, Option, None, Some, count_by, filter}
use Rattle.std.specs.List.{All}
use Rattle.std.proofs.lemmas.Bool.{lt-leb}
use Rattle.std.proofs.lemmas.List.{get_or-map, get_or_default, length-map, same_lists}
use Rattle.std.proofs.lemmas.List.Sums.{length-filter}
use Rattle.std.proofs.lemmas.Option.{get_or_from_slice_get}
use Rattle.delete_bitmap.specs.declared.MarkedEnd.{MarkedEnd}
use Rattle.delete_bitmap.specs.declared.MarkedEnd.TheVariants.{Plain, Stamped}
use Rattle.delete_bitmap.specs.Marks.{end_at, is_removable}
use Rattle.row_group.specs.Groups.{Group, row_at}
use Rattle.group_book.specs.Book.{has_ended}
use Rattle.group_view.specs.declared.view.Pinned.{Pinned}
use Rattle.group_view.specs.Parts.{Rowed, end_of_mark, packed_version, packed_versions}
use Rattle.group_view.proofs.Versions.{length-packed_versions, packed_read}
use Rattle.batch_scan.specs.Hidden.{is_ended_by, is_hidden, is_written}
use Rattle.batch_scan.specs.Reads.{is_read, read_flags}

read_by : (begun ended buffered written : Bool) → ((begun && (not ended && not buffered)) && not written) ≡ not (((not begun || buffered) || written) || ended)
read_by false ended buffered written = refl
read_by true true true written = refl
read_by true true false true = refl
read_by true true false false = refl
read_by true false true written = refl
read_by true false false true = refl
read_by true false false false = refl

ended_by : (s : ℕ) (mark : Option MarkedEnd) → has_ended s (end_of_mark mark) ≡ is_removable s mark
ended_by s None = refl
ended_by s (Some Plain) = refl
ended_by s (Some (Stamped commit)) = refl

-- where none is removable, the end at a position is not
none_removable : (s : ℕ) (marks : List (Option MarkedEnd)) (p : ℕ) → length (filter (is_removable s) marks) ≡ 0 → is_removable s (end_at marks p) ≡ false
none_removable s [] p none = refl
none_removable s (mark ∷ marks) p none = step (is_removable s mark) refl p (λ q left. none_removable s marks q left)
  where
    counted : (t : Bool) → is_removable s mark ≡ t → length (cond t (mark ∷ filter (is_removable s) marks) (filter (is_removable s) marks)) ≡ 0
    counted t is = ap (λ (b : Bool). length (cond b (mark ∷ filter (is_removable s) marks) (filter (is_removable s) marks))) (sym is) ∙ none

    step : (t : Bool) → is_removable s mark ≡ t → (p : ℕ) → ((q : ℕ) → length (filter (is_removable s) marks) ≡ 0 → is_removable s (end_at marks q) ≡ false) → is_removable s (end_at (mark ∷ marks) p) ≡ false
    step true is p rest = let some : length (mark ∷ filter (is_removable s) marks) ≡ 0 = counted true is in absurd (omega (arith, some))
    step false is zero rest = is
    step false is (suc p) rest = rest p (counted false is)

module _ (pinned : Pinned) (group : Group) (marks : List (Option MarkedEnd)) (fits : length marks ≡ length group.rows) where
  abbrev versions : List Rowed
  versions = packed_versions group.key group.rows marks

  abbrev flags : List Bool
  flags = read_flags pinned group marks

  s : ℕ
  s = pinned.snapshot

  pub length-flags : length (read_flags pinned group marks) ≡ length group.rows
  length-flags = length-map versions (is_read pinned) ∙ length-packed_versions group.key group.rows marks fits

  pub flag_is : (p : ℕ) → p < length group.rows → get_or (read_flags pinned group marks) p false ≡ not (is_hidden pinned group p || is_removable pinned.snapshot (end_at marks p))
  flag_is p below =
      let there : p < length versions = omega (arith, below, length-packed_versions group.key group.rows marks fits) in
      let version = packed_version group.key (row_at group p) (end_at marks p) in
      let here : get_or versions p version ≡ version = get_or_from_slice_get versions p version version (packed_read group marks p there) in
      get_or-map (is_read pinned) versions p version false there ∙ ap (is_read pinned) here
      ∙ read_by (leb (row_at group p).begin pinned.snapshot) (has_ended pinned.snapshot (end_of_mark (end_at marks p))) (is_ended_by pinned.view.buffer.value pinned.snapshot group p) (is_written pinned.own group p)
      ∙ ap (λ (b : Bool). not (is_hidden pinned group p || b)) (ended_by pinned.snapshot (end_at marks p))

  pub are_flags : (left : List Bool) → length left ≡ length marks → ((p : ℕ) → p < length marks → get_or left p false ≡ not (is_hidden pinned group p || is_removable pinned.snapshot (end_at marks p))) → left ≡ read_flags pinned group marks
  are_flags left same each = same_lists left flags (same ∙ fits ∙ sym length-flags) (λ k d below.
      let there : k < length group.rows = omega (arith, below, same, fits) in
      get_or_default left k d false below ∙ each k (omega (arith, below, same)) ∙ sym (flag_is k there)
      ∙ sym (get_or_default flags k d false (omega (arith, there, length-flags))))

  pub all_read : ((p : ℕ) → p < length group.rows → is_hidden pinned group p ≡ false) → count_by (is_removable pinned.snapshot) marks ≡ 0 → All (λ (flag : Bool). flag ≡ true) (read_flags pinned group marks)
  all_read shown none k d below =
      let there : k < length group.rows = omega (arith, below, length-flags) in
      get_or_default flags k d false below ∙ flag_is k there
      ∙ ap (λ (b : Bool). not (b || is_removable pinned.snapshot (end_at marks k))) (shown k there)
      ∙ ap not (none_removable pinned.snapshot marks k (length-filter (is_removable pinned.snapshot) marks ∙ none))

  pub none_read : ((p : ℕ) → p < length group.rows → pinned.snapshot < (row_at group p).begin) → All (λ (flag : Bool). flag ≡ false) (read_flags pinned group marks)
  none_read late k d below =
      let there : k < length group.rows = omega (arith, below, length-flags) in
      get_or_default flags k d false below ∙ flag_is k there
      ∙ ap (λ (b : Bool). not (((not b || is_ended_by pinned.view.buffer.value pinned.snapshot group k) || is_written pinned.own group k) || is_removable pinned.snapshot (end_at marks k)))
      (lt-leb (row_at group k).begin pinned.snapshot (late k there))
