-- What is shown of the row groups is the same of books that are one but for the order of packed versions.
use Rattle.std.proofs.Common.{◌≡◌, ℕ, ◌+◌, ◌*◌, List, [], ◌∷◌, ◌++◌, map, filter, length, refl, sym, ap, ◌∙◌}
use Rattle.std.specs.Prelude.{is_some}
use Rattle.std.specs.List.{AllZip, flat_map}
use Rattle.std.specs.List.Sorted.{IsPermutation}
use Rattle.std.proofs.lemmas.List.Sorted.{IsPermutation-map, IsPermutation-sym, IsPermutation-trans, length_permutation}
use Rattle.cs_types.specs.declared.Schema.{Schema}
use Rattle.cs_model.specs.declared.entry.Reply.{Reply}
use Rattle.cs_model.specs.declared.entry.Reply.TheVariants.{Done, Affected, Rows, Groups, Segments, Left, Refused}
use Rattle.cs_model.specs.declared.report.SegmentLine.{SegmentLine}
use Rattle.cs_model.specs.declared.work.Actor.{Actor}
use Rattle.cs_model.specs.Changes.{Change}
use Rattle.row_group.specs.Rows.{PackedRow}
use Rattle.group_book.specs.Book.{Version, Ending, Content, Group, Claim, Book, total, deleted, frozen_in, is_closed, is_compressed}
use Rattle.group_book.specs.Orders.{IsContentReordered, IsGroupReordered}
use Rattle.group_book.proofs.Move.{how_many-permutation}
use Rattle.group_book.proofs.Orders.{content_cases}
use Rattle.group_book.proofs.Zips.{zip_count, zip_filter, zip_map}
use Rattle.group_log.specs.Followed.{ShowsBook}
use Rattle.group_log.specs.Reorganizing.{closed_ids, held_groups, is_in_use, most_turns}
use Rattle.group_log.specs.Reports.{line_of, state_of}
use Rattle.group_log.specs.Segments.{packed_row, AreRowsOf, ShowsSegments}
use Rattle.book_orders.specs.Shuffled.{IsClaimShuffled, IsShuffled}

-- ---- the report on groups

same_state : (c d : Content) → IsContentReordered c d → state_of c ≡ state_of d
same_state c d is = content_cases (λ c d. state_of c ≡ state_of d) (λ c. refl) (λ xs ys p. refl) c d is

same_total : (c d : Content) → IsContentReordered c d → total c ≡ total d
same_total c d is = content_cases (λ c d. total c ≡ total d) (λ c. refl) (λ xs ys p. sym (length_permutation xs ys p)) c d is

same_deleted : (c d : Content) → IsContentReordered c d → deleted c ≡ deleted d
same_deleted c d is = content_cases (λ c d. deleted c ≡ deleted d) (λ c. refl) (λ xs ys p. sym (how_many-permutation (λ (version : Version). is_some version.end) xs ys p)) c d is

same_line : (g h : Group) → IsGroupReordered g h → line_of g ≡ line_of h
same_line g h r =
    let id = sym r.0 in
    let state = same_state g.content h.content r.1 in
    let versions = same_total g.content h.content r.1 in
    let ends = same_deleted g.content h.content r.1 in
    λ i. record { id = id i; state = state i; total = versions i; deleted = ends i }

pub shuffled_report : (book other : Book) → IsShuffled book other → (map line_of book.groups ≡ map line_of other.groups) × (length book.buffer ≡ length other.buffer)
shuffled_report book other r = (zip_map IsGroupReordered line_of same_line book.groups other.groups r.groups, ap (λ (buffer : List Ending). length buffer) (sym r.buffer))

-- ---- the report on segments

same_compressed : (g h : Group) → IsGroupReordered g h → is_compressed g.content ≡ is_compressed h.content
same_compressed g h r = content_cases (λ c d. is_compressed c ≡ is_compressed d) (λ c. refl) (λ xs ys p. refl) g.content h.content r.1

module _ (width : ℕ) (changes : List Change) where
  -- the rows of a group are those of the other one
  same_rows : (g h : Group) (rows : ℕ × List PackedRow) → IsGroupReordered g h → AreRowsOf width changes g rows → AreRowsOf width changes h rows
  same_rows g h rows r is = record {
    of_group = is.of_group ∙ sym r.0;
    of_versions = content_cases (λ c d. IsPermutation (packed c) rows.1 → IsPermutation (packed d) rows.1) (λ c p. p) moved g.content h.content r.1 is.of_versions;
  }
    where
      packed : Content → List PackedRow
      packed content = map (packed_row width changes) (frozen_in content)

      moved : (xs ys : List Version) → IsPermutation xs ys → IsPermutation (map (packed_row width changes) xs) rows.1 → IsPermutation (map (packed_row width changes) ys) rows.1
      moved xs ys p all =
          IsPermutation-trans (map (packed_row width changes) ys) (map (packed_row width changes) xs) rows.1
          (IsPermutation-map (packed_row width changes) ys xs (IsPermutation-sym xs ys p)) all

  same_groups : (gs hs : List Group) (rows : List (ℕ × List PackedRow)) → AllZip IsGroupReordered gs hs → AllZip (AreRowsOf width changes) gs rows → AllZip (AreRowsOf width changes) hs rows
  same_groups [] [] rows zip all = all
  same_groups [] (h ∷ hs) rows zip all = absurd zip
  same_groups (g ∷ gs) [] rows zip all = absurd zip
  same_groups (g ∷ gs) (h ∷ hs) [] zip all = absurd all
  same_groups (g ∷ gs) (h ∷ hs) (r ∷ rs) zip all = (same_rows g h r zip.0 all.0, same_groups gs hs rs zip.1 all.1)

same_segments : (schema : Schema) (changes : List Change) (book other : Book) (lines : List SegmentLine) → IsShuffled book other → ShowsSegments schema changes book lines → ShowsSegments schema changes other lines
same_segments schema changes book other lines r shown = record {
  groups = shown.groups;
  of_book =
      same_groups (length schema.columns) changes (filter (λ (group : Group). is_compressed group.content) book.groups) (filter (λ (group : Group). is_compressed group.content) other.groups) shown.groups
      (zip_filter IsGroupReordered (λ (group : Group). is_compressed group.content) (λ (group : Group). is_compressed group.content) same_compressed book.groups other.groups r.groups) shown.of_book;
  of_groups = shown.of_groups;
}

-- ---- what a reply shows

pub shuffled_shows : (schema : Schema) (changes : List Change) (r : Reply) (book other : Book) → IsShuffled book other → ShowsBook schema changes book r → ShowsBook schema changes other r
shuffled_shows schema changes Done book other is shown = shown
shuffled_shows schema changes (Affected count) book other is shown = shown
shuffled_shows schema changes (Rows rows segments) book other is shown = shown
shuffled_shows schema changes (Groups lines buffered) book other is shown = let same = shuffled_report book other is in (shown.0 ∙ same.0, shown.1 ∙ same.1)
shuffled_shows schema changes (Segments lines) book other is shown = same_segments schema changes book other lines is shown
shuffled_shows schema changes (Left groups) book other is shown = shown
shuffled_shows schema changes (Refused refusal) book other is shown = shown

-- ---- what a REORGANIZE looks at

abbrev held_by : Claim → List (ℕ × Actor)
held_by claim = map (λ source. (source, claim.actor)) claim.sources

same_held : (claims others : List Claim) → AllZip IsClaimShuffled claims others → flat_map held_by claims ≡ flat_map held_by others
same_held [] [] zip = refl
same_held [] (d ∷ ds) zip = absurd zip
same_held (c ∷ cs) [] zip = absurd zip
same_held (c ∷ cs) (d ∷ ds) zip = let one = ap held_by (sym zip.0.2) in let rest = same_held cs ds zip.1 in λ i. one i ++ rest i

same_closed : (g h : Group) → IsGroupReordered g h → is_closed g.content ≡ is_closed h.content
same_closed g h r = content_cases (λ c d. is_closed c ≡ is_closed d) (λ c. refl) (λ xs ys p. refl) g.content h.content r.1

same_in_use : (g h : Group) → IsGroupReordered g h → is_in_use g.content ≡ is_in_use h.content
same_in_use g h r = content_cases (λ c d. is_in_use c ≡ is_in_use d) (λ c. refl) (λ xs ys p. refl) g.content h.content r.1

pub shuffled_held : (book other : Book) → IsShuffled book other → (held_groups book ≡ held_groups other) × (closed_ids book ≡ closed_ids other) × (most_turns book ≡ most_turns other)
shuffled_held book other r = (
  same_held book.claims other.claims r.claims,
  zip_map IsGroupReordered (λ (group : Group). group.id) (λ g h is. sym is.0) (filter (λ (group : Group). is_closed group.content) book.groups) (filter (λ (group : Group). is_closed group.content) other.groups)
      (zip_filter IsGroupReordered (λ (group : Group). is_closed group.content) (λ (group : Group). is_closed group.content) same_closed book.groups other.groups r.groups),
  ap (λ n. 3 * n + 1) (zip_count IsGroupReordered (λ (group : Group). is_in_use group.content) (λ (group : Group). is_in_use group.content) same_in_use book.groups other.groups r.groups),
)
