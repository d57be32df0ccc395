-- What a settle makes of bitmaps, of groups and of lists of them.
use Rattle.std.proofs.Common.{◌≡◌, ℕ, suc, ◌<◌, ◌≤◌, ◌+◌, ◌&&◌, Bool, true, false, cond, leb, List, [], ◌∷◌, ◌++◌, map, filter, length, get_or, set, take, drop, not, Option, Some, None, refl, sym, ap, subst, ◌∙◌, arith}
use Rattle.std.specs.Prelude.{count_by}
use Rattle.std.specs.List.{All, AllByRecursion, AllZip, list_any}
use Rattle.std.specs.declared.alloc.Global.{Global}
use Rattle.std.specs.declared.sync.Arc.{Arc}
use Rattle.std.proofs.lemmas.List.{length-map, length-set, length_push, append-nil, drop_all, take_all}
use Rattle.std.proofs.lemmas.List.Elements.{All-from_recursion}
use Rattle.delete_bitmap.specs.declared.MarkedEnd.{MarkedEnd}
use Rattle.delete_bitmap.specs.declared.MarkedEnd.TheVariants as mark
use Rattle.delete_bitmap.specs.declared.Marks.{Marks}
use Rattle.delete_bitmap.specs.Marks as marks
use Rattle.row_group.specs.declared.packed.Packed.{Packed}
use Rattle.row_group.specs.Rows.{PackedRow}
use Rattle.cs_types.specs.declared.Key.{Key}
use Rattle.cs_types.specs.declared.Value.{Value}
use Rattle.cs_types.specs.Rows.{key_in}
use Rattle.group_book.specs.Book as book
use Rattle.group_book.specs.Book.{End, Version, Content, Claim, frozen, frozen_in, how_many, is_compressed}
use Rattle.group_book.specs.Book.End.{At, Plain}
use Rattle.group_book.specs.Choices.{is_settling}
use Rattle.group_book.specs.Turns.{is_claimed, settled, settled_end, settled_group, with_compressed, after_settle}
use Rattle.group_book.proofs.Lists.{how_many-append, how_many-none, none_pass}
use Rattle.group_view.specs.declared.groups.GroupContent.{GroupContent}
use Rattle.group_view.specs.declared.groups.GroupContent.TheVariants.{Opened, Closed, Compressed, Invisible, Tombstone}
use Rattle.group_view.specs.declared.groups.Group.{Group}
use Rattle.group_view.specs.Shares.{Grouped}
use Rattle.group_view.specs.declared.groups.GroupList.{GroupList}
use Rattle.group_view.specs.Parts.{Rowed, end_of_mark, packed_version, packed_versions}
use Rattle.group_view.specs.Books.{versions_of, content_of, group_of, claim_of, book_of, rowed_in_content}
use Rattle.group_view.specs.Lists.{is_open, is_listed, listed, IsFittingContent, IsHeld}
use Rattle.group_view.specs.Walks.{settles_in}
use Rattle.group_view.specs.Seen.{rooted, rooted_in}
use Rattle.group_directory.specs.Settling.{NewMarks, marked, with_marks, settling_in, IsSettledBy}
use Rattle.group_directory.proofs.Books.{book_is}
use Rattle.group_directory.proofs.Held.{Fits}
use Rattle.group_directory.proofs.Mapped.{counted}
use Rattle.group_directory.proofs.Opened.{opens}
use Rattle.group_directory.proofs.Shared.{open_alike}

-- ---- a bitmap

module _ (floor : ℕ) where
  end_settled : (m : Option MarkedEnd) → end_of_mark (marks.settled floor m) ≡ settled_end floor (end_of_mark m)
  end_settled None = refl
  end_settled (Some mark.Plain) = refl
  end_settled (Some (mark.Stamped c)) = step (leb c floor)
    where
      step : (t : Bool) → end_of_mark (cond t (Some mark.Plain) (Some (mark.Stamped c))) ≡ cond t (Some Plain) (Some (At c))
      step true = refl
      step false = refl

  end_settles : (m : Option MarkedEnd) → is_settling floor (end_of_mark m) ≡ marks.is_settling floor m
  end_settles None = refl
  end_settles (Some mark.Plain) = refl
  end_settles (Some (mark.Stamped c)) = refl

  module _ (key : ℕ) where
    versions_settled : (rows : List PackedRow) (ms : List (Option MarkedEnd)) → versions_of (packed_versions key rows (map (marks.settled floor) ms)) ≡ map (settled floor) (versions_of (packed_versions key rows ms))
    versions_settled [] ms = refl
    versions_settled (row ∷ rows) [] = refl
    versions_settled (row ∷ rows) (m ∷ ms) =
        ap (λ (end : Option End). record { key = key_in key row.cells; begin = row.begin; end = end } ∷ versions_of (packed_versions key rows (map (marks.settled floor) ms))) (end_settled m)
        ∙ ap (λ (l : List Version). record { key = key_in key row.cells; begin = row.begin; end = settled_end floor (end_of_mark m) } ∷ l) (versions_settled rows ms)

    roots_settled : (rows : List PackedRow) (ms : List (Option MarkedEnd)) → map rooted (packed_versions key rows (map (marks.settled floor) ms)) ≡ map rooted (packed_versions key rows ms)
    roots_settled [] ms = refl
    roots_settled (row ∷ rows) [] = refl
    roots_settled (row ∷ rows) (m ∷ ms) = ap (λ l. rooted (packed_version key row m) ∷ l) (roots_settled rows ms)

    count_settled : (rows : List PackedRow) (ms : List (Option MarkedEnd)) → length ms ≡ length rows → how_many (λ (version : Version). is_settling floor version.end) (versions_of (packed_versions key rows ms)) ≡ how_many (marks.is_settling floor) ms
    count_settled [] [] fit = refl
    count_settled [] (m ∷ ms) fit = absurd (omega (arith, fit))
    count_settled (row ∷ rows) [] fit = refl
    count_settled (row ∷ rows) (m ∷ ms) fit = rw (end_settles m, count_settled rows ms (omega (arith, fit))) refl

  -- where none is settled, all stay
  none_settled : (vs : List Version) → AllByRecursion (λ (v : Version). is_settling floor v.end ≡ false) vs → map (settled floor) vs ≡ vs
  none_settled [] all = refl
  none_settled (v ∷ vs) all = ap (λ (end : Option End). record v { end = end } ∷ map (settled floor) vs) (stays v.end all.0) ∙ ap (λ l. v ∷ l) (none_settled vs all.1)
    where
      stays : (end : Option End) → is_settling floor end ≡ false → settled_end floor end ≡ end
      stays None is = refl
      stays (Some Plain) is = refl
      stays (Some (At c)) is = ap (λ (t : Bool). cond t (Some Plain) (Some (At c))) is

  -- ---- a group

  module _ (claims : List Claim) where
    -- that a claim has
    pub settled_claimed : (group : Group) → is_claimed claims (group_of group) ≡ true → IsFittingContent group.content → IsSettledBy floor claims group None
    settled_claimed group claimed fits = record {
      settled = ap (λ (t : Bool). record { id = group.id; content = cond t (content_of group.content) (with_compressed (map (settled floor)) (content_of group.content)) }) (sym claimed);
      rows = refl;
      fitting = fits;
    }

    pub number_claimed : (group : Group) → is_claimed claims (group_of group) ≡ true → settling_in floor claims (group_of group ∷ []) ≡ 0
    number_claimed group claimed = rw claimed refl

    -- that is packed and free
    module _ (id : ℕ) (packed : Arc Packed Global) (old : Arc Marks Global) (free : is_claimed claims (record { id = id; content = content_of (Compressed packed old) }) ≡ false) (fits : IsFittingContent (Compressed packed old)) where
      abbrev here : Group
      here = record { id = id; content = Compressed packed old }

      abbrev in_here : List Version
      in_here = versions_of (rowed_in_content (Compressed packed old))

      free_settled : settled_group floor claims (group_of here) ≡ record { id = id; content = book.Content.Compressed (map (settled floor) in_here) }
      free_settled = ap (λ (t : Bool). record { id = id; content = cond t (content_of (Compressed packed old)) (book.Content.Compressed (map (settled floor) in_here)) }) free

      pub settled_free : (made : Arc Marks Global) → made.value ≡ map (marks.settled floor) old.value → IsSettledBy floor claims here (Some made)
      settled_free made is = record {
        settled = ap (λ (ms : List (Option MarkedEnd)). let g = packed.value in record { id = id; content = book.Content.Compressed (versions_of (packed_versions g.key g.rows ms)) }) is
            ∙ ap (λ (vs : List Version). record { id = id; content = book.Content.Compressed vs }) (let g = packed.value in versions_settled g.key g.rows old.value) ∙ sym free_settled;
        rows = ap (λ (ms : List (Option MarkedEnd)). let g = packed.value in map rooted (packed_versions g.key g.rows ms)) is ∙ (let g = packed.value in roots_settled g.key g.rows old.value);
        fitting = ap length is ∙ length-map old.value (marks.settled floor) ∙ fits;
      }

      pub number_free : settling_in floor claims (group_of here ∷ []) ≡ count_by (marks.is_settling floor) old.value
      number_free =
          let g = packed.value in
          rw free (how_many-append (λ (version : Version). is_settling floor version.end) in_here [] ∙ counted_rows (count_settled g.key g.rows old.value fits) ∙ sym (counted (marks.is_settling floor) old.value))
        where
          counted_rows : {n m : ℕ} → n ≡ m → n + 0 ≡ m
          counted_rows {n} {m} same = omega (arith, same)

      pub settled_none : list_any (λ (version : Version). is_settling floor version.end) (versions_of (rowed_in_content (Compressed packed old))) ≡ false → IsSettledBy floor claims here None
      settled_none none = record {
        settled = sym (free_settled ∙ ap (λ (vs : List Version). record { id = id; content = book.Content.Compressed vs }) (none_settled in_here (none_pass (λ (version : Version). is_settling floor version.end) in_here none)));
        rows = refl;
        fitting = fits;
      }

      pub number_none : list_any (λ (version : Version). is_settling floor version.end) (versions_of (rowed_in_content (Compressed packed old))) ≡ false → settling_in floor claims (group_of here ∷ []) ≡ 0
      number_none none = rw free (how_many-append (λ (version : Version). is_settling floor version.end) in_here [] ∙ counted_rows (how_many-none (λ (version : Version). is_settling floor version.end) in_here (none_pass (λ (version : Version). is_settling floor version.end) in_here none)))
        where
          counted_rows : {n m : ℕ} → n ≡ m → n + 0 ≡ m
          counted_rows {n} {m} same = omega (arith, same)

    -- what is made of a group, and how many ends of it become plain
    pub record Makes (group : Group) (made : NewMarks) (number : ℕ) : Type 0 where
      pub by : IsSettledBy floor claims group made
      pub count : settling_in floor claims (group_of group ∷ []) ≡ number

    pub makes_claimed : (group : Group) → is_claimed claims (group_of group) ≡ true → IsFittingContent group.content → Makes group None 0
    makes_claimed group claimed fits = record { by = settled_claimed group claimed fits; count = number_claimed group claimed }

    abbrev settles : Group → Bool
    settles group = let kept = group_of group in is_compressed kept.content && settles_in floor kept

    at_here : (P : Group → Type 0) (group : Group) (packed : Arc Packed Global) (old : Arc Marks Global) → group.content ≡ Compressed packed old → P (record { id = group.id; content = Compressed packed old }) → P group
    at_here P group packed old is holds = subst P (ap (λ (content : GroupContent). record { id = group.id; content = content }) (sym is)) holds

    pub makes_none : (group : Group) (packed : Arc Packed Global) (old : Arc Marks Global) → group.content ≡ Compressed packed old → IsFittingContent group.content → is_claimed claims (group_of group) ≡ false
        → (r : Bool) → r ≡ (is_compressed (content_of group.content) && settles_in floor (group_of group)) → r ≡ false → Makes group None 0
    makes_none group packed old is = at_here (λ (h : Group). IsFittingContent h.content → is_claimed claims (group_of h) ≡ false → (r : Bool) → r ≡ settles h → r ≡ false → Makes h None 0) group packed old is
        (λ fits free r tells never. let none = sym tells ∙ never in record { by = settled_none group.id packed old free fits none; count = number_none group.id packed old free fits none })

    pub makes_some : (group : Group) (packed : Arc Packed Global) (old : Arc Marks Global) → group.content ≡ Compressed packed old → IsFittingContent group.content → is_claimed claims (group_of group) ≡ false
        → (made : Arc Marks Global) → made.value ≡ map (marks.settled floor) old.value → Makes group (Some made) (count_by (marks.is_settling floor) old.value)
    makes_some group packed old is = at_here (λ (h : Group). IsFittingContent h.content → is_claimed claims (group_of h) ≡ false → (made : Arc Marks Global) → made.value ≡ map (marks.settled floor) old.value → Makes h (Some made) (count_by (marks.is_settling floor) old.value)) group packed old is
        (λ fits free made made_is. record { by = settled_free group.id packed old free fits made made_is; count = number_free group.id packed old free fits })

    -- ---- groups

    pub number_more : (xs ys : List book.Group) → settling_in floor claims (xs ++ ys) ≡ settling_in floor claims xs + settling_in floor claims ys
    number_more [] ys = omega arith
    number_more (x ∷ xs) ys = step (is_claimed claims x) (is_compressed x.content) refl (number_more xs ys)
      where
        step : (t u : Bool) → is_compressed x.content ≡ u → settling_in floor claims (xs ++ ys) ≡ settling_in floor claims xs + settling_in floor claims ys
            → how_many (λ (version : Version). is_settling floor version.end) (frozen (filter (λ (group : book.Group). is_compressed group.content) (cond (not t) (x ∷ filter (λ group. not (is_claimed claims group)) (xs ++ ys)) (filter (λ group. not (is_claimed claims group)) (xs ++ ys)))))
            ≡ how_many (λ (version : Version). is_settling floor version.end) (frozen (filter (λ (group : book.Group). is_compressed group.content) (cond (not t) (x ∷ filter (λ group. not (is_claimed claims group)) xs) (filter (λ group. not (is_claimed claims group)) xs)))) + settling_in floor claims ys
        step true u is rest = rest
        step false false is rest = rw is rest
        step false true is rest =
            rw is (omega (
              arith,
              rest,
              how_many-append (λ (version : Version). is_settling floor version.end) (frozen_in x.content) (frozen (filter (λ (group : book.Group). is_compressed group.content) (filter (λ group. not (is_claimed claims group)) (xs ++ ys)))),
              how_many-append (λ (version : Version). is_settling floor version.end) (frozen_in x.content) (frozen (filter (λ (group : book.Group). is_compressed group.content) (filter (λ group. not (is_claimed claims group)) xs))),
            ))

    abbrev By : Group → NewMarks → Type 0
    By = IsSettledBy floor claims

    pub book_settled : (gs : List Group) (plan : List NewMarks) → AllZip By gs plan → map group_of (with_marks plan gs) ≡ map (settled_group floor claims) (map group_of gs)
    book_settled [] [] zip = refl
    book_settled [] (m ∷ plan) zip = absurd zip
    book_settled (g ∷ gs) [] zip = absurd zip
    book_settled (g ∷ gs) (m ∷ plan) zip =
        ap (λ (h : book.Group). h ∷ map group_of (with_marks plan gs)) zip.0.settled ∙ ap (λ l. settled_group floor claims (group_of g) ∷ l) (book_settled gs plan zip.1)

    pub zip_more : (gs : List Group) (plan : List NewMarks) (g : Group) (m : NewMarks) → AllZip By gs plan → By g m → AllZip By (gs ++ g ∷ []) (plan ++ m ∷ [])
    zip_more [] [] g m zip by = (by, tt)
    zip_more [] (n ∷ plan) g m zip by = absurd zip
    zip_more (h ∷ gs) [] g m zip by = absurd zip
    zip_more (h ∷ gs) (n ∷ plan) g m zip by = (zip.0, zip_more gs plan g m zip.1 by)

    pub fits_settled : (gs : List Group) (plan : List NewMarks) → AllZip By gs plan → AllByRecursion Fits (with_marks plan gs)
    fits_settled [] [] zip = tt
    fits_settled [] (m ∷ plan) zip = absurd zip
    fits_settled (g ∷ gs) [] zip = absurd zip
    fits_settled (g ∷ gs) (m ∷ plan) zip = (zip.0.fitting, fits_settled gs plan zip.1)

    listed_marked : (m : NewMarks) (content : GroupContent) → is_listed (marked m content) ≡ is_listed content
    listed_marked None content = refl
    listed_marked (Some marks) (Opened store) = refl
    listed_marked (Some marks) (Closed store) = refl
    listed_marked (Some marks) (Compressed packed old) = refl
    listed_marked (Some marks) Invisible = refl
    listed_marked (Some marks) (Tombstone total deleted) = refl

    abbrev rooted_entry : ℕ × List Rowed → ℕ × List (Key × ℕ × List Value)
    rooted_entry entry = (entry.0, map rooted entry.1)

    pub roots_marked : (gs : List Group) (plan : List NewMarks) → AllZip By gs plan → rooted_in (with_marks plan gs) ≡ rooted_in gs
    roots_marked [] [] zip = refl
    roots_marked [] (m ∷ plan) zip = absurd zip
    roots_marked (g ∷ gs) [] zip = absurd zip
    roots_marked (g ∷ gs) (m ∷ plan) zip = step (is_listed (marked m g.content)) (is_listed g.content) (listed_marked m g.content) (roots_marked gs plan zip.1)
      where
        step : (t u : Bool) → t ≡ u → rooted_in (with_marks plan gs) ≡ rooted_in gs
            → map rooted_entry (cond t ((g.id, rowed_in_content (marked m g.content)) ∷ listed (with_marks plan gs)) (listed (with_marks plan gs))) ≡ map rooted_entry (cond u ((g.id, rowed_in_content g.content) ∷ listed gs) (listed gs))
        step true true same rest = ap (λ (roots : List (Key × ℕ × List Value)). let entry : ℕ × List (Key × ℕ × List Value) = (g.id, roots) in entry ∷ rooted_in (with_marks plan gs)) zip.0.rows ∙ ap (λ l. rooted_entry (g.id, rowed_in_content g.content) ∷ l) rest
        step true false same rest = cc
        step false true same rest = cc
        step false false same rest = rest

    pub length_marked : (gs : List Group) (plan : List NewMarks) → AllZip By gs plan → length plan ≡ length gs
    length_marked [] [] zip = refl
    length_marked [] (m ∷ plan) zip = absurd zip
    length_marked (g ∷ gs) [] zip = absurd zip
    length_marked (g ∷ gs) (m ∷ plan) zip = ap suc (length_marked gs plan zip.1)

open_marked : (m : NewMarks) (content : GroupContent) → is_open (marked m content) ≡ is_open content
open_marked None content = refl
open_marked (Some marks) (Opened store) = refl
open_marked (Some marks) (Closed store) = refl
open_marked (Some marks) (Compressed packed old) = refl
open_marked (Some marks) Invisible = refl
open_marked (Some marks) (Tombstone total deleted) = refl

pub opens_marked : (gs : List Group) (plan : List NewMarks) → map opens (with_marks plan gs) ≡ map opens gs
opens_marked gs [] = refl
opens_marked [] (m ∷ plan) = refl
opens_marked (g ∷ gs) (m ∷ plan) = ap (λ t. t ∷ map opens (with_marks plan gs)) (open_marked m g.content) ∙ ap (λ l. opens g ∷ l) (opens_marked gs plan)

-- what is left comes to what all came to
pub record IsLeft (left : List NewMarks) (gs : List Group) (all : List NewMarks) (first : List Group) : Type 0 where
  pub same : with_marks left gs ≡ with_marks all first
  pub within : length left ≤ length gs

-- the last bitmap first
pub marks_last : (plan : List NewMarks) (m : NewMarks) (gs : List Group) (d : Group) → length plan < length gs
    → with_marks plan (set gs (length plan) (record (get_or gs (length plan) d) { content = marked m (get_or gs (length plan) d).content })) ≡ with_marks (plan ++ m ∷ []) gs
marks_last plan m [] d inside = absurd (omega (arith, inside))
marks_last [] m (g ∷ gs) d inside = refl
marks_last (n ∷ plan) m (g ∷ gs) d inside = ap (λ (l : List Group). record g { content = marked n g.content } ∷ l) (marks_last plan m gs d (omega (arith, inside)))

-- the next bitmap goes to its place
pub popped : (left : List NewMarks) (last : NewMarks) (plan : List NewMarks) (gs : List Group) (at : ℕ) (d : Group) (content : GroupContent) (all : List NewMarks) (first : List Group) → plan ≡ left ++ last ∷ [] → at ≡ length left
    → content ≡ marked last (get_or gs at d).content → with_marks plan gs ≡ with_marks all first → length plan ≤ length gs
    → IsLeft left (set gs at (record { id = (get_or gs at d).id; content = content })) all first
popped left last plan gs at d content all first plan_is at_is is same within =
    let longer : length left + 1 ≡ length plan = sym (ap length plan_is ∙ length_push left last) in
    record {
      same =
          ap (λ (n : ℕ). with_marks left (set gs n (record { id = (get_or gs n d).id; content = content }))) at_is
          ∙ ap (λ (c : GroupContent). with_marks left (set gs (length left) (record { id = (get_or gs (length left) d).id; content = c }))) (is ∙ ap (λ (n : ℕ). marked last (get_or gs n d).content) at_is)
          ∙ marks_last left last gs d (omega (arith, longer, within))
          ∙ ap (λ (l : List NewMarks). with_marks l gs) (sym plan_is) ∙ same;
      within = let kept = length-set gs at (record { id = (get_or gs at d).id; content = content }) in omega (arith, longer, within, kept);
    }

pub length_with : (plan : List NewMarks) (gs : List Group) → length (with_marks plan gs) ≡ length gs
length_with [] gs = refl
length_with (m ∷ plan) [] = refl
length_with (m ∷ plan) (g ∷ gs) = ap suc (length_with plan gs)

-- ---- a list of groups

-- as many as there were take their place
pub whole_items : {X : Type 0} (n : ℕ) (xs items : List X) → n ≡ length items → length xs ≡ length items → take n (xs ++ drop (length xs) items) ≡ xs
whole_items n xs items is same =
    ap (λ (rest : List _). take n (xs ++ rest)) (drop_all (length xs) items (omega (arith, same))) ∙ ap (take n) (append-nil xs) ∙ take_all n xs (omega (arith, is, same))

module _ (list : GroupList) (floor : ℕ) (plan : List NewMarks) (zip : AllZip (IsSettledBy floor (map claim_of list.claims.items)) list.groups.items plan) (groups : Grouped) (is : groups.items ≡ with_marks plan list.groups.items) where
  pub book_after : book_of (record list { groups = groups }) ≡ after_settle floor (book_of list)
  book_after = book_is (book_of (record list { groups = groups })) (after_settle floor (book_of list)) (ap (map group_of) is ∙ book_settled floor (map claim_of list.claims.items) list.groups.items plan zip) refl refl refl

  pub held_after : IsHeld list → IsHeld (record list { groups = groups })
  held_after held = record {
    fitting = subst (All Fits) (sym is) (All-from_recursion Fits (with_marks plan list.groups.items) (fits_settled floor (map claim_of list.claims.items) list.groups.items plan zip));
    opened = open_alike list.groups.items groups.items list.opened (sym (ap (map opens) is ∙ opens_marked list.groups.items plan)) held.opened;
    lent = held.lent;
  }

  pub rows_after : rooted_in groups.items ≡ rooted_in list.groups.items
  rows_after = ap rooted_in is ∙ roots_marked floor (map claim_of list.claims.items) list.groups.items plan zip
