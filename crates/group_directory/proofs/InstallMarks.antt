-- A list of groups in which packed groups have other bitmaps.
use Rattle.std.proofs.Common.{◌≡◌, ◌==◌, ℕ, suc, Bool, true, false, ◌||◌, cond, List, [], ◌∷◌, ◌++◌, map, filter, length, not, Option, Some, Vec, refl, sym, ap, subst, ◌∙◌, arith}
use Rattle.std.specs.List.{All, AllByRecursion, AllZip, flat_map, list_any}
use Rattle.std.specs.declared.alloc.Global.{Global}
use Rattle.std.specs.declared.sync.Arc.{Arc}
use Rattle.std.proofs.lemmas.Bool.Decides.{nat_tests}
use Rattle.std.proofs.lemmas.Bool.{eqb-true}
use Rattle.std.specs.Vec.{with_items}
use Rattle.std.proofs.lemmas.List.{map-append, with_items_is}
use Rattle.std.proofs.lemmas.List.Elements.{recursion_from_All, All-from_recursion, All-contains, All-filter}
use Rattle.cs_types.specs.declared.Key.{Key}
use Rattle.cs_types.specs.declared.Value.{Value}
use Rattle.cs_model.specs.declared.work.Actor.{Actor}
use Rattle.delete_buffer.specs.Entries.{without}
use Rattle.delete_bitmap.specs.declared.Marks.{Marks}
use Rattle.delete_bitmap.specs.declared.MarkedEnd.{MarkedEnd}
use Rattle.row_group.specs.declared.packed.Packed as packed
use Rattle.row_group.specs.Rows.{PackedRow}
use Rattle.group_book.specs.Book.{Content as content}
use Rattle.group_book.specs.Book.{Version, Ending, frozen_in}
use Rattle.group_book.specs.Turns.{is_id_of, flushed, flushed_group, same_actor, with_compressed, without_entries, after_flush}
use Rattle.group_book.proofs.Lists.{all-left, all-right}
use Rattle.group_view.specs.declared.claim.Claim.{Claim}
use Rattle.group_view.specs.declared.groups.Group.{Group}
use Rattle.group_view.specs.declared.groups.GroupContent.{GroupContent}
use Rattle.group_view.specs.declared.groups.GroupContent.TheVariants.{Opened, Closed, Compressed, Invisible, Tombstone}
use Rattle.group_view.specs.declared.groups.GroupList.{GroupList}
use Rattle.group_view.specs.declared.parts.GroupPart.{GroupPart}
use Rattle.group_view.specs.declared.parts.GroupPart.TheVariants as part
use Rattle.group_view.specs.Parts.{Rowed, end_of_mark, packed_version, packed_versions, rowed_in, versions_in, IsFitting}
use Rattle.group_view.specs.Views.{endings_of, buffer_of, rowed_of}
use Rattle.group_view.specs.Books.{book_of, claim_of, content_of, group_of, group_versions, part_versions, rowed_in_content, versions_of}
use Rattle.group_view.specs.Lists.{is_open, is_listed, IsFittingContent, IsHeld, IsOpenAt}
use Rattle.group_view.specs.Claims.{lent_entries, IsMarkedOf}
use Rattle.group_view.specs.Seen.{rooted, rooted_in}
use Rattle.group_directory.specs.Installing.{held_by, ids_of, with_marks, marked_by, MayMark}
use Rattle.group_directory.proofs.Held.{Fits, Lends}
use Rattle.group_directory.proofs.Books.{book_is}
use Rattle.group_directory.proofs.Shared.{open_alike}
use Rattle.group_directory.proofs.InstallBuffers.{claims_left, endings_without, held_there}
use Rattle.group_directory.proofs.Opened.{opens}

abbrev Ends : Type 0
Ends = List (Option MarkedEnd)

abbrev Part : Type 0
Part = ℕ × GroupPart

-- ---- packed versions with other ends

-- what is not the end stays
rooted_marked : (key : ℕ) (rows : List PackedRow) (old new : Ends) → length old ≡ length rows → length new ≡ length rows → map rooted (packed_versions key rows new) ≡ map rooted (packed_versions key rows old)
rooted_marked key [] old new e f = refl
rooted_marked key (row ∷ rows) [] new e f = absurd (omega (arith, e))
rooted_marked key (row ∷ rows) (o ∷ old) [] e f = absurd (omega (arith, f))
rooted_marked key (row ∷ rows) (o ∷ old) (n ∷ new) e f = ap (λ (l : List (Key × ℕ × List Value)). rooted (packed_version key row o) ∷ l) (rooted_marked key rows old new (omega (arith, e)) (omega (arith, f)))

abbrev head_or : {X : Type 0} → X → List X → X
head_or d [] = d
head_or d (x ∷ xs) = x

abbrev behind : {X : Type 0} → List X → List X
behind [] = []
behind (x ∷ xs) = xs

length_packed : (key : ℕ) (rows : List PackedRow) (marks : Ends) → length marks ≡ length rows → length (versions_of (packed_versions key rows marks)) ≡ length rows
length_packed key [] marks e = refl
length_packed key (row ∷ rows) [] e = absurd (omega (arith, e))
length_packed key (row ∷ rows) (mark ∷ marks) e = ap suc (length_packed key rows marks (omega (arith, e)))

abbrev ended : Version → Option MarkedEnd → Version
ended version mark = record version { end = end_of_mark mark }

-- two packed groups with the same versions have the same ones with other ends
marked_alike : (k l : ℕ) (ps rs : List PackedRow) (a b new : Ends) → length a ≡ length ps → length b ≡ length rs → length new ≡ length ps
    → versions_of (packed_versions k ps a) ≡ versions_of (packed_versions l rs b) → versions_of (packed_versions k ps new) ≡ versions_of (packed_versions l rs new)
marked_alike k l [] [] a b new la lb ln same = refl
marked_alike k l [] (r ∷ rs) a [] new la lb ln same = absurd (omega (arith, lb))
marked_alike k l [] (r ∷ rs) a (y ∷ b) new la lb ln same = absurd (let lengths = ap length same in omega (arith, lengths))
marked_alike k l (p ∷ ps) rs [] b new la lb ln same = absurd (omega (arith, la))
marked_alike k l (p ∷ ps) [] (x ∷ a) b new la lb ln same = absurd (let lengths = ap length same in omega (arith, lengths))
marked_alike k l (p ∷ ps) (r ∷ rs) (x ∷ a) [] new la lb ln same = absurd (omega (arith, lb))
marked_alike k l (p ∷ ps) (r ∷ rs) (x ∷ a) (y ∷ b) [] la lb ln same = absurd (omega (arith, ln))
marked_alike k l (p ∷ ps) (r ∷ rs) (x ∷ a) (y ∷ b) (n ∷ new) la lb ln same =
    let first : ended (packed_version k p x).version n ≡ ended (packed_version l r y).version n = ap (λ (vs : List Version). ended (head_or (packed_version k p x).version vs) n) same in
    let rest = marked_alike k l ps rs a b new (omega (arith, la)) (omega (arith, lb)) (omega (arith, ln)) (ap behind same) in
    (λ i. first i ∷ rest i)

-- ---- one group

module _ (claim : Claim) (ids : List ℕ) (buffer : List Ending) where
  abbrev lent : List Ending
  lent = lent_entries claim

  abbrev ends : Version → Version
  ends v = flushed buffer lent v

  abbrev Alike : Version → Type 0
  Alike v = flushed (buffer_of claim.view) lent v ≡ ends v

  map_alike : (vs : List Version) → AllByRecursion Alike vs → map (flushed (buffer_of claim.view) lent) vs ≡ map ends vs
  map_alike [] all = refl
  map_alike (v ∷ vs) all = (let first = all.0 in let rest = map_alike vs all.1 in λ i. first i ∷ rest i)

  -- what becomes of the content of a source
  record IsEnded (old new : GroupContent) : Type 0 where
    whole : content_of new ≡ with_compressed (map ends) (content_of old)
    rows : map rooted (rowed_in_content new) ≡ map rooted (rowed_in_content old)
    shown : is_listed new ≡ is_listed old
    opened : is_open new ≡ is_open old
    fits : IsFittingContent new

  source_ended : (content : GroupContent) (id : ℕ) (group : Arc packed.Packed Global) (marks : Arc Marks Global) (new : ℕ × Arc Marks Global) → IsFittingContent content → IsFitting (part.Packed group marks)
      → IsMarkedOf claim (id, part.Packed group marks) new → versions_in (part.Packed group marks) ≡ frozen_in (content_of content) → AllByRecursion Alike (versions_in (part.Packed group marks))
      → IsEnded content (with_marks new.1 content)
  source_ended (Opened store) id group marks new fits fit is same alike = record { whole = refl; rows = refl; shown = refl; opened = refl; fits = tt }
  source_ended (Closed store) id group marks new fits fit is same alike = record { whole = refl; rows = refl; shown = refl; opened = refl; fits = tt }
  source_ended Invisible id group marks new fits fit is same alike = record { whole = refl; rows = refl; shown = refl; opened = refl; fits = tt }
  source_ended (Tombstone total deleted) id group marks new fits fit is same alike = record { whole = refl; rows = refl; shown = refl; opened = refl; fits = tt }
  source_ended (Compressed kept old) id group marks new fits fit is same alike =
      let p = group.value in
      let l = kept.value in
      let long : length p.rows ≡ length l.rows = sym (length_packed p.key p.rows marks.value fit) ∙ ap (λ (vs : List Version). length vs) same ∙ length_packed l.key l.rows old.value fits in
      let new_p : length new.1.value ≡ length p.rows = is.1 ∙ fit in
      let new_l : length new.1.value ≡ length l.rows = new_p ∙ long in
      let versions : versions_of (packed_versions l.key l.rows new.1.value) ≡ map ends (versions_of (packed_versions l.key l.rows old.value)) =
      sym (marked_alike p.key l.key p.rows l.rows marks.value old.value new.1.value fit fits new_p same) ∙ is.2 ∙ map_alike (versions_of (packed_versions p.key p.rows marks.value)) alike ∙ ap (map ends) same in
      record {
        whole = ap (λ (vs : List Version). content.Compressed vs) versions;
        rows = rooted_marked l.key l.rows old.value new.1.value fits new_l;
        shown = refl;
        opened = refl;
        fits = new_l;
      }

  -- what becomes of a group
  pub record IsFlushed (g h : Group) : Type 0 where
    pub whole : group_of h ≡ flushed_group ids buffer lent (group_of g)
    pub id : h.id ≡ g.id
    pub rows : map rooted (rowed_in_content h.content) ≡ map rooted (rowed_in_content g.content)
    pub shown : is_listed h.content ≡ is_listed g.content
    pub opened : opens h ≡ opens g
    pub fits : Fits h

  other_flushed : (g : Group) → is_id_of ids (group_of g) ≡ false → Fits g → IsFlushed g g
  other_flushed g not_it fits = record { whole = rw not_it refl; id = refl; rows = refl; shown = refl; opened = refl; fits = fits }

  source_flushed : (g : Group) (new : ℕ × Arc Marks Global) → is_id_of ids (group_of g) ≡ true → IsEnded g.content (with_marks new.1 g.content) → IsFlushed g (record g { content = with_marks new.1 g.content })
  source_flushed g new source is =
      let changed = is.whole in
      record { whole = rw source (λ i. record { id = g.id; content = changed i }); id = refl; rows = is.rows; shown = is.shown; opened = is.opened; fits = is.fits }

  -- ---- all groups

  groups_flushed : (gs : List Group) (parts : List Part) (marks : List (ℕ × Arc Marks Global)) → map part_versions parts ≡ map group_versions (filter (is_id_of ids) (map group_of gs)) → AllZip (IsMarkedOf claim) parts marks
      → AllByRecursion (λ (p : Part). list_any (λ id. id == p.0) ids ≡ true) parts → AllByRecursion Fits gs → AllByRecursion (λ (p : Part). IsFitting p.1) parts
      → AllByRecursion (λ (p : Part). AllByRecursion Alike (versions_in p.1)) parts → AllZip IsFlushed gs (marked_by marks gs)
  groups_flushed [] parts [] same zip named fits fit alike = tt
  groups_flushed [] parts (m ∷ marks) same zip named fits fit alike = tt
  groups_flushed (g ∷ gs) parts marks same zip named fits fit alike =
      step (is_id_of ids (group_of g)) refl parts marks same zip named fit alike (λ ps ms s z n f a. groups_flushed gs ps ms s z n fits.1 f a)
    where
      step : (s : Bool) → is_id_of ids (group_of g) ≡ s → (ps : List Part) (ms : List (ℕ × Arc Marks Global)) → map part_versions ps ≡ map group_versions (filter (is_id_of ids) (group_of g ∷ map group_of gs)) → AllZip (IsMarkedOf claim) ps ms
          → AllByRecursion (λ (p : Part). list_any (λ id. id == p.0) ids ≡ true) ps → AllByRecursion (λ (p : Part). IsFitting p.1) ps
          → AllByRecursion (λ (p : Part). AllByRecursion Alike (versions_in p.1)) ps
          → ((qs : List Part) (ns : List (ℕ × Arc Marks Global)) → map part_versions qs ≡ map group_versions (filter (is_id_of ids) (map group_of gs)) → AllZip (IsMarkedOf claim) qs ns
          → AllByRecursion (λ (p : Part). list_any (λ id. id == p.0) ids ≡ true) qs → AllByRecursion (λ (p : Part). IsFitting p.1) qs
          → AllByRecursion (λ (p : Part). AllByRecursion Alike (versions_in p.1)) qs → AllZip IsFlushed gs (marked_by ns gs))
          → AllZip IsFlushed (g ∷ gs) (marked_by ms (g ∷ gs))
      step s is [] (m ∷ ms) same zip named fit alike rest = absurd zip
      step s is (p ∷ ps) [] same zip named fit alike rest = absurd zip
      step true is [] [] same zip named fit alike rest = absurd (let h = rw is at same in cc h)
      step false is [] [] same zip named fit alike rest = (other_flushed g is fits.0, rest [] [] (rw is at same) tt tt tt tt)
      step s is ((id, part.Store store) ∷ ps) (m ∷ ms) same zip named fit alike rest = absurd zip.0
      step true is ((id, part.Packed group mark) ∷ ps) (m ∷ ms) same zip named fit alike rest =
          let both = rw is at same in
          let heads : ◌≡◌ {A = ℕ × List Version} (id, versions_in (part.Packed group mark)) (g.id, frozen_in (content_of g.content)) = cc both in
          let numbers : id ≡ g.id = ap (λ (x : ℕ × List Version). x.0) heads in
          let test : (g.id == m.0) ≡ true = let first = zip.0.0 in grind (arith, nat_tests) in
          let tails : map part_versions ps ≡ map group_versions (filter (is_id_of ids) (map group_of gs)) = cc both in
          rw test (
            source_flushed g m is (source_ended g.content id group mark m fits.0 fit.0 zip.0 (ap (λ (x : ℕ × List Version). x.1) heads) alike.0),
            rest ps ms tails zip.1 named.1 fit.1 alike.1,
          )
      step false is ((id, part.Packed group mark) ∷ ps) (m ∷ ms) same zip named fit alike rest =
          rw (other (g.id == m.0) refl) (other_flushed g is fits.0, rest ((id, part.Packed group mark) ∷ ps) (m ∷ ms) (rw is at same) zip named fit alike)
        where
          other : (t : Bool) → (g.id == m.0) ≡ t → t ≡ false
          other true alike_id = cc (sym (ap (λ n. list_any (λ x. x == n) ids) (eqb-true g.id m.0 alike_id ∙ zip.0.0)) ∙ is, named.0)
          other false apart = refl

-- ---- what follows

module _ (claim : Claim) (ids : List ℕ) (buffer : List Ending) where
  abbrev Into : Group → Group → Type 0
  Into g h = IsFlushed claim ids buffer g h

  pub book_flushed : (gs hs : List Group) → AllZip Into gs hs → map group_of hs ≡ map (flushed_group ids buffer (lent_entries claim)) (map group_of gs)
  book_flushed [] [] zip = refl
  book_flushed [] (h ∷ hs) zip = absurd zip
  book_flushed (g ∷ gs) [] zip = absurd zip
  book_flushed (g ∷ gs) (h ∷ hs) zip = (let first = zip.0.whole in let rest = book_flushed gs hs zip.1 in λ i. first i ∷ rest i)

  pub rooted_flushed : (gs hs : List Group) → AllZip Into gs hs → rooted_in hs ≡ rooted_in gs
  rooted_flushed [] [] zip = refl
  rooted_flushed [] (h ∷ hs) zip = absurd zip
  rooted_flushed (g ∷ gs) [] zip = absurd zip
  rooted_flushed (g ∷ gs) (h ∷ hs) zip = step (is_listed g.content) refl (rooted_flushed gs hs zip.1)
    where
      step : (t : Bool) → is_listed g.content ≡ t → rooted_in hs ≡ rooted_in gs → rooted_in (h ∷ hs) ≡ rooted_in (g ∷ gs)
      step true is rest = rw (zip.0.shown ∙ is, is) (let number = zip.0.id in let rows = zip.0.rows in λ i. (number i, rows i) ∷ rest i)
      step false is rest = rw (zip.0.shown ∙ is, is) rest

  pub opens_flushed : (gs hs : List Group) → AllZip Into gs hs → map opens gs ≡ map opens hs
  opens_flushed [] [] zip = refl
  opens_flushed [] (h ∷ hs) zip = absurd zip
  opens_flushed (g ∷ gs) [] zip = absurd zip
  opens_flushed (g ∷ gs) (h ∷ hs) zip = (let first = sym zip.0.opened in let rest = opens_flushed gs hs zip.1 in λ i. first i ∷ rest i)

  pub fits_flushed : (gs hs : List Group) → AllZip Into gs hs → AllByRecursion Fits hs
  fits_flushed [] [] zip = tt
  fits_flushed [] (h ∷ hs) zip = absurd zip
  fits_flushed (g ∷ gs) [] zip = absurd zip
  fits_flushed (g ∷ gs) (h ∷ hs) zip = (zip.0.fits, fits_flushed gs hs zip.1)

-- ---- the list

length_marked : (marks : List (ℕ × Arc Marks Global)) (gs : List Group) → length (marked_by marks gs) ≡ length gs
length_marked [] gs = refl
length_marked (mark ∷ marks) [] = refl
length_marked (mark ∷ marks) (g ∷ gs) = step (g.id == mark.0) (length_marked marks gs) (length_marked (mark ∷ marks) gs)
  where
    step : (t : Bool) → length (marked_by marks gs) ≡ length gs → length (marked_by (mark ∷ marks) gs) ≡ length gs
        → length (cond t (record g { content = with_marks mark.1 g.content } ∷ marked_by marks gs) (g ∷ marked_by (mark ∷ marks) gs)) ≡ suc (length gs)
    step true used rest = ap suc used
    step false used rest = ap suc rest

pub marked_items : {A : Type 0} (v : Vec Group A) (ws slice : List Group) (given marks : List (ℕ × Arc Marks Global)) → length v.items ≡ v.len → ws ≡ marked_by given slice → slice ≡ v.items → given ≡ marks
    → (with_items v ws).items ≡ marked_by marks v.items
marked_items v ws slice given marks long is same those =
    with_items_is v ws (ap (λ (l : List Group). length l) is ∙ length_marked given slice ∙ ap (λ (l : List Group). length l) same ∙ long)
    ∙ is ∙ ap (λ (l : List (ℕ × Arc Marks Global)). marked_by l slice) those ∙ ap (marked_by marks) same

named_more : (x : ℕ) (ids : List ℕ) (parts : List Part) → AllByRecursion (λ (p : Part). list_any (λ id. id == p.0) ids ≡ true) parts → AllByRecursion (λ (p : Part). list_any (λ id. id == p.0) (x ∷ ids) ≡ true) parts
named_more x ids [] all = tt
named_more x ids (p ∷ parts) all = (step (x == p.0), named_more x ids parts all.1)
  where
    step : (t : Bool) → (t || list_any (λ id. id == p.0) ids) ≡ true
    step true = refl
    step false = all.0

all_named : (parts : List Part) → AllByRecursion (λ (p : Part). list_any (λ id. id == p.0) (ids_of parts) ≡ true) parts
all_named [] = tt
all_named (p ∷ parts) = ((let same : (p.0 == p.0) ≡ true = grind (arith, nat_tests) in rw same refl), named_more p.0 (ids_of parts) parts (all_named parts))

by_part : (P : Version → Type 0) (parts : List Part) → AllByRecursion P (versions_of (flat_map (λ (p : Part). rowed_in p.1) parts)) → AllByRecursion (λ (p : Part). AllByRecursion P (versions_in p.1)) parts
by_part P [] all = tt
by_part P (p ∷ parts) all =
    let split : AllByRecursion P (versions_in p.1 ++ versions_of (flat_map (λ (q : Part). rowed_in q.1) parts)) = subst (AllByRecursion P) (map-append (λ (rowed : Rowed). rowed.version) (rowed_in p.1) (flat_map (λ (q : Part). rowed_in q.1) parts)) all in
    (all-left P (versions_in p.1) (versions_of (flat_map (λ (q : Part). rowed_in q.1) parts)) split, by_part P parts (all-right P (versions_in p.1) (versions_of (flat_map (λ (q : Part). rowed_in q.1) parts)) split))

module _ (old new : GroupList) (actor : Actor) (held : Actor × Claim) (marks : List (ℕ × Arc Marks Global)) (is : held_by actor old.claims.items ≡ Some held) (may : MayMark old held marks) (keeps : IsHeld old)
    (groups : new.groups.items ≡ marked_by marks old.groups.items) (claims : new.claims.items ≡ filter (λ (other : Actor × Claim). not (same_actor other.0 actor)) old.claims.items) where
  abbrev parts : List Part
  parts = held.1.view.groups

  abbrev marked : List Group
  marked = marked_by marks old.groups.items

  abbrev present : List Ending
  present = endings_of old.buffer.entries

  zipped : AllZip (IsFlushed held.1 (ids_of parts) present) old.groups.items marked
  zipped = groups_flushed held.1 (ids_of parts) present old.groups.items parts marks may.lent may.product.1 (all_named parts) (recursion_from_All Fits old.groups.items keeps.fitting)
      (recursion_from_All (λ (p : Part). IsFitting p.1) parts (All-contains Lends old.claims.items held keeps.lent (held_there actor old.claims.items held is).0))
      (by_part (λ (v : Version). flushed (buffer_of held.1.view) (lent_entries held.1) v ≡ flushed present (lent_entries held.1) v) parts (recursion_from_All (λ (v : Version). flushed (buffer_of held.1.view) (lent_entries held.1) v ≡ flushed present (lent_entries held.1) v) (versions_of (rowed_of held.1.view)) may.alike))

  pub marked_held : new.opened ≡ old.opened → IsHeld new
  marked_held opened = record {
    fitting = subst (All Fits) (sym groups) (All-from_recursion Fits marked (fits_flushed held.1 (ids_of parts) present old.groups.items marked zipped));
    opened = subst (IsOpenAt new.groups.items) (sym opened) (subst (λ (gs : List Group). IsOpenAt gs old.opened) (sym groups) (open_alike old.groups.items marked old.opened (opens_flushed held.1 (ids_of parts) present old.groups.items marked zipped) keeps.opened));
    lent = subst (All Lends) (sym claims) (All-filter (λ (other : Actor × Claim). not (same_actor other.0 actor)) Lends old.claims.items keeps.lent);
  }

  pub marked_rows : rooted_in new.groups.items ≡ rooted_in old.groups.items
  marked_rows = ap rooted_in groups ∙ rooted_flushed held.1 (ids_of parts) present old.groups.items marked zipped

  pub marked_book : new.buffer.entries ≡ without held.1.entries old.buffer.entries → new.next ≡ old.next → book_of new ≡ after_flush (claim_of held) (book_of old)
  marked_book buffer next =
      book_is (book_of new) (after_flush (claim_of held) (book_of old))
      (ap (map group_of) groups ∙ book_flushed held.1 (ids_of parts) present old.groups.items marked zipped)
      (ap endings_of buffer ∙ endings_without held.1.entries old.buffer.entries ∙ ap (λ (gone : List Ending). without_entries gone present) may.entries)
      (claims_left actor old.claims.items new.claims.items held is claims)
      next
