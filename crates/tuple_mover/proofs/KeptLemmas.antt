-- The versions that a new group keeps, one after the other.
use Rattle.std.proofs.Common.{◌≡◌, ℕ, zero, suc, ◌+◌, ◌<◌, Bool, true, false, cond, not, List, [], ◌∷◌, ◌++◌, map, take, get_or, length, Option, Some, None, refl, sym, ap, subst, ◌∙◌, arith}
use Rattle.std.specs.Prelude.{slice_get}
use Rattle.std.specs.List.{All, AllByRecursion, flat_map}
use Rattle.std.specs.Option.{option_map}
use Rattle.std.proofs.lemmas.List.{append-nil, append_assoc, get_or-map, length-map, length-take-le, map-append, take_more}
use Rattle.std.proofs.lemmas.List.Concat.{flat_map-append}
use Rattle.std.proofs.lemmas.List.Elements.{All-push, All-weaker, recursion_from_All, filter-append, filter_more}
use Rattle.std.proofs.lemmas.Option.{same_Some}
use Rattle.row_group.specs.Rows.{PackedRow, padded_row}
use Rattle.row_group.specs.Groups.{Group, row_at}
use Rattle.row_group.specs.Packings.{Packing, padded_at}
use Rattle.row_group.proofs.ShownLemmas.{map-map}
use Rattle.delete_bitmap.specs.declared.MarkedEnd.{MarkedEnd}
use Rattle.delete_bitmap.specs.Marks.{end_at}
use Rattle.delta_store.specs.declared.version.KeyedVersion.{KeyedVersion}
use Rattle.cs_types.specs.declared.row.Version.{Version as Stored}
use Rattle.group_book.specs.Book.{End, Version, Ending}
use Rattle.group_book.specs.Book.End.{At}
use Rattle.group_view.specs.declared.parts.GroupPart.{GroupPart}
use Rattle.group_view.specs.Parts.{Rowed, end_of_mark, rowed_in, packed_version, packed_versions, stored_versions}
use Rattle.group_view.proofs.Versions.{version_in, packed_read, packed_within}
use Rattle.tuple_mover.specs.declared.kept.Kept.{Kept}
use Rattle.tuple_mover.specs.Kept.{HasKept, is_left_out, kept_of, rowed_at, packed_row, number_of, placed_end, placed_ends, StandIn}

-- what is read at a position is the version there
pub version-read : (rowed : List Rowed) (position : ℕ) (version : Version) → version_in rowed position ≡ Some version → let found : Rowed = rowed_at rowed position in found.version ≡ version
version-read [] position version is = cc
version-read (first ∷ rowed) zero version is = same_Some first.version version is
version-read (first ∷ rowed) (suc position) version is = version-read rowed position version is

pub rowed-read : (rowed : List Rowed) (position : ℕ) (version : Rowed) → slice_get rowed position ≡ Some version → rowed_at rowed position ≡ version
rowed-read [] position version is = cc
rowed-read (first ∷ rowed) zero version is = same_Some first version is
rowed-read (first ∷ rowed) (suc position) version is = rowed-read rowed position version is

-- ---- one version

module _ (floor : ℕ) (buffer : List Ending) (rowed : List Rowed) (i : ℕ) where
  abbrev next : Rowed
  next = rowed_at rowed i

  -- the version at a position is kept exactly where it is not left out
  pub kept-there : (version : Version) → version_in rowed i ≡ Some version → (out : Bool) → out ≡ is_left_out floor buffer version → kept_of floor buffer (next ∷ []) ≡ cond out [] (next ∷ [])
  kept-there version is out same = ap (λ (t : Bool). cond (not t) (next ∷ []) []) (ap (is_left_out floor buffer) (version-read rowed i version is) ∙ sym same) ∙ turned out
    where
      turned : (t : Bool) → cond (not t) (next ∷ []) [] ≡ cond t [] (next ∷ [])
      turned true = refl
      turned false = refl

  pub kept-next : i < length rowed → kept_of floor buffer (take (i + 1) rowed) ≡ kept_of floor buffer (take i rowed) ++ kept_of floor buffer (next ∷ [])
  kept-next there = filter_more (λ (v : Rowed). not (is_left_out floor buffer v.version)) rowed i (rowed_at [] 0) there

  module _ (there : i < length rowed) (positions : List ℕ) (stand : StandIn rowed (kept_of floor buffer (take i rowed)) positions) where
    pub stand-out : kept_of floor buffer (next ∷ []) ≡ [] → StandIn rowed (kept_of floor buffer (take (i + 1) rowed)) positions
    stand-out none =
        subst (λ (kept : List Rowed). StandIn rowed kept positions) (sym (kept-next there ∙ ap (λ (more : List Rowed). kept_of floor buffer (take i rowed) ++ more) none ∙ append-nil (kept_of floor buffer (take i rowed)))) stand

    pub stand-more : kept_of floor buffer (next ∷ []) ≡ next ∷ [] → StandIn rowed (kept_of floor buffer (take (i + 1) rowed)) (positions ++ i ∷ [])
    stand-more one = record {
      within = All-push (λ (p : ℕ). p < length rowed) positions i stand.within there;
      are =
          map-append (rowed_at rowed) positions (i ∷ []) ∙ ap (λ (kept : List Rowed). kept ++ next ∷ []) stand.are
          ∙ sym (kept-next there ∙ ap (λ (more : List Rowed). kept_of floor buffer (take i rowed) ++ more) one);
    }

-- ---- ends with their places

pub placed-append : (place : ℕ) (first more : List Rowed) → placed_ends place (first ++ more) ≡ placed_ends place first ++ placed_ends (place + length first) more
placed-append place [] more = let same : place ≡ place + 0 = omega arith in ap (λ (n : ℕ). placed_ends n more) same
placed-append place (version ∷ first) more =
    let ends = placed_end place (number_of version.version.end) in
    let same : place + 1 + length first ≡ place + length (version ∷ first) = omega arith in
    ap (λ (rest : List (ℕ × ℕ)). ends ++ rest) (placed-append (place + 1) first more ∙ ap (λ (n : ℕ). placed_ends (place + 1) first ++ placed_ends n more) same)
    ∙ sym (append_assoc ends (placed_ends (place + 1) first) (placed_ends (place + length (version ∷ first)) more))

-- the end of the version at a position more
pub placed-more : (first : ℕ) (rowed : List Rowed) (i : ℕ) → i < length rowed → placed_ends first (take (i + 1) rowed) ≡ placed_ends first (take i rowed) ++ placed_end (first + i) (number_of (let version : Rowed = rowed_at rowed i in version.version.end))
placed-more first rowed i there =
    let next : Rowed = rowed_at rowed i in
    let before = placed_ends first (take i rowed) in
    ap (placed_ends first) (take_more rowed i (rowed_at [] 0) there)
    ∙ placed-append first (take i rowed) (next ∷ [])
    ∙ ap (λ (n : ℕ). before ++ placed_ends (first + n) (next ∷ [])) (length-take-le i rowed (omega (arith, there)))
    ∙ ap (λ (more : List (ℕ × ℕ)). before ++ more) (append-nil (placed_end (first + i) (number_of next.version.end)))

pub stored-number : (end : Option ℕ) → number_of (option_map At end) ≡ end
stored-number None = refl
stored-number (Some number) = refl

-- the end of the version at a position is the one that the bitmap has there
pub marked-number : (rowed : List Rowed) (marks : List (Option MarkedEnd)) (positions : List ℕ) (i : ℕ) → i < length positions
    → map (λ (v : Rowed). v.version.end) rowed ≡ map (λ (position : ℕ). end_of_mark (end_at marks position)) positions
    → (i < length rowed) × (end_of_mark (end_at marks (get_or positions i 0)) ≡ (let version : Rowed = rowed_at rowed i in version.version.end))
marked-number rowed marks positions i there same =
    let many : length rowed ≡ length positions = sym (length-map rowed (λ (v : Rowed). v.version.end)) ∙ ap length same ∙ length-map positions (λ (position : ℕ). end_of_mark (end_at marks position)) in
    let inside : i < length rowed = omega (arith, there, many) in (
      inside,
      sym (get_or-map (λ (position : ℕ). end_of_mark (end_at marks position)) positions i 0 None there) ∙ ap (λ (ends : List (Option End)). get_or ends i None) (sym same) ∙ get_or-map (λ (v : Rowed). v.version.end) rowed i (rowed_at [] 0) None inside,
    )

-- ---- rows

pub same-within : {X Y : Type 0} (P : X → Type 0) (f g : X → Y) → ((x : X) → P x → f x ≡ g x) → (xs : List X) → All P xs → map f xs ≡ map g xs
same-within {X = X} {Y = Y} P f g same xs all = each xs (recursion_from_All P xs all)
  where
    each : (xs : List X) → AllByRecursion P xs → map f xs ≡ map g xs
    each [] all = refl
    each (x ∷ xs) all = ap (λ (y : Y). y ∷ map f xs) (same x all.0) ∙ ap (λ (ys : List Y). g x ∷ ys) (each xs all.1)

-- a row of a packed group goes into another one with a cell for each of its columns
pub packed-same : (width : ℕ) (group : Group) (marks : List (Option MarkedEnd)) (position : ℕ) → position < length (packed_versions group.key group.rows marks)
    → padded_at width group position ≡ packed_row width (rowed_at (packed_versions group.key group.rows marks) position)
packed-same width group marks position there =
    let row = row_at group position in
    let read = rowed-read (packed_versions group.key group.rows marks) position (packed_version group.key row (end_at marks position)) (packed_read group marks position there) in
    sym (ap (packed_row width) read)

pub stored-same : (width : ℕ) (store : List KeyedVersion) (position : ℕ) (stored : Stored) → option_map (λ (v : KeyedVersion). v.version) (slice_get store position) ≡ Some stored
    → padded_row width stored.row stored.begin ≡ packed_row width (rowed_at (stored_versions store) position)
stored-same width [] position stored is = cc
stored-same width (first ∷ store) zero stored is = ap (λ (v : Stored). padded_row width v.row v.begin) (sym (same_Some first.version stored is))
stored-same width (first ∷ store) (suc position) stored is = stored-same width store position stored is

pub positions-within : (group : Group) (marks : List (Option MarkedEnd)) (positions : List ℕ) → All (λ (position : ℕ). position < length (packed_versions group.key group.rows marks)) positions → All (λ (position : ℕ). position < length group.rows) positions
positions-within group marks positions within =
    All-weaker (λ (position : ℕ). position < length (packed_versions group.key group.rows marks)) (λ (position : ℕ). position < length group.rows) (λ position there. (packed_within group.key group.rows marks position there).0) positions within

-- the rows at positions where the kept versions stand
pub kept-rows : (width : ℕ) (group : Group) (marks : List (Option MarkedEnd)) (kept : List Rowed) (positions : List ℕ) → StandIn (packed_versions group.key group.rows marks) kept positions
    → map (padded_at width group) positions ≡ map (packed_row width) kept
kept-rows width group marks kept positions stand =
    let versions = packed_versions group.key group.rows marks in
    same-within (λ (position : ℕ). position < length versions) (padded_at width group) (λ (position : ℕ). packed_row width (rowed_at versions position)) (λ position there. packed-same width group marks position there) positions stand.within
    ∙ sym (map-map (rowed_at versions) (packed_row width) (λ (position : ℕ). packed_row width (rowed_at versions position)) (λ position. refl) positions)
    ∙ ap (map (packed_row width)) stand.are

-- the ends of the kept versions are those that the bitmap has at their positions
pub kept-ends : (group : Group) (marks : List (Option MarkedEnd)) (kept : List Rowed) (positions : List ℕ) → StandIn (packed_versions group.key group.rows marks) kept positions
    → map (λ (v : Rowed). v.version.end) kept ≡ map (λ (position : ℕ). end_of_mark (end_at marks position)) positions
kept-ends group marks kept positions stand =
    let versions = packed_versions group.key group.rows marks in
    let end_there : ℕ → Option End = λ position. let version : Rowed = rowed_at versions position in version.version.end in
    ap (map (λ (v : Rowed). v.version.end)) (sym stand.are)
    ∙ map-map (rowed_at versions) (λ (v : Rowed). v.version.end) end_there (λ position. refl) positions
    ∙ same-within (λ (position : ℕ). position < length versions) end_there (λ (position : ℕ). end_of_mark (end_at marks position))
    (λ position there. ap (λ (v : Rowed). v.version.end) (rowed-read versions position (packed_version group.key (row_at group position) (end_at marks position)) (packed_read group marks position there))) positions stand.within

-- more versions
pub has-more : (width : ℕ) (rowed more : List Rowed) (old new : Kept) → HasKept width rowed old → new.packer ≡ record old.packer { rows = old.packer.rows ++ map (packed_row old.packer.width) more }
    → new.ends.items ≡ old.ends.items ++ placed_ends (length old.packer.rows) more → HasKept width (rowed ++ more) new
has-more width rowed more old new had added ended =
    let start : 0 + length rowed ≡ length rowed = omega arith in
    record {
      columns = ap (λ (p : Packing). p.width) added ∙ had.columns;
      rows =
          ap (λ (p : Packing). p.rows) added
          ∙ ap (λ (w : ℕ). old.packer.rows ++ map (packed_row w) more) had.columns
          ∙ ap (λ (rows : List PackedRow). rows ++ map (packed_row width) more) had.rows
          ∙ sym (map-append (packed_row width) rowed more);
      ends =
          ended
          ∙ ap (λ (n : ℕ). old.ends.items ++ placed_ends n more) (ap length had.rows ∙ length-map rowed (packed_row width) ∙ sym start)
          ∙ ap (λ (ends : List (ℕ × ℕ)). ends ++ placed_ends (0 + length rowed) more) had.ends
          ∙ sym (placed-append 0 rowed more);
    }

-- none more
pub has-none : (width : ℕ) (rowed more : List Rowed) (kept : Kept) → more ≡ [] → HasKept width rowed kept → HasKept width (rowed ++ more) kept
has-none width rowed more kept none had = subst (λ (all : List Rowed). HasKept width all kept) (sym (append-nil rowed) ∙ ap (λ (rest : List Rowed). rowed ++ rest) (sym none)) had

-- ---- groups

pub kept-groups : (floor : ℕ) (buffer : List Ending) (groups : List (ℕ × GroupPart)) (i : ℕ) (d : ℕ × GroupPart) → i < length groups
    → kept_of floor buffer (flat_map (λ (group : ℕ × _). rowed_in group.1) (take (i + 1) groups)) ≡ kept_of floor buffer (flat_map (λ (group : ℕ × _). rowed_in group.1) (take i groups)) ++ kept_of floor buffer (rowed_in (get_or groups i d).1)
kept-groups floor buffer groups i d there =
    let part : ℕ × GroupPart = get_or groups i d in
    ap (λ (some : List (ℕ × GroupPart)). kept_of floor buffer (flat_map (λ (group : ℕ × _). rowed_in group.1) some)) (take_more groups i d there)
    ∙ ap (kept_of floor buffer) (flat_map-append (λ (group : ℕ × GroupPart). rowed_in group.1) (take i groups) (part ∷ []) ∙ ap (λ (more : List Rowed). flat_map (λ (group : ℕ × GroupPart). rowed_in group.1) (take i groups) ++ more) (append-nil (rowed_in part.1)))
    ∙ filter-append (λ (v : Rowed). not (is_left_out floor buffer v.version)) (flat_map (λ (group : ℕ × GroupPart). rowed_in group.1) (take i groups)) (rowed_in part.1)
