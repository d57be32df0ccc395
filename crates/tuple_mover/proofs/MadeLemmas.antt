-- The new group is made of the versions that are kept.
use Rattle.std.proofs.Common.{◌≡◌, ◌≢◌, ℕ, zero, suc, ◌+◌, ◌<◌, Bool, cond, not, List, [], ◌∷◌, map, get_or, length, Option, Some, None, inl, inr, refl, sym, ap, subst, ◌∙◌, arith}
use Rattle.std.specs.Prelude.{max}
use Rattle.std.specs.List.{All, Contains}
use Rattle.std.specs.List.Sorted.{IsPermutation}
use Rattle.std.proofs.lemmas.Bool.{cases_lt, lt-leb, le-leb}
use Rattle.std.proofs.lemmas.List.{length-map, get_or-map, get_or_default, same_lists}
use Rattle.std.proofs.lemmas.List.Elements.{All-map, All-weaker, All-filter, Contains-append_cases, Contains-append_left, Contains-append_right, Contains-get_or}
use Rattle.std.proofs.lemmas.List.Sorted.{IsPermutation-sym, length_permutation}
use Rattle.std.proofs.lemmas.Option.{same_Some}
use Rattle.cs_types.specs.declared.Schema.{Schema}
use Rattle.cs_types.specs.Rows.{padded}
use Rattle.cs_types.specs.Schemas.{IsRowOf}
use Rattle.delete_bitmap.specs.declared.MarkedEnd.{MarkedEnd}
use Rattle.delete_bitmap.specs.declared.MarkedEnd.TheVariants.{Stamped}
use Rattle.delete_bitmap.specs.Marks.{end_at}
use Rattle.row_group.specs.Rows.{PackedRow, begin_above, begun_above}
use Rattle.row_group.specs.Groups.{Group, row_at, HoldsRows}
use Rattle.row_group.specs.Packings.{StandAt}
use Rattle.group_book.specs.Book.{End}
use Rattle.group_book.specs.Book.End.{At, Plain}
use Rattle.group_book.specs.Turns.{raised}
use Rattle.group_view.specs.Parts.{Rowed, end_of_mark, packed_version, packed_versions}
use Rattle.group_view.specs.declared.claim.Claim.{Claim}
use Rattle.group_view.specs.Views.{buffer_of, rowed_of}
use Rattle.group_view.specs.Claims.{padded_rowed, kept_rowed, IsLentRow, IsMendable, IsPackedFor}
use Rattle.group_view.proofs.Versions.{length-packed_versions, packed_read}
use Rattle.tuple_mover.specs.declared.kept.Kept.{Kept}
use Rattle.tuple_mover.specs.Kept.{is_left_out, kept_of, HasKept, rowed_at, packed_row, number_of, placed_end, placed_ends, AreMarkedAt}
use Rattle.tuple_mover.proofs.KeptLemmas.{rowed-read}
use Rattle.tuple_mover.proofs.GroupLemmas.{all-taken}
use Rattle.tuple_mover.proofs.PlaceLemmas.{Place}
use Rattle.tuple_mover.proofs.EntryLemmas.{kept-is, kept-numbered}

-- a kept version: its row is the table's, and its end, if it has one, has a number
pub record IsKeptRow (schema : Schema) (rowed : Rowed) : Type 0 where
  pub lent : IsLentRow schema rowed
  pub numbered : rowed.version.end ≢ Some Plain

abbrev pub raised_rowed : ℕ → Rowed → Rowed
raised_rowed floor rowed = record rowed { version = raised floor rowed.version }

begin_raised : (floor begin : ℕ) → begin_above floor begin ≡ max floor begin
begin_raised floor begin = elim (cases_lt floor begin) [
  | inl above ↦ let is : max floor begin ≡ begin = omega (arith, above) in ap (λ (t : Bool). cond t floor begin) (lt-leb begin floor above) ∙ sym is
  | inr low ↦ let is : max floor begin ≡ floor = omega (arith, low) in ap (λ (t : Bool). cond t floor begin) (le-leb begin floor low) ∙ sym is
]

-- the end that a bitmap records with this number
abbrev mark_of : Option ℕ → Option MarkedEnd
mark_of None = None
mark_of (Some number) = Some (Stamped number)

end_marked : (end : Option End) → end ≢ Some Plain → end_of_mark (mark_of (number_of end)) ≡ end
end_marked None numbered = refl
end_marked (Some (At e)) numbered = refl
end_marked (Some Plain) numbered = absurd (numbered refl)

-- ---- ends with their places

abbrev number_at : List Rowed → ℕ → Option ℕ
number_at rowed k = let version : Rowed = rowed_at rowed k in number_of version.version.end

one-placed : (place : ℕ) (end : Option ℕ) (x : Place) → Contains (placed_end place end) x → (place ≡ x.0) × (end ≡ Some x.1)
one-placed place None x (k, inside, is) = absurd (omega (arith, inside))
one-placed place (Some number) x (zero, inside, is) = (ap (λ (p : Place). p.0) is, ap (λ (p : Place). Some p.1) is)
one-placed place (Some number) x (suc k, inside, is) = absurd (omega (arith, inside))

-- an end with a place is that of the version there
pub placed-of : (first : ℕ) (rowed : List Rowed) (x : Place) → Contains (placed_ends first rowed) x → (k : ℕ) × (k < length rowed) × (first + k ≡ x.0) × (number_at rowed k ≡ Some x.1)
placed-of first [] x inside = absurd (omega (arith, inside.1))
placed-of first (version ∷ rowed) x inside = elim (Contains-append_cases (placed_end first (number_of version.version.end)) (placed_ends (first + 1) rowed) x inside) [
  | inl here ↦ let (place, end) = one-placed first (number_of version.version.end) x here in (0, omega arith, omega (arith, place), end)
  | inr later ↦ let (k, there, place, end) = placed-of (first + 1) rowed x later in (suc k, omega (arith, there), omega (arith, place), end)
]

one-there : (place number : ℕ) (end : Option ℕ) → end ≡ Some number → Contains (placed_end place end) (place, number)
one-there place number None is = cc
one-there place number (Some n) is = (0, omega arith, λ i. (place, same_Some n number is i))

-- the end of a version stands with its place
pub placed-there : (first : ℕ) (rowed : List Rowed) (k number : ℕ) → k < length rowed → number_at rowed k ≡ Some number → Contains (placed_ends first rowed) (first + k, number)
placed-there first [] k number there is = absurd (omega (arith, there))
placed-there first (version ∷ rowed) zero number there is =
    let same : first ≡ first + 0 = omega arith in
    Contains-append_left (placed_end first (number_of version.version.end)) (placed_ends (first + 1) rowed) (first + 0, number) (subst (λ (n : ℕ). Contains (placed_end first (number_of version.version.end)) (n, number)) same (one-there first number (number_of version.version.end) is))
placed-there first (version ∷ rowed) (suc k) number there is =
    let same : first + 1 + k ≡ first + suc k = omega arith in
    Contains-append_right (placed_end first (number_of version.version.end)) (placed_ends (first + 1) rowed) (first + suc k, number)
    (subst (λ (n : ℕ). Contains (placed_ends (first + 1) rowed) (n, number)) same (placed-there (first + 1) rowed k number (omega (arith, there)) is))

pub placed-once : (rowed : List Rowed) (x y : Place) → Contains (placed_ends 0 rowed) x → Contains (placed_ends 0 rowed) y → x.0 ≡ y.0 → x.1 ≡ y.1
placed-once rowed x y in_x in_y same =
    let (i, there_i, place_i, end_i) = placed-of 0 rowed x in_x in
    let (j, there_j, place_j, end_j) = placed-of 0 rowed y in_y in
    let at : i ≡ j = omega (arith, place_i, place_j, same) in
    same_Some x.1 y.1 (sym end_i ∙ ap (number_at rowed) at ∙ end_j)

pub placed-within : (rowed : List Rowed) → All (λ (end : Place). end.0 < length rowed) (placed_ends 0 rowed)
placed-within rowed = λ k d l. let (i, there, place, end) = placed-of 0 rowed (get_or (placed_ends 0 rowed) k d) (Contains-get_or (placed_ends 0 rowed) k d l) in omega (arith, there, place)

-- one version in the new group
one_made : (schema : Schema) (floor : ℕ) (rowed : Rowed) → IsKeptRow schema rowed
    → packed_version schema.key (begun_above floor (packed_row (length schema.columns) rowed)) (mark_of (number_of rowed.version.end)) ≡ padded_rowed (length schema.columns) (raised_rowed floor rowed)
one_made schema floor rowed kept =
    (λ i. record {
      version = record { key = kept.lent.under i; begin = begin_raised floor rowed.version.begin i; end = end_marked rowed.version.end kept.numbered i };
      row = padded (length schema.columns) rowed.row;
    })

module _ (schema : Schema) (floor : ℕ) (rowed : List Rowed) (kept : All (IsKeptRow schema) rowed) where
  abbrev width : ℕ
  width = length schema.columns

  pub rows-fit : All (λ (row : PackedRow). IsRowOf schema row.cells) (map (packed_row width) rowed)
  rows-fit =
      All-map (λ (row : PackedRow). IsRowOf schema row.cells) (packed_row width) rowed
      (All-weaker (IsKeptRow schema) (λ (version : Rowed). IsRowOf schema (padded width version.row)) (λ version is. is.lent.row) rowed kept)

  abbrev given : List PackedRow
  given = map (begun_above floor) (map (packed_row width) rowed)

  module _ (group : Group) (holds : HoldsRows schema given floor group) (positions : List ℕ) (stand : StandAt given group positions) where
    as_given : length given ≡ length rowed
    as_given = length-map (map (packed_row width) rowed) (begun_above floor) ∙ length-map rowed (packed_row width)

    as_many : length positions ≡ length rowed
    as_many = sym (length-map positions (row_at group)) ∙ ap length stand.own ∙ as_given

    as_rows : length group.rows ≡ length rowed
    as_rows = length_permutation given group.rows holds.rows ∙ as_given

    pub places-within : All (λ (position : ℕ). position < length positions) positions
    places-within =
        All-weaker (λ (position : ℕ). position < length group.rows) (λ (position : ℕ). position < length positions) (λ position there. omega (arith, there, as_many, as_rows)) positions stand.within

    row_placed : (k : ℕ) (d : Rowed) → k < length positions → row_at group (get_or positions k 0) ≡ begun_above floor (packed_row width (get_or rowed k d))
    row_placed k d there =
        let e : PackedRow = record { cells = []; begin = 0 } in
        sym (get_or-map (row_at group) positions k 0 e there)
        ∙ ap (λ (rows : List PackedRow). get_or rows k e) stand.own
        ∙ get_or-map (begun_above floor) (map (packed_row width) rowed) k e e (omega (arith, there, as_many, length-map rowed (packed_row width)))
        ∙ ap (begun_above floor) (get_or-map (packed_row width) rowed k d e (omega (arith, there, as_many)))

    module _ (marks : List (Option MarkedEnd)) (are : AreMarkedAt (placed_ends 0 rowed) positions marks) where
      as_marks : length marks ≡ length group.rows
      as_marks = are.counted ∙ as_many ∙ sym as_rows

      mark_placed : (k : ℕ) → k < length positions → end_at marks (get_or positions k 0) ≡ mark_of (number_at rowed k)
      mark_placed k there = step (number_at rowed k) refl
        where
          start : 0 + k ≡ k
          start = omega arith

          step : (end : Option ℕ) → number_at rowed k ≡ end → end_at marks (get_or positions k 0) ≡ mark_of end
          step (Some number) is = are.ended k number (subst (λ (n : ℕ). Contains (placed_ends 0 rowed) (n, number)) start (placed-there 0 rowed k number (omega (arith, there, as_many)) is))
          step None is = are.others k there (λ number inside.
              let (i, there_i, place, end) = placed-of 0 rowed (k, number) inside in
              let same : i ≡ k = omega (arith, place) in
              differ number (sym is ∙ ap (number_at rowed) (sym same) ∙ end))
            where
              differ : (number : ℕ) → None ≡ Some number → ⊥
              differ number h = cc

      made_at : (k : ℕ) (d : Rowed) → k < length positions → rowed_at (packed_versions group.key group.rows marks) (get_or positions k 0) ≡ padded_rowed width (raised_rowed floor (get_or rowed k d))
      made_at k d there =
          let p = get_or positions k 0 in
          let version : Rowed = get_or rowed k d in
          let long = length-packed_versions group.key group.rows marks as_marks in
          let within : p < length (packed_versions group.key group.rows marks) = omega (arith, long, stand.within k 0 there) in
          let mark_there = mark_placed k there ∙ ap (λ (v : Rowed). mark_of (number_of v.version.end)) (get_or_default rowed k (rowed_at [] 0) d (omega (arith, there, as_many))) in
          rowed-read (packed_versions group.key group.rows marks) p (packed_version group.key (row_at group p) (end_at marks p)) (packed_read group marks p within)
          ∙ (λ i. packed_version (holds.key i) (row_placed k d there i) (mark_there i))
          ∙ one_made schema floor version (kept k d (omega (arith, there, as_many)))

      pub made-of : IsPermutation (map (padded_rowed width) (map (raised_rowed floor) rowed)) (packed_versions group.key group.rows marks)
      made-of =
          let versions = packed_versions group.key group.rows marks in
          let wanted = map (padded_rowed width) (map (raised_rowed floor) rowed) in
          let long : length versions ≡ length positions = length-packed_versions group.key group.rows marks as_marks ∙ as_rows ∙ sym as_many in
          let all : length wanted ≡ length rowed = length-map (map (raised_rowed floor) rowed) (padded_rowed width) ∙ length-map rowed (raised_rowed floor) in
          let same : map (rowed_at versions) positions ≡ wanted =
          same_lists (map (rowed_at versions) positions) wanted (length-map positions (rowed_at versions) ∙ as_many ∙ sym all)
          (λ k e l.
          let there : k < length positions = omega (arith, l, length-map positions (rowed_at versions)) in
          let m : k < length rowed = omega (arith, there, as_many) in
          get_or-map (rowed_at versions) positions k 0 e there ∙ made_at k e there
          ∙ sym (get_or-map (padded_rowed width) (map (raised_rowed floor) rowed) k e e (omega (arith, m, length-map rowed (raised_rowed floor))) ∙ ap (padded_rowed width) (get_or-map (raised_rowed floor) rowed k e e m))) in
          subst (λ (made : List Rowed). IsPermutation made versions) same
          (IsPermutation-sym versions (map (rowed_at versions) positions)
          (all-taken (rowed_at [] 0) (length positions) versions positions refl long places-within stand.apart))

-- ---- the group of a claim

some-kept : {X : Type 0} (xs : List X) → (xs ≡ [] → ⊥) → 0 < length xs
some-kept [] some = absurd (some refl)
some-kept (x ∷ xs) some = omega arith

-- the group and its bitmap are made of what the claim keeps
abbrev pub IsMade : Claim → Group → List (Option MarkedEnd) → Type 0
IsMade claim group marks =
    IsPermutation (map (padded_rowed (length claim.schema.value.columns)) (kept_rowed claim)) (packed_versions group.key group.rows marks)
    × (0 < length (kept_rowed claim))
    × IsPackedFor claim.schema.value group marks

module _ (claim : Claim) (is : IsMendable claim) where
  abbrev table : Schema
  table = claim.schema.value

  abbrev all : List Rowed
  all = rowed_of claim.view

  abbrev left : List Rowed
  left = kept_of claim.floor (buffer_of claim.view) all

  pub left-rows : All (IsKeptRow table) left
  left-rows = λ k d l. record {
    lent = All-filter (λ (version : Rowed). not (is_left_out claim.floor (buffer_of claim.view) version.version)) (IsLentRow table) all is.rows k d l;
    numbered = kept-numbered claim.floor (buffer_of claim.view) all k d l;
  }

  pub left-is : map (raised_rowed claim.floor) left ≡ kept_rowed claim
  left-is = ap (map (raised_rowed claim.floor)) (kept-is claim.floor (buffer_of claim.view) all is.ends)

  module _ (kept : Kept) (had : HasKept (length table.columns) left kept) where
    pub left-fit : All (λ (row : PackedRow). IsRowOf table row.cells) kept.packer.rows
    left-fit = subst (λ (rows : List PackedRow). All (λ (row : PackedRow). IsRowOf table row.cells) rows) (sym had.rows) (rows-fit table claim.floor left left-rows)

    pub none-left : kept.packer.rows ≡ [] → kept_rowed claim ≡ []
    none-left none = sym left-is ∙ ap (map (raised_rowed claim.floor)) (unmapped left (sym had.rows ∙ none))
      where
        unmapped : (rowed : List Rowed) → map (packed_row (length table.columns)) rowed ≡ [] → rowed ≡ []
        unmapped [] empty = refl
        unmapped (first ∷ rowed) empty = cc

    pub some-left : (kept.packer.rows ≡ [] → ⊥) → 0 < length (kept_rowed claim)
    some-left some =
        let one = some-kept kept.packer.rows some in
        omega (arith, one, ap length had.rows, length-map left (packed_row (length table.columns)), ap length left-is, length-map left (raised_rowed claim.floor))

    pub left-once : (x y : Place) → Contains kept.ends.items x → Contains kept.ends.items y → x.0 ≡ y.0 → x.1 ≡ y.1
    left-once = subst (λ (ends : List Place). (x y : Place) → Contains ends x → Contains ends y → x.0 ≡ y.0 → x.1 ≡ y.1) (sym had.ends) (placed-once left)

    module _ (group : Group) (positions : List ℕ) (holds : HoldsRows table (map (begun_above claim.floor) kept.packer.rows) claim.floor group) (stand : StandAt (map (begun_above claim.floor) kept.packer.rows) group positions) where
      holds_left : HoldsRows table (map (begun_above claim.floor) (map (packed_row (length table.columns)) left)) claim.floor group
      holds_left = subst (λ (rows : List PackedRow). HoldsRows table (map (begun_above claim.floor) rows) claim.floor group) had.rows holds

      stand_left : StandAt (map (begun_above claim.floor) (map (packed_row (length table.columns)) left)) group positions
      stand_left = subst (λ (rows : List PackedRow). StandAt (map (begun_above claim.floor) rows) group positions) had.rows stand

      as_left : length positions ≡ length left
      as_left = sym (length-map positions (row_at group)) ∙ ap length stand.own ∙ length-map kept.packer.rows (begun_above claim.floor) ∙ ap length had.rows ∙ length-map left (packed_row (length table.columns))

      pub left-places : All (λ (end : Place). end.0 < length positions) kept.ends.items
      left-places =
          subst (λ (ends : List Place). All (λ (end : Place). end.0 < length positions) ends) (sym had.ends)
          (All-weaker (λ (end : Place). end.0 < length left) (λ (end : Place). end.0 < length positions) (λ end below. omega (arith, below, as_left)) (placed_ends 0 left) (placed-within left))

      pub left-within : All (λ (position : ℕ). position < length positions) positions
      left-within = places-within table claim.floor left left-rows group holds_left positions stand_left

      pub made-group : (marks : List (Option MarkedEnd)) → AreMarkedAt kept.ends.items positions marks → (kept.packer.rows ≡ [] → ⊥) → IsMade claim group marks
      made-group marks are some =
          let are_left = subst (λ (ends : List Place). AreMarkedAt ends positions marks) had.ends are in
          let made = made-of table claim.floor left left-rows group holds_left positions stand_left marks are_left in
          let rows = length_permutation (map (begun_above claim.floor) kept.packer.rows) group.rows holds.rows in (
            subst (λ (kept : List Rowed). IsPermutation (map (padded_rowed (length table.columns)) kept) (packed_versions group.key group.rows marks)) left-is made,
            some-left some,
            record {
              packed = record { order = holds.order; width = holds.width; key = holds.key };
              fitting = are.counted ∙ sym (length-map positions (row_at group)) ∙ ap length stand.own ∙ sym rows;
            },
          )
