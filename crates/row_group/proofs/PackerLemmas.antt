-- Rows that fit, and where they stand in a group.
use Rattle.std.proofs.Common.{◌≡◌, ℕ, ◌+◌, ◌<◌, List, [], ◌∷◌, ◌++◌, length, map, get_or, take, refl, sym, ◌∙◌, ap, arith, Bool, true, false, not, cond}
use Rattle.std.specs.List.{All, filter}
use Rattle.std.proofs.lemmas.List.{length-map, get_or-map, get_or_default, same_lists, map-append, take_more}
use Rattle.std.proofs.lemmas.List.Elements.{All-map, All-filter, filter-append}
use Rattle.cs_types.specs.declared.Schema.{Schema}
use Rattle.cs_types.specs.declared.row.Version.{Version}
use Rattle.cs_types.specs.Schemas.{IsRowOf}
use Rattle.cs_types.proofs.PaddedLemmas.{padded_fits}
use Rattle.row_group.specs.Rows.{PackedRow, row_of, ended_by, raised, repacked, begun_above}
use Rattle.row_group.specs.Groups.{Group, row_at}
use Rattle.row_group.specs.Packings.{IsOrderedBy, ArePlacesIn, StandAt}
use Rattle.row_group.proofs.OrderLemmas.{length-range}
use Rattle.row_group.proofs.ShownLemmas.{map-map}

-- each row stands where the order has its place
module _ (rows : List PackedRow) (order positions : List ℕ) (group : Group) (ordered : IsOrderedBy rows order group) (are : ArePlacesIn order positions) where
  as_many : length positions ≡ length rows
  as_many = are.0 ∙ length-range (length rows) order ordered.all

  rows_many : length group.rows ≡ length order
  rows_many = ap length ordered.by_place ∙ length-map order (λ i. get_or rows i (record { cells = []; begin = 0 }))

  row-placed : (k : ℕ) → k < length order → row_at group (get_or positions k 0) ≡ get_or rows k (record { cells = []; begin = 0 })
  row-placed k l =
      let (within, own) = are.1 k l in
      let d : PackedRow = record { cells = []; begin = 0 } in
      ap (λ (all : List PackedRow). get_or all (get_or positions k 0) d) ordered.by_place
      ∙ get_or-map (λ i. get_or rows i d) order (get_or positions k 0) 0 d within ∙ ap (λ i. get_or rows i d) own

  pub stand-at : StandAt rows group positions
  stand-at = record {
    own = same_lists (map (row_at group) positions) rows (length-map positions (row_at group) ∙ as_many)
        (λ k e l.
        let m : k < length positions = omega (arith, l, length-map positions (row_at group)) in
        get_or-map (row_at group) positions k 0 e m ∙ row-placed k (omega (arith, m, are.0))
        ∙ get_or_default rows k (record { cells = []; begin = 0 }) e (omega (arith, m, as_many)));
    within = λ k e l.
        let m : k < length order = omega (arith, l, are.0) in
        omega (arith, get_or_default positions k e 0 l, (are.1 k m).0, rows_many);
    apart = λ i j e less l same.
        let m : j < length order = omega (arith, l, are.0) in
        let p : get_or positions i 0 ≡ get_or positions j 0 = get_or_default positions i 0 e (omega arith) ∙ same ∙ get_or_default positions j e 0 l in
        let q : i ≡ j = sym (are.1 i (omega (arith, less, m))).1 ∙ ap (λ k. get_or order k 0) p ∙ (are.1 j m).1 in
        omega (arith, less, q);
  }

-- one version, kept or not
pub kept-filter : (floor : ℕ) (v : Version) (b : Bool) → ended_by floor v.end ≡ b → filter (λ (w : Version). not (ended_by floor w.end)) (v ∷ []) ≡ cond b [] (v ∷ [])
kept-filter floor v true e = ap (λ b. cond (not b) (v ∷ []) []) e
kept-filter floor v false e = ap (λ b. cond (not b) (v ∷ []) []) e

-- one version more
pub kept-more : (width floor : ℕ) (versions : List Version) (place : ℕ) (d : Version) (rows : List PackedRow) → place < length versions → rows ≡ map (row_of width) (filter (λ (v : Version). not (ended_by floor v.end)) (take place versions)) → rows ++ map (row_of width) (filter (λ (v : Version). not (ended_by floor v.end)) (get_or versions place d ∷ [])) ≡ map (row_of width) (filter (λ (v : Version). not (ended_by floor v.end)) (take (place + 1) versions))
kept-more width floor versions place d rows there e =
    let test = λ (v : Version). not (ended_by floor v.end) in
    let before = take place versions in
    let next = get_or versions place d ∷ [] in
    ap (λ (all : List PackedRow). all ++ map (row_of width) (filter test next)) e
    ∙ sym (map-append (row_of width) (filter test before) (filter test next))
    ∙ ap (map (row_of width)) (sym (filter-append test before next))
    ∙ ap (λ vs. map (row_of width) (filter test vs)) (sym (take_more versions place d there))

-- the rows of versions that fit do
pub kept-fits : (schema : Schema) (versions : List Version) (floor : ℕ) → All (λ version. IsRowOf schema version.row) versions → All (λ row. IsRowOf schema row.cells) (map (row_of (length schema.columns)) (filter (λ (v : Version). not (ended_by floor v.end)) versions))
kept-fits schema versions floor fit =
    let test = λ (v : Version). not (ended_by floor v.end) in
    All-map (λ (row : PackedRow). IsRowOf schema row.cells) (row_of (length schema.columns)) (filter test versions)
    (λ k d l. padded_fits schema (get_or (filter test versions) k d).row (All-filter test (λ (version : Version). IsRowOf schema version.row) versions fit k d l))

-- begins are raised in rows as in versions
pub kept-raised : (width floor : ℕ) (versions : List Version) → map (begun_above floor) (map (row_of width) (filter (λ (v : Version). not (ended_by floor v.end)) versions)) ≡ map (row_of width) (repacked versions floor)
kept-raised width floor versions =
    let kept = filter (λ (v : Version). not (ended_by floor v.end)) versions in
    map-map (row_of width) (begun_above floor) (λ v. row_of width (raised floor v)) (λ v. refl) kept
    ∙ sym (map-map (raised floor) (row_of width) (λ v. row_of width (raised floor v)) (λ v. refl) kept)
