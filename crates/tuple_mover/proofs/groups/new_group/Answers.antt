use Rattle.std.proofs.Common.{◌≡◌, ◌<◌, ℕ, List, Vec, [], length, map, true, false, Option, refl, sym, subst}
use Rattle.std.specs.List.{All, Contains}
use Rattle.std.specs.Option.{IfSome, IsNone}
use Rattle.cs_types.specs.declared.Schema.{Schema}
use Rattle.cs_types.specs.Schemas.{IsRowOf}
use Rattle.std.specs.declared.alloc.Global.{Global}
use Rattle.delete_bitmap.specs.declared.MarkedEnd.{MarkedEnd}
use Rattle.row_group.specs.Rows.{PackedRow, begun_above}
use Rattle.row_group.specs.Groups.{Group, HoldsRows}
use Rattle.row_group.specs.Packings.{StandAt}
use Rattle.tuple_mover.specs.Kept.{AreMarkedAt}
use Rattle.tuple_mover.proofs.MadeLemmas.{left-fit, left-once, left-places, left-within, none-left, made-group, IsMade}
use Rattle.tuple_mover.proofs.PlaceLemmas.{Place}
use Rattle.tuple_mover.proofs.groups.new_group.Goals as goal

abbrev Found : Type 0
Found = Group × Vec ℕ Global

pub pack_placed-requires-clause-fit : goal.pack_placed-requires-clause-fit
pack_placed-requires-clause-fit c =
    let claim = c.args.claim.now in
    subst (λ (schema : Schema). All (λ (row : PackedRow). IsRowOf schema row.cells) c.args.kept.packer.rows) (sym c.deref.ensures) (left-fit claim c.requires.mendable c.args.kept c.requires.kept)

pub returns-in_default : goal.returns-in_default
returns-in_default c =
    none-left c.args.claim.now c.requires.mendable c.args.kept c.requires.kept (c.in_ok-packed.ensures.none.0 (subst (λ (found : Option (Group × _)). IsNone found) (sym c.in_default.is) refl))

pub marks_of-requires-clause-places : goal.marks_of-requires-clause-places
marks_of-requires-clause-places c =
    let claim = c.args.claim.now in
    let rows = c.args.kept.packer.rows in
    let group : Group = c.in-Some.packed in
    let positions = c.in-Some.positions.items in
    let holds = subst (λ (schema : Schema). HoldsRows schema (map (begun_above claim.floor) rows) claim.floor group) c.deref.ensures
    (subst (λ (found : Option Found). IfSome found (λ (placed : Found). HoldsRows c.deref.result.now (map (begun_above claim.floor) rows) claim.floor placed.0)) c.in-Some.is c.in_ok-packed.ensures.group) in
    let stand = subst (λ (found : Option Found). IfSome found (λ (placed : Found). let positions : Vec ℕ Global = placed.1 in StandAt (map (begun_above claim.floor) rows) placed.0 positions.items)) c.in-Some.is c.in_ok-packed.ensures.positions in
    subst (λ (ends : List Place). All (λ (end : Place). end.0 < length c.deref-3.result.now) ends) (sym c.deref-2.ensures.value)
    (subst (λ (places : List ℕ). All (λ (end : Place). end.0 < length places) c.args.kept.ends.items) (sym c.deref-3.ensures.value)
    (left-places claim c.requires.mendable c.args.kept c.requires.kept group positions holds stand))

pub marks_of-requires-clause-once : goal.marks_of-requires-clause-once
marks_of-requires-clause-once c =
    subst (λ (ends : List Place). (x y : Place) → Contains ends x → Contains ends y → x.0 ≡ y.0 → x.1 ≡ y.1) (sym c.deref-2.ensures.value)
    (left-once c.args.claim.now c.requires.mendable c.args.kept c.requires.kept)

pub marks_of-requires-clause-within : goal.marks_of-requires-clause-within
marks_of-requires-clause-within c =
    let claim = c.args.claim.now in
    let rows = c.args.kept.packer.rows in
    let group : Group = c.in-Some.packed in
    let positions = c.in-Some.positions.items in
    let holds = subst (λ (schema : Schema). HoldsRows schema (map (begun_above claim.floor) rows) claim.floor group) c.deref.ensures
    (subst (λ (found : Option Found). IfSome found (λ (placed : Found). HoldsRows c.deref.result.now (map (begun_above claim.floor) rows) claim.floor placed.0)) c.in-Some.is c.in_ok-packed.ensures.group) in
    let stand = subst (λ (found : Option Found). IfSome found (λ (placed : Found). let positions : Vec ℕ Global = placed.1 in StandAt (map (begun_above claim.floor) rows) placed.0 positions.items)) c.in-Some.is c.in_ok-packed.ensures.positions in
    subst (λ (places : List ℕ). All (λ (position : ℕ). position < length places) places) (sym c.deref-3.ensures.value)
    (left-within claim c.requires.mendable c.args.kept c.requires.kept group positions holds stand)

pub returns : goal.returns
returns c =
    let claim = c.args.claim.now in
    let rows = c.args.kept.packer.rows in
    let group : Group = c.in-Some.packed in
    let positions = c.in-Some.positions.items in
    let holds = subst (λ (schema : Schema). HoldsRows schema (map (begun_above claim.floor) rows) claim.floor group) c.deref.ensures
    (subst (λ (found : Option Found). IfSome found (λ (placed : Found). HoldsRows c.deref.result.now (map (begun_above claim.floor) rows) claim.floor placed.0)) c.in-Some.is c.in_ok-packed.ensures.group) in
    let stand = subst (λ (found : Option Found). IfSome found (λ (placed : Found). let positions : Vec ℕ Global = placed.1 in StandAt (map (begun_above claim.floor) rows) placed.0 positions.items)) c.in-Some.is c.in_ok-packed.ensures.positions in
    let some = λ (none : rows ≡ []). differ (subst (λ (found : Option Found). IsNone found) c.in-Some.is (c.in_ok-packed.ensures.none.1 none)) in
    let marks = c.in_ok-marks.marks in
    let are = subst (λ (places : List ℕ). AreMarkedAt c.args.kept.ends.items places marks) c.deref-3.ensures.value
    (subst (λ (ends : List Place). AreMarkedAt ends c.deref-3.result.now marks) c.deref-2.ensures.value c.in_ok-marks.ensures) in
    let made = made-group claim c.requires.mendable c.args.kept c.requires.kept group positions holds stand marks are some in
    subst (λ (g : Group). IsMade claim g c.in_ok-marks-2.marks.value) (sym c.in_ok-new.ensures.ok)
    (subst (λ (ms : List (Option MarkedEnd)). IsMade claim group ms) (sym c.in_ok-marks-2.ensures.ok) made)
  where
    differ : true ≡ false → ⊥
    differ h = cc
