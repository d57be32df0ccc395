use Rattle.std.proofs.Common.{sym, arith}
use Rattle.group_view.specs.Parts.{lived_version, packed_versions}
use Rattle.group_view.specs.Views.{endings_of}
use Rattle.group_view.proofs.Finds.{packed_hides, packed_more, place_key, shows_here}
use Rattle.group_view.proofs.Versions.{length-packed_versions}
use Rattle.group_view.proofs.lookups.find_packed.Goals as goal

pub loop-place-init : goal.loop-place-init
loop-place-init c = λ i low high shown. absurd (omega (arith, low, high))

pub packed_version-requires : goal.packed_version-requires
packed_version-requires c =
    let group = c.args.packed.now in
    omega (arith, length-packed_versions group.key group.rows c.args.marks.now c.requires, c.place-position.ensures.within)

pub returns-then-is_visible-clause-found : goal.returns-then-is_visible-clause-found
returns-then-is_visible-clause-found c =
    let group = c.args.packed.now in
    let marks = c.args.marks.now in
    let buffer = endings_of c.args.buffer.now in
    let key = c.args.key in
    let s = c.args.s in
    let version = lived_version c.packed_version.result in
    shows_here buffer key s (packed_versions group.key group.rows marks) c.place-position.result version c.packed_version.ensures
    (place_key group marks buffer key s c.find-places.result.from c.find-places.result.to c.find-places.ensures c.loop-place.place c.place-position.result c.place-position.ensures.value (omega arith) (omega arith)
    (omega (arith, length-packed_versions group.key group.rows marks c.requires, c.place-position.ensures.within)) version c.packed_version.ensures)
    (sym c.if-is_visible.ensures)

pub loop-place-preserved : goal.loop-place-preserved
loop-place-preserved c =
    packed_more c.args.packed.now c.args.marks.now (endings_of c.args.buffer.now) c.args.key c.args.s c.find-places.result.from c.find-places.result.to c.find-places.ensures c.loop-place.place c.place-position.result
    c.place-position.ensures.value (lived_version c.packed_version.result) c.packed_version.ensures (sym c.if-is_visible.ensures) c.loop-place.invariant

pub returns-clause-none : goal.returns-clause-none
returns-clause-none c =
    packed_hides c.args.packed.now c.args.marks.now (endings_of c.args.buffer.now) c.args.key c.args.s c.find-places.result.from c.find-places.result.to c.find-places.ensures
    (λ i low high shown. c.loop-place.invariant i low (let end = c.loop-place-test.false in omega (arith, end, high)) shown)
