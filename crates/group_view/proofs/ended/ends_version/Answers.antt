use Rattle.std.proofs.Common.{◌<◌, length, sym, ◌∙◌, arith}
use Rattle.std.proofs.lemmas.List.{length-map}
use Rattle.group_view.specs.Parts.{Rowed, packed_versions}
use Rattle.group_view.specs.Books.{versions_of}
use Rattle.group_view.proofs.Versions.{length-packed_versions}
use Rattle.group_view.proofs.EndLemmas.{none_ended, one_ended, one_more}
use Rattle.group_view.proofs.ended.ends_version.Goals as goal

pub loop-place-init : goal.loop-place-init
loop-place-init c = λ i low high ended. absurd (omega (arith, low, high))

pub returns-then-is_end_of : goal.returns-then-is_end_of
returns-then-is_end_of c =
    let group = c.args.packed.now in
    let marks = c.args.marks.now in
    let packed = packed_versions group.key group.rows marks in
    let inside : c.place-position.result < length (versions_of packed) = omega (arith, length-map packed (λ (rowed : Rowed). rowed.version), length-packed_versions group.key group.rows marks c.requires, c.place-position.ensures.within) in
    sym (one_ended group marks c.args.buffer.now.entries c.args.key c.args.end c.find_near-places.result.from c.find_near-places.result.to c.find_near-places.ensures c.loop-place.place c.place-position.result
    c.place-position.ensures.value c.loop-place.auto.place c.loop-place-test.true inside (λ version is own. sym c.if-is_end_of.true ∙ c.is_end_of.ensures version is own))

pub loop-place-preserved : goal.loop-place-preserved
loop-place-preserved c =
    one_more c.args.packed.now c.args.marks.now c.args.buffer.now.entries c.args.key c.args.end c.find_near-places.result.from c.find_near-places.result.to c.find_near-places.ensures c.loop-place.place c.place-position.result
    c.place-position.ensures.value (λ version is own. sym c.if-is_end_of.false ∙ c.is_end_of.ensures version is own) c.loop-place.invariant c.loop-place.auto.place c.loop-place-test.true

pub returns : goal.returns
returns c =
    sym (none_ended c.args.packed.now c.args.marks.now c.args.buffer.now.entries c.args.key c.args.end c.find_near-places.result.from c.find_near-places.result.to c.find_near-places.ensures
    (λ i low high ended. c.loop-place.invariant i low (let end = c.loop-place-test.false in omega (arith, end, high)) ended))
