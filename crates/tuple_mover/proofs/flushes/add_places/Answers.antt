use Rattle.std.proofs.Common.{◌≡◌, ◌∷◌, ◌≤◌, ℕ, [], subst, arith}
use Rattle.group_book.specs.Book.{Ending}
use Rattle.group_view.specs.Views.{endings_of}
use Rattle.tuple_mover.specs.Flushed.{IsEndedBy, HasMore}
use Rattle.tuple_mover.proofs.FlushLemmas.{up_to-none, up_to-more, up_to-all}
use Rattle.tuple_mover.proofs.flushes.add_places.Goals as goal

pub loop-place-init : goal.loop-place-init
loop-place-init c =
    let x : Ending = record { key = c.args.entry.0; end = c.args.entry.1 } in
    up_to-none (endings_of c.args.buffer.now) x c.args.packed.now c.args.marks.now c.args.found.from c.args.places.now.items

pub loop-place-preserved : goal.loop-place-preserved
loop-place-preserved c =
    let x : Ending = record { key = c.args.entry.0; end = c.args.entry.1 } in
    let buffer = endings_of c.args.buffer.now in
    let from = c.args.found.from in
    let i = c.loop-place.place in
    let low : from ≤ i = omega arith in
    up_to-more buffer x c.args.packed.now c.args.marks.now from i c.args.places.now.items c.loop-place.places.items c.add_place.new.places.items low c.loop-place.invariant
    (subst (λ (q : ℕ). HasMore (λ (place : ℕ × ℕ). (place.0 ≡ q) × IsEndedBy buffer (x ∷ []) c.args.packed.now c.args.marks.now place) c.loop-place.places.items c.add_place.new.places.items) c.place.ensures.value c.in_ok-add_place.ensures)

pub returns : goal.returns
returns c =
    let x : Ending = record { key = c.args.entry.0; end = c.args.entry.1 } in
    up_to-all (endings_of c.args.buffer.now) x c.args.packed.now c.args.marks.now c.args.found.from c.args.found.to c.loop-place.place c.args.places.now.items c.loop-place.places.items c.requires (omega arith) c.loop-place.invariant
