use Rattle.std.proofs.Common.{◌≡◌, ◌<◌, take, ℕ, List, [], length, sym, subst, arith}
use Rattle.std.proofs.lemmas.List.{take_all}
use Rattle.delete_buffer.specs.Entries.{Entry}
use Rattle.group_view.specs.Views.{endings_of}
use Rattle.tuple_mover.specs.Flushed.{IsEndedBy, HasMore}
use Rattle.tuple_mover.proofs.FlushLemmas.{entries-none, entries-more}
use Rattle.tuple_mover.proofs.flushes.places_of.Goals as goal

pub loop-entry-init : goal.loop-entry-init
loop-entry-init c =
    let buffer = endings_of c.args.buffer.now in
    subst (λ (places : List (ℕ × ℕ)). HasMore (IsEndedBy buffer [] c.args.packed.now c.args.marks.now) [] places) (sym c.new-places.ensures.items)
    (entries-none buffer c.args.packed.now c.args.marks.now)

pub loop-entry-preserved : goal.loop-entry-preserved
loop-entry-preserved c =
    let there : c.loop-entry.entry-index < length c.args.entries.now = omega arith in
    entries-more (endings_of c.args.buffer.now) c.args.entries.now c.loop-entry.entry-index _ c.args.packed.now c.args.marks.now c.loop-entry.places.items c.add_places.new.places.items there c.loop-entry.invariant c.in_ok-add_places.ensures

pub returns : goal.returns
returns c =
    let entries = c.args.entries.now in
    let all : take c.loop-entry.entry-index entries ≡ entries = take_all c.loop-entry.entry-index entries (omega arith) in
    subst (λ (done : List Entry). HasMore (IsEndedBy (endings_of c.args.buffer.now) (endings_of done) c.args.packed.now c.args.marks.now) [] c.loop-entry.places.items) all c.loop-entry.invariant
