use Rattle.std.proofs.Common.{◌≡◌, ◌∙◌, ℕ, List, false, Option, sym, ap, subst}
use Rattle.std.specs.Prelude.{is_some}
use Rattle.delete_bitmap.specs.declared.MarkedEnd.{MarkedEnd}
use Rattle.delete_bitmap.specs.Marks.{end_at}
use Rattle.group_book.specs.Book.{Ending}
use Rattle.tuple_mover.specs.Flushed.{HasMore}
use Rattle.tuple_mover.proofs.FlushLemmas.{IsEndedAt, entry-there, none-unended, none-other, one-ended}
use Rattle.tuple_mover.proofs.flushes.add_place.Goals as goal

pub returns-in_default : goal.returns-in_default
returns-in_default c =
    let x : Ending = record { key = c.args.entry.0; end = c.args.entry.1 } in
    let least = entry-there c.args.buffer.now x c.args.packed.now c.args.marks.now c.args.position c.begin.result c.ends.result c.begin.ensures c.ends.ensures ∙ c.in_default.is in
    none-unended c.args.buffer.now x c.args.packed.now c.args.marks.now c.args.position c.args.places.now.items least

pub returns-then-end-entry : goal.returns-then-end-entry
returns-then-end-entry c =
    let x : Ending = record { key = c.args.entry.0; end = c.args.entry.1 } in
    let least = entry-there c.args.buffer.now x c.args.packed.now c.args.marks.now c.args.position c.begin.result c.ends.result c.begin.ensures c.ends.ensures ∙ c.in-Some.is in
    none-other c.args.buffer.now x c.args.packed.now c.args.marks.now c.args.position c.args.places.now.items c.in-Some.end least c.if-end-entry.true

pub returns : goal.returns
returns c =
    let x : Ending = record { key = c.args.entry.0; end = c.args.entry.1 } in
    let marks = c.args.marks.now in
    let q = c.args.position in
    let none : is_some (end_at marks q) ≡ false = ap (λ (m : Option MarkedEnd). is_some m) (sym c.end.ensures) ∙ sym c.if-is_some.ensures in
    let least = entry-there c.args.buffer.now x c.args.packed.now c.args.marks.now c.args.position c.begin.result c.ends.result c.begin.ensures c.ends.ensures ∙ c.in-Some.is in
    subst (λ (places : List (ℕ × ℕ)). HasMore (IsEndedAt c.args.buffer.now x c.args.packed.now marks q) c.args.places.now.items places) (sym c.in_ok-push.ensures.items)
    (one-ended c.args.buffer.now x c.args.packed.now marks q c.args.places.now.items c.in-Some.end c.requires.within c.requires.key none least c.if-end-entry.false)
