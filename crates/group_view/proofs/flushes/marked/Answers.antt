use Rattle.std.proofs.Common.{◌≡◌, ◌∙◌, ◌<◌, Bool, false, map, get_or, length, arith}
use Rattle.delete_buffer.specs.Entries.{Entry}
use Rattle.group_book.specs.Book.{Ending}
use Rattle.group_view.specs.Views.{endings_of}
use Rattle.group_view.proofs.Noted.{ending_of, mark_at, marked_more}
use Rattle.group_view.proofs.flushes.marked.Goals as goal

pub loop-i-preserved : goal.loop-i-preserved
loop-i-preserved c = λ (p : Ending → Bool) (are : c.args.marks.now ≡ map p (endings_of c.args.entries.now)).
    let entries = c.args.entries.now in
    let i = c.loop-i.i in
    let there : i < length entries = omega arith in
    c.in_ok-add_marked.ensures ∙ marked_more (λ (entry : Entry). p (ending_of entry)) entries i _ c.loop-i.some.items (get_or c.args.marks.now i false) there (c.loop-i.invariant p are) (mark_at p entries c.args.marks.now i _ there are)
