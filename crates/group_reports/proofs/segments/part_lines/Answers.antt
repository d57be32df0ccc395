use Rattle.std.proofs.lemmas.Result.{IfOk-weaker}
use Rattle.group_reports.proofs.segments.part_lines.Goals as goal

pub returns-in-Packed : goal.returns-in-Packed
returns-in-Packed c =
    let there = rw c.in-Packed.is at c.requires.packed in
    IfOk-weaker c.lines_of.result _ _ (λ lines is. rw c.in-Packed.is (record { order = there.order; columns = rw (c.deref.ensures, c.len.ensures) at is })) c.lines_of.ensures
