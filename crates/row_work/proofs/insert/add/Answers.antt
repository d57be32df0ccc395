use Rattle.std.proofs.Common.{◌∙◌, ◌-◌, length, sym, ap}
use Rattle.std.specs.Prelude.{slice_get}
use Rattle.row_work.specs.Inserts.{is_of}
use Rattle.row_work.proofs.Judged.{judged_again, judged_more}
use Rattle.row_work.proofs.insert.add.Goals as goal

pub returns-then-is_last : goal.returns-then-is_last
returns-then-is_last c = λ edits judged above.
    let write = c.args.write in
    let last = ap (λ list. is_of write.key (slice_get list (length list - 1))) (sym c.deref.ensures.value) ∙ sym c.is_last.ensures ∙ c.if-is_last.true in
    judged_again c.args.pinned.now edits c.args.writes.now.items c.args.present.now.items write judged above c.note.new.present.items last c.in_ok-note.ensures

pub returns : goal.returns
returns c = λ edits judged above.
    let write = c.args.write in
    let apart = ap (λ list. is_of write.key (slice_get list (length list - 1))) (sym c.deref.ensures.value) ∙ sym c.is_last.ensures ∙ c.if-is_last.false in
    judged_more c.args.pinned.now edits c.args.writes.now.items c.args.present.now.items write judged above c.push.new.self.items c.note_where.new.present.items
    c.has_row_shown-replaces.result c.has_row_read-here.result apart c.in_ok-push.ensures.items c.has_row_shown-replaces.ensures
    (λ width. c.has_row_read-here.ensures width (c.has_row_shown-replaces.ensures width)) c.in_ok-note_where.ensures
