use Rattle.std.proofs.Common.{◌&&◌, sym, ap, subst, ◌∙◌}
use Rattle.std.specs.List.{list_any}
use Rattle.delete_bitmap.specs.Marks.{is_settling}
use Rattle.group_book.specs.Book.{is_compressed}
use Rattle.group_view.specs.declared.groups.GroupContent.{GroupContent}
use Rattle.group_view.specs.Books.{content_of}
use Rattle.group_view.specs.Lists.{IsFittingContent}
use Rattle.group_view.specs.Walks.{settles_in}
use Rattle.group_view.proofs.Counted.{settling_is}
use Rattle.group_view.proofs.removable.settles.Goals as goal

pub returns-in-Compressed : goal.returns-in-Compressed
returns-in-Compressed c =
    let floor = c.args.floor in
    let packed = c.in-Compressed.field-0.value in
    let fits = subst IsFittingContent c.in-Compressed.is c.requires in
    c.has_settling.ensures ∙ ap (list_any (is_settling floor)) c.deref.ensures ∙ settling_is floor packed.key packed.rows c.in-Compressed.marks.value fits
    ∙ ap (λ (content : GroupContent). is_compressed (content_of content) && settles_in floor (record { id = c.args.group.now.id; content = content_of content })) (sym c.in-Compressed.is)
