use Rattle.std.proofs.Common.{ap, sym, subst, ◌∙◌}
use Rattle.std.specs.List.{count_by}
use Rattle.delete_bitmap.specs.Marks.{is_marked}
use Rattle.group_book.specs.Book.{deleted}
use Rattle.group_view.specs.declared.groups.GroupContent.{GroupContent}
use Rattle.group_view.specs.Books.{content_of}
use Rattle.group_view.specs.Lists.{IsFittingContent}
use Rattle.group_directory.proofs.Counted.{stored_ended, packed_ended}
use Rattle.group_directory.proofs.counts.deleted.Goals as goal

pub returns-in-Opened : goal.returns-in-Opened
returns-in-Opened c = c.ended.ensures ∙ stored_ended c.in-Opened.store.versions ∙ ap (λ (x : GroupContent). deleted (content_of x)) (sym c.in-Opened.is)

pub returns-in-Compressed : goal.returns-in-Compressed
returns-in-Compressed c =
    let fits = subst IsFittingContent c.in-Compressed.is c.requires in
    let group = c.in-Compressed.field-0.value in
    c.count.ensures ∙ ap (count_by is_marked) c.deref.ensures ∙ packed_ended group.key group.rows c.in-Compressed.marks.value fits ∙ ap (λ (x : GroupContent). deleted (content_of x)) (sym c.in-Compressed.is)
