use Rattle.std.proofs.Common.{◌≡◌, length, cond, Some, None, sym, ap, subst, ◌∙◌}
use Rattle.std.specs.List.{count_by}
use Rattle.delete_bitmap.specs.Marks.{is_removable}
use Rattle.row_group.specs.Groups.{Group as Packed}
use Rattle.group_book.specs.Book.{is_compressed}
use Rattle.group_book.specs.Choices.{remaining}
use Rattle.group_view.specs.declared.groups.GroupContent.{GroupContent}
use Rattle.group_view.specs.Books.{content_of}
use Rattle.group_view.specs.Lists.{IsFittingContent}
use Rattle.group_view.proofs.Counted.{remaining_is}
use Rattle.group_view.proofs.removable.kept.Goals as goal

pub returns-in-Compressed : goal.returns-in-Compressed
returns-in-Compressed c =
    let floor = c.args.floor in
    let packed = c.in-Compressed.packed.value in
    let marks = c.in-Compressed.marks.value in
    let fits = subst IsFittingContent c.in-Compressed.is c.requires in
    let removable : c.removable.result ≡ count_by (is_removable floor) marks = c.removable.ensures ∙ ap (count_by (is_removable floor)) c.deref-in-Compressed.ensures in
    let total : c.len.result ≡ length packed.rows = c.len.ensures ∙ ap (λ (group : Packed). length group.rows) c.deref.ensures in
    ap Some (c.saturating_sub.ensures ∙ rw (removable, total) (remaining_is floor packed.key packed.rows marks fits))
    ∙ ap (λ (content : GroupContent). cond (is_compressed (content_of content)) (Some (remaining floor (record { id = c.args.group.now.id; content = content_of content }))) None) (sym c.in-Compressed.is)
