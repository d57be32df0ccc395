use Rattle.std.proofs.Common.{length, ap, sym, subst, ◌∙◌}
use Rattle.row_group.specs.Groups.{Group as Packed}
use Rattle.group_book.specs.Book.{total}
use Rattle.group_view.specs.declared.groups.GroupContent.{GroupContent}
use Rattle.group_view.specs.Books.{content_of}
use Rattle.group_view.specs.Lists.{IsFittingContent}
use Rattle.group_directory.proofs.Counted.{packed_total}
use Rattle.group_directory.proofs.counts.total.Goals as goal

pub returns-in-Compressed : goal.returns-in-Compressed
returns-in-Compressed c =
    let fits = subst IsFittingContent c.in-Compressed.is c.requires in
    let group = c.in-Compressed.packed.value in
    c.len-in-Compressed.ensures ∙ ap (λ (g : Packed). length g.rows) c.deref-in-Compressed.ensures ∙ sym (packed_total group.key group.rows c.in-Compressed.field-1.value fits) ∙ ap (λ (x : GroupContent). total (content_of x)) (sym c.in-Compressed.is)
