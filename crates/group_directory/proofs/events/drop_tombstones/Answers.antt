use Rattle.std.proofs.Common.{not, rules}
use Rattle.std.proofs.lemmas.Fn.{filter_same}
use Rattle.group_book.specs.Book.{is_tombstone}
use Rattle.group_view.specs.declared.groups.Group.{Group}
use Rattle.group_view.specs.Books.{content_of}
use Rattle.group_directory.proofs.events.drop_tombstones.Goals as goal

pub returns : goal.returns
returns c = filter_same _ (λ (group : Group). not (is_tombstone (content_of group.content))) _ (λ x b f' called. search rules) _ _ c.retain.ensures.filtered
