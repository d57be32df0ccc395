use Rattle.std.proofs.Common.{ap, sym, ◌∙◌}
use Rattle.std.specs.List.{count_by}
use Rattle.delta_store.specs.Versions.{is_ended}
use Rattle.group_book.specs.Book.{ended_count}
use Rattle.group_view.specs.declared.groups.ClosedStore.{ClosedStore}
use Rattle.group_view.specs.Books.{rowed_in_closed, versions_of}
use Rattle.group_directory.proofs.Counted.{stored_ended}
use Rattle.group_directory.proofs.counts.ended.Goals as goal

pub returns-in-Own : goal.returns-in-Own
returns-in-Own c = c.ended.ensures ∙ stored_ended c.in-Own.store ∙ ap (λ (s : ClosedStore). ended_count (versions_of (rowed_in_closed s))) (sym c.in-Own.is)

pub returns-in-Shared : goal.returns-in-Shared
returns-in-Shared c = c.ended-in-Shared.ensures ∙ ap (count_by is_ended) c.deref.ensures ∙ stored_ended c.in-Shared.store.value ∙ ap (λ (s : ClosedStore). ended_count (versions_of (rowed_in_closed s))) (sym c.in-Shared.is)
