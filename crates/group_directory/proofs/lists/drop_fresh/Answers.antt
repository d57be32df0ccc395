use Rattle.std.proofs.Common.{not, rules}
use Rattle.std.proofs.lemmas.Fn.{filter_same}
use Rattle.group_book.specs.Turns.{is_fresh}
use Rattle.group_view.specs.declared.groups.Group.{Group}
use Rattle.group_view.specs.Books.{group_of}
use Rattle.group_directory.proofs.lists.drop_fresh.Goals as goal

pub returns : goal.returns
returns c = filter_same _ (λ (group : Group). not (is_fresh c.args.fresh (group_of group))) _ (λ x b f' called. search rules) _ _ c.retain.ensures.filtered
