use Rattle.std.proofs.Common.{not, rules}
use Rattle.std.proofs.lemmas.Fn.{filter_same}
use Rattle.cs_model.specs.declared.work.Actor.{Actor}
use Rattle.group_book.specs.Turns.{same_actor}
use Rattle.group_view.specs.declared.claim.Claim.{Claim}
use Rattle.group_directory.proofs.lists.drop_claims.Goals as goal

pub returns : goal.returns
returns c = filter_same _ (λ (held : Actor × Claim). not (same_actor held.0 c.args.actor)) _ (λ x b f' called. search rules) _ _ c.retain.ensures.filtered
