use Rattle.std.proofs.Common.{◌≡◌, subst}
use Rattle.std.specs.Prelude.{true}
use Rattle.cs_model.specs.Queries.{keeps}
use Rattle.cs_model.specs.Truths.{truth}
use Rattle.row_work.proofs.NamedRows.{true_is}
use Rattle.row_work.proofs.named.named_keys.Goals as goal

pub returns-in_ok-keys-in-Some-constants_of-clause-named : goal.returns-in_ok-keys-in-Some-constants_of-clause-named
returns-in_ok-keys-in-Some-constants_of-clause-named c = λ key row stands kept.
    let schema = c.args.schema.now in
    let holds = true_is (truth c.in-Some.pred row schema) (subst (λ condition. keeps schema condition row ≡ true) c.in-Some.is kept) in
    c.sort_once.ensures.kept key (c.in_ok-keys-in-Some-constants_of.ensures schema c.requires key row stands (c.in-Some-constants_of.ensures row holds))
