use Rattle.std.proofs.Common.{rules}
use Rattle.std.specs.Ordering.{is_lt}
use Rattle.std.proofs.lemmas.Fn.{always_returns_same}
use Rattle.cs_types.specs.Keys.{key_cmp}
use Rattle.write_set.proofs.InOrder.{told_in_order}
use Rattle.write_set.proofs.order.is_in_order.Goals as goal

pub returns : goal.returns
returns c =
    told_in_order c.args.writes.now c.is_sorted_by.result
    (c.is_sorted_by.ensures.cases (λ a b. is_lt (key_cmp a.key b.key)) (always_returns_same _ _ _ (λ a r f k. search rules)))
