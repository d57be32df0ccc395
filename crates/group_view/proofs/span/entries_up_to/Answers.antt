use Rattle.std.proofs.Common.{ℕ, get_or, arith, rules}
use Rattle.std.specs.Ordering.{is_le}
use Rattle.std.proofs.lemmas.List.Sorted.{IsPartitionPoint-from_clause}
use Rattle.cs_types.specs.declared.Key.{Key}
use Rattle.cs_types.specs.Keys.{key_cmp}
use Rattle.group_view.proofs.Spans.{entries_rise, is_up_to, not_up_to, up_to_is, up_to_up_to}
use Rattle.group_view.proofs.span.entries_up_to.Goals as goal

pub returns-clause-after : goal.returns-clause-after
returns-clause-after c = λ i d from there.
    let entries = c.args.entries.now in
    let key = c.args.key in
    let point = IsPartitionPoint-from_clause (λ (entry : Key × ℕ). is_le (key_cmp entry.0 key)) entries c.partition_point.result c.partition_point.ensures.partitioned
    (λ k j other up inside low.
    is_up_to (get_or entries k other).0.0 key.0
    (up_to_up_to (get_or entries k other).0.0 (get_or entries j other).0.0 key.0 (entries_rise entries c.requires k j other up inside) (up_to_is (get_or entries j other).0.0 key.0 low)))
    (λ a r f' called. search rules) in
    not_up_to (get_or entries i d).0.0 key.0 (point.1 i d from there)
