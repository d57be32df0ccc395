use Rattle.std.proofs.Common.{ℕ, get_or, arith, rules}
use Rattle.std.specs.Ordering.{is_lt}
use Rattle.std.proofs.lemmas.List.Sorted.{IsPartitionPoint-from_clause}
use Rattle.cs_types.specs.declared.Key.{Key}
use Rattle.cs_types.specs.Keys.{key_cmp}
use Rattle.group_view.proofs.Spans.{below_is, entries_rise, is_below, up_to_below}
use Rattle.group_view.proofs.span.entries_below.Goals as goal

pub returns : goal.returns
returns c = λ i d before there.
    let entries = c.args.entries.now in
    let key = c.args.key in
    let point = IsPartitionPoint-from_clause (λ (entry : Key × ℕ). is_lt (key_cmp entry.0 key)) entries c.partition_point.result c.partition_point.ensures.partitioned
    (λ k j other up inside less.
    is_below (get_or entries k other).0.0 key.0
    (up_to_below (get_or entries k other).0.0 (get_or entries j other).0.0 key.0 (entries_rise entries c.requires k j other up inside) (below_is (get_or entries j other).0.0 key.0 less)))
    (λ a r f' called. search rules) in
    below_is (get_or entries i d).0.0 key.0 (point.0 i d (omega arith) before)
