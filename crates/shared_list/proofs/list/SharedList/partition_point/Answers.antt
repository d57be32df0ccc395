use Rattle.std.proofs.Common.{◌≡◌, ◌+◌, ◌-◌, ◌<◌, List, length, ap, sym, subst, arith, rules, true, false}
use Rattle.std.specs.List.Sorted.{IsPartitionedBy, IsPartitionPoint}
use Rattle.std.proofs.lemmas.Fn.{always_returns_same}
use Rattle.shared_list.specs.Placed.{Placed}
use Rattle.shared_list.specs.Chunks.{passes_first}
use Rattle.shared_list.proofs.Edits.{ends_here}
use Rattle.shared_list.proofs.Points.{firsts_parted, none_passes, point_read}
use Rattle.shared_list.proofs.list.SharedList.partition_point.Goals as goal

pub returns-then-begun-eq0-clause-partitioned : goal.returns-then-begun-eq0-clause-partitioned
returns-then-begun-eq0-clause-partitioned g c = λ p by parted.
    let chunks = c.self.inside.chunks.items in
    let stand = c.self.invariant.0.stand in
    let own = subst (IsPartitionedBy p) (sym c.self.view_is) parted in
    let point = rw c.deref.ensures.value at (c.partition_point-begun.ensures.partitioned (λ (chunk : Placed g.row.T.Denot). passes_first p chunk.items)
    (always_returns_same _ _ _ (λ a r f called. (called.met.1 p by, λ j. record { 0 = called.met.0 j })))
    (rw c.deref.ensures.value (firsts_parted p chunks stand own))) in
    subst (λ (items : List g.row.T.Denot). IsPartitionPoint (λ item. p item ≡ true) (λ item. p item ≡ false) items 0) c.self.view_is
    (none_passes p chunks stand own (rw c.if-begun-eq0.true at point))

pub overflow_add-result : goal.overflow_add-result
overflow_add-result g c =
    let chunks = c.self.inside.chunks.items in
    let inside : c.partition_point-begun.result - 1 < length chunks = search rules in
    let ends = ends_here chunks c.self.invariant.0.stand (c.partition_point-begun.result - 1) c.index-chunk.result.now inside c.index-chunk.ensures in
    let bound = c.partition_point.ensures.bound in
    let long = ap length c.as_slice.ensures in
    let from = c.from.ensures in
    let len = c.self.invariant.0.len in
    let fits = c.self.invariant.1 in
    omega (arith, ends, bound, long, from, len, fits)

pub returns-clause-bound : goal.returns-clause-bound
returns-clause-bound g c =
    let chunks = c.self.inside.chunks.items in
    let inside : c.partition_point-begun.result - 1 < length chunks = search rules in
    let ends = ends_here chunks c.self.invariant.0.stand (c.partition_point-begun.result - 1) c.index-chunk.result.now inside c.index-chunk.ensures in
    let bound = c.partition_point.ensures.bound in
    let long = ap length c.as_slice.ensures in
    let from = c.from.ensures in
    let whole = ap length c.self.view_is in
    omega (arith, ends, bound, long, from, whole)

pub returns-clause-partitioned : goal.returns-clause-partitioned
returns-clause-partitioned g c = λ p by parted.
    let chunks = c.self.inside.chunks.items in
    let stand = c.self.invariant.0.stand in
    let own = subst (IsPartitionedBy p) (sym c.self.view_is) parted in
    let point = rw c.deref.ensures.value at (c.partition_point-begun.ensures.partitioned (λ (chunk : Placed g.row.T.Denot). passes_first p chunk.items)
    (always_returns_same _ _ _ (λ a r f called. (called.met.1 p by, λ j. record { 0 = called.met.0 j })))
    (rw c.deref.ensures.value (firsts_parted p chunks stand own))) in
    let at = c.partition_point-begun.result - 1 in
    let inside : at < length chunks = search rules in
    let last : c.partition_point-begun.result ≡ at + 1 = (let some = c.if-begun-eq0.false in omega (arith, some)) in
    subst (λ (items : List g.row.T.Denot). IsPartitionPoint (λ item. p item ≡ true) (λ item. p item ≡ false) items (c.from.result + c.partition_point.result)) c.self.view_is
    (rw c.from.ensures
    (point_read p chunks stand own at c.partition_point.result c.index-chunk.result.now c.as_slice.result.now inside c.index-chunk.ensures c.as_slice.ensures (rw last at point) c.partition_point.ensures.bound
    (c.partition_point.ensures.partitioned p by)))
