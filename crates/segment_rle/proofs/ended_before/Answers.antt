use Rattle.std.proofs.Common.{◌≡◌, true, false, rules, arith, leb, leb-true, leb-false}
use Rattle.std.specs.List.Sorted.{IsPartitionPoint}
use Rattle.std.proofs.lemmas.List.Sorted.{IsPartitionPoint-from_clause, IsPartitionedBy-leb}
use Rattle.segment_rle.proofs.ended_before.Goals as goal

parted : (c : goal.After-partition_point) → IsPartitionPoint (λ e. leb e c.args.place ≡ true) (λ e. leb e c.args.place ≡ false) c.args.ends.now c.partition_point.result
parted c = IsPartitionPoint-from_clause (λ e. leb e c.args.place) _ _ c.partition_point.ensures.partitioned
    (IsPartitionedBy-leb (λ e. e) _ c.args.place c.requires) (λ a r q k. search rules)

pub returns-clause-ended : goal.returns-clause-ended
returns-clause-ended c = λ r l. leb-true _ _ ((parted c).0 r 0 (omega arith) l)

pub returns-clause-not_ended : goal.returns-clause-not_ended
returns-clause-not_ended c = λ r from l. leb-false _ _ ((parted c).1 r 0 from l)
