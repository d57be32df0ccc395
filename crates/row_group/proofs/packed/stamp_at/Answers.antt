use Rattle.std.proofs.Common.{◌≡◌, ◌<◌, ◌∙◌, ℕ, List, get_or, inl, inr, ltb, ap, sym, arith, rules}
use Rattle.std.specs.List.{AllPairs}
use Rattle.std.specs.List.Sorted.{IsNonDecreasingBy}
use Rattle.std.proofs.lemmas.Bool.{cases_lt, ltb-true, ltb-false}
use Rattle.std.proofs.lemmas.List.Sorted.{IsPartitionPoint-from_clause, IsPartitionedBy-ltb}
use Rattle.row_group.proofs.ShownLemmas.{stamp-found}
use Rattle.row_group.proofs.packed.stamp_at.Goals as goal

up : (late : List (ℕ × ℕ)) → AllPairs (λ x y. x.0 < y.0) late → IsNonDecreasingBy (λ entry. entry.0) late
up late rising i j d le l = elim (cases_lt i j) [
  | inl less ↦ let h : (get_or late i d).0 < (get_or late j d).0 = rising i j d less l in omega (arith, h)
  | inr n ↦ let e : i ≡ j = omega arith in omega (arith, ap (λ k. (get_or late k d).0) e)
]

pub returns : goal.returns
returns c =
    let point = IsPartitionPoint-from_clause (λ (entry : ℕ × ℕ). ltb entry.0 c.args.position) c.args.late.now c.partition_point-place.result c.partition_point-place.ensures.partitioned
    (IsPartitionedBy-ltb (λ (entry : ℕ × ℕ). entry.0) c.args.late.now c.args.position (up c.args.late.now c.requires)) (λ a r f' called. search rules) in
    c.begin_at.ensures
    ∙ sym (stamp-found c.args.late.now c.args.position c.partition_point-place.result c.requires
    (λ k d l m. ltb-true (get_or c.args.late.now k d).0 c.args.position (point.0 k d (omega arith) l))
    (λ k d l m. ltb-false (get_or c.args.late.now k d).0 c.args.position (point.1 k d l m)))
