use Rattle.std.proofs.Common.{◌≡◌, drop, map}
use Rattle.std.specs.List.{flat_map}
use Rattle.batch_filter.specs.Named.{named}
use Rattle.batch_filter.specs.Batches.{batches_of, first_count}
use Rattle.batch_filter.proofs.batch.+needed.Given as goal

-- what is left of the parts decides
abbrev pub invariant-count_of_parts-loop-part : goal.invariant-count_of_parts-loop-part
invariant-count_of_parts-loop-part l =
    first_count (batches_of l.columns (flat_map (λ part. part) (map named (drop l.part-index l.parts)))) ≡ first_count (batches_of l.columns (flat_map (λ part. part) (map named l.parts)))
