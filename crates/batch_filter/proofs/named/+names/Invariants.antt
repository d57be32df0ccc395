use Rattle.std.proofs.Common.{◌≡◌, ◌==◌, drop, map}
use Rattle.std.specs.List.{list_all, flat_map}
use Rattle.batch_filter.specs.Named.{named}
use Rattle.batch_filter.proofs.named.+names.Given as goal

-- what is left of the parts decides
abbrev pub invariant-each_names-loop-part : goal.invariant-each_names-loop-part
invariant-each_names-loop-part l =
    list_all (λ i. i == l.column) (flat_map (λ part. part) (map named (drop l.part-index l.parts))) ≡ list_all (λ i. i == l.column) (flat_map (λ part. part) (map named l.parts))
