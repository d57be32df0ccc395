use Rattle.std.proofs.Common.{◌≡◌, drop, map}
use Rattle.std.specs.List.{list_all, list_any}
use Rattle.cs_model.specs.Skips.{skips}
use Rattle.row_group.specs.Rows.{column_of}
use Rattle.batch_filter.proofs.skip.+skips.Given as goal

-- what is left of the parts decides
abbrev pub invariant-each_skips-loop-part : goal.invariant-each_skips-loop-part
invariant-each_skips-loop-part l =
    list_all (λ skipped. skipped) (map (λ p. skips l.schema p (column_of l.packed.rows)) (drop l.part-index l.parts))
    ≡ list_all (λ skipped. skipped) (map (λ p. skips l.schema p (column_of l.packed.rows)) l.parts)

abbrev pub invariant-some_skips-loop-part : goal.invariant-some_skips-loop-part
invariant-some_skips-loop-part l =
    list_any (λ skipped. skipped) (map (λ p. skips l.schema p (column_of l.packed.rows)) (drop l.part-index l.parts))
    ≡ list_any (λ skipped. skipped) (map (λ p. skips l.schema p (column_of l.packed.rows)) l.parts)
