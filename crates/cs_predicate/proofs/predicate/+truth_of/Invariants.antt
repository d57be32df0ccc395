use Rattle.std.proofs.Common.{◌≡◌, drop, map}
use Rattle.cs_model.specs.Truths.{truth, or, and, all_of, any_of}
use Rattle.cs_predicate.proofs.predicate.+truth_of.Given as goal

-- the truth so far and those of what is left make the whole
abbrev pub invariant-any_of-loop-part : goal.invariant-any_of-loop-part
invariant-any_of-loop-part g l =
    or l.found (any_of (map (λ p. truth p (g.C.Cells.row_of l.row) l.schema) (drop l.part-index l.parts))) ≡ any_of (map (λ p. truth p (g.C.Cells.row_of l.row) l.schema) l.parts)

abbrev pub invariant-all_of-loop-part : goal.invariant-all_of-loop-part
invariant-all_of-loop-part g l =
    and l.found (all_of (map (λ p. truth p (g.C.Cells.row_of l.row) l.schema) (drop l.part-index l.parts))) ≡ all_of (map (λ p. truth p (g.C.Cells.row_of l.row) l.schema) l.parts)
