use Rattle.std.proofs.lemmas.Grind.{merely}
use Rattle.column_segment.proofs.Kept.{made}
use Rattle.column_segment.proofs.choice.bare_segment.Goals as goal

pub invariant_of-result : goal.invariant_of-result
invariant_of-result c =
    let cells = c.requires.0 in
    let coded = c.requires.1 in
    record { of_cells = merely (cells, made cells _ _ _ _ _ coded.2.0 (c.in_ok-body.ensures cells coded c.requires.2) (c.in_ok-least.ensures cells coded.1) (c.in_ok-greatest.ensures cells coded.1) (c.has_null-nulls.ensures.null cells coded.1)) }

pub returns : goal.returns
returns c = λ cells coded none.
    made cells _ _ _ _ _ coded.2.0 (c.in_ok-body.ensures cells coded none) (c.in_ok-least.ensures cells coded.1) (c.in_ok-greatest.ensures cells coded.1) (c.has_null-nulls.ensures.null cells coded.1)
