use Rattle.std.proofs.Common.{inr}
use Rattle.std.proofs.lemmas.Grind.{merely}
use Rattle.column_segment.proofs.Kept.{made}
use Rattle.column_segment.proofs.choice.dict_segment.Goals as goal

pub unscaled_body-requires : goal.unscaled_body-requires
unscaled_body-requires c = (c.requires.0, c.requires.1)

pub invariant_of-result : goal.invariant_of-result
invariant_of-result c =
    let cells = c.requires.0 in
    let coded = c.requires.1 in
    record { of_cells = merely (cells, made cells _ _ _ _ _ coded.2.0 (c.in_ok-body.ensures cells coded (inr c.requires.2)) (c.in_ok-least.ensures cells coded.1) (c.in_ok-greatest.ensures cells coded.1) (c.has_null-nulls.ensures.null cells coded.1)) }

pub returns : goal.returns
returns c = λ cells coded text.
    made cells _ _ _ _ _ coded.2.0 (c.in_ok-body.ensures cells coded (inr text)) (c.in_ok-least.ensures cells coded.1) (c.in_ok-greatest.ensures cells coded.1) (c.has_null-nulls.ensures.null cells coded.1)
