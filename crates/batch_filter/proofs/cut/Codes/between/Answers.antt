use Rattle.std.proofs.Common.{◌<◌, ◌^◌, ◌∙◌, ◌&&◌, ap, nat_le, nat_lt, arith}
use Rattle.std.specs.Prelude.{not as flipped}
use Rattle.cs_types.specs.Text.{loose_of}
use Rattle.cs_model.specs.Truths.{between}
use Rattle.column_segment.specs.Bodies.{cell_of_code}
use Rattle.batch_kernels.specs.Masks.{same_as}
use Rattle.batch_filter.proofs.SpanLemmas.{between_span, asked-turned}
use Rattle.batch_filter.proofs.cut.Codes.between.Goals as goal

pub returns : goal.returns
returns c = λ code most.
    let small : code < 2 ^ 64 = omega arith in
    let codes = c.args.self in
    let body = c.args.segment.now.body in
    let lower = c.in_ok-lower in
    let upper = c.in_ok-upper in
    c.new.ensures code small
    ∙ ap (λ h. nat_le codes.first code && same_as h (nat_le lower.lower.from code && nat_lt code upper.upper.to)) c.turned_unless.ensures
    ∙ between_span codes.kind body codes.first codes.last c.requires c.args.low.now c.args.high.now (same_as c.args.holds (flipped c.args.negated))
    lower.lower.from lower.lower.to upper.upper.from upper.upper.to lower.ensures.ordered lower.ensures.placed upper.ensures.placed code most
    ∙ asked-turned c.args.holds c.args.negated (between c.args.low.now c.args.high.now (loose_of codes.kind (cell_of_code body code)))
