use Rattle.std.proofs.Common.{◌<◌, ◌^◌, ◌∙◌, ◌&&◌, ap, nat_le, nat_lt, arith}
use Rattle.std.specs.Prelude.{not as flipped}
use Rattle.cs_types.specs.Text.{loose_of}
use Rattle.cs_model.specs.Truths.{truth_if, is_null}
use Rattle.column_segment.specs.Bodies.{cell_of_code}
use Rattle.batch_kernels.specs.Masks.{same_as}
use Rattle.batch_filter.proofs.SpanLemmas.{null_span, asked-turned}
use Rattle.batch_filter.proofs.cut.Codes.nulls.Goals as goal

pub returns : goal.returns
returns c = λ code most.
    let small : code < 2 ^ 64 = omega arith in
    let codes = c.args.self in
    let body = c.args.segment.now.body in
    c.new.ensures code small
    ∙ ap (λ h. nat_le 0 code && same_as h (nat_le 0 code && nat_lt code codes.first)) c.turned_unless.ensures
    ∙ null_span codes.kind body codes.first codes.last c.requires (same_as c.args.holds (flipped c.args.negated)) code most
    ∙ asked-turned c.args.holds c.args.negated (truth_if (is_null (loose_of codes.kind (cell_of_code body code))))
