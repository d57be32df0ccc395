use Rattle.std.proofs.Common.{◌&&◌, ap, ◌∙◌, nat_le, nat_lt}
use Rattle.batch_kernels.specs.Masks.{same_as}
use Rattle.batch_filter.specs.Codes.{span_begin, is_inside}
use Rattle.batch_filter.proofs.SpanLemmas.{sign_span}
use Rattle.batch_filter.proofs.cut.Cut.span.Goals as goal

pub returns : goal.returns
returns c = λ code small.
    let range = c.range_of-from.result in
    let is = c.range_of-from.ensures in
    let cut = c.args.self in
    let inside = same_as (is_inside c.args.sign) c.args.holds in
    c.new.ensures code small
    ∙ ap (λ b. nat_le c.args.first code && b)
    (ap (λ t. same_as t (nat_le range.0 code && nat_lt code range.1)) (c.turned_unless.ensures ∙ ap (λ i. same_as i c.args.holds) is.inside)
    ∙ ap (λ x. same_as inside (nat_le x code && nat_lt code range.1)) is.from
    ∙ ap (λ x. same_as inside (nat_le (span_begin c.args.sign cut.from) code && nat_lt code x)) is.to
    ∙ sign_span c.args.sign c.args.holds cut.from cut.to code c.requires)
