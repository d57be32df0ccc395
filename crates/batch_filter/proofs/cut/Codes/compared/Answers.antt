use Rattle.std.proofs.Common.{◌<◌, ◌^◌, ◌∙◌, sym, arith}
use Rattle.batch_filter.proofs.SpanLemmas.{compared_some, compared_none, empty_span}
use Rattle.batch_filter.proofs.cut.Codes.compared.Goals as goal

pub returns-in-Some : goal.returns-in-Some
returns-in-Some c = λ code most.
    let small : code < 2 ^ 64 = omega arith in
    let codes = c.args.self in
    c.span.ensures code small
    ∙ compared_some codes.kind c.args.segment.now.body codes.first codes.last c.requires c.args.sign c.args.constant.now c.args.holds c.in-Some.cut.from c.in-Some.cut.to c.in-Some.ensures.placed code most

pub returns-in-None : goal.returns-in-None
returns-in-None c = λ code most.
    let small : code < 2 ^ 64 = omega arith in
    let codes = c.args.self in
    c.new.ensures code small ∙ empty_span code
    ∙ sym (compared_none codes.kind c.args.segment.now.body codes.first codes.last c.requires c.args.sign c.args.constant.now c.args.holds c.in-None.ensures.none code most)
