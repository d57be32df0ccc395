use Rattle.std.proofs.Common.{◌∙◌, sym, ap}
use Rattle.cs_types.specs.Text.{loose_of}
use Rattle.cs_model.specs.Truths.{compare}
use Rattle.column_segment.specs.Bodies.{cell_of_code}
use Rattle.batch_filter.specs.Sieves.{is_asked}
use Rattle.batch_filter.proofs.SkipLemmas.{compare-turned}
use Rattle.batch_filter.proofs.cut.Codes.compared_left.Goals as goal

pub returns : goal.returns
returns c = λ code most.
    let cell = loose_of c.args.self.kind (cell_of_code c.args.segment.now.body code) in
    c.compared.ensures code most
    ∙ ap (λ sign. is_asked c.args.holds (compare sign cell c.args.constant.now)) c.turned.ensures
    ∙ ap (is_asked c.args.holds) (sym (compare-turned c.args.sign c.args.constant.now cell))
