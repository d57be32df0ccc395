use Rattle.std.proofs.Common.{sym, ap, ◌∙◌}
use Rattle.cs_types.specs.Text.{loose_of}
use Rattle.cs_model.specs.Truths.{order_of}
use Rattle.batch_filter.specs.Codes.{is_past}
use Rattle.batch_filter.proofs.CutLemmas.{on_true, on_false, past_after, past_before}
use Rattle.batch_filter.proofs.cut.Codes.is_past.Goals as goal

pub returns-clause-after : goal.returns-clause-after
returns-clause-after c =
    let codes = c.args.self in
    let is = c.stands_past.ensures ∙ ap (λ v. is_past c.args.over (order_of v c.args.constant.now)) (c.side_of.ensures ∙ ap (loose_of codes.kind) c.cell_of.ensures) in
    on_true _ _ (λ yes. past_after codes.kind c.args.segment.now.body c.args.constant.now c.args.over codes.first codes.last c.requires.codes c.args.code c.requires.least c.requires.most (sym is ∙ yes))

pub returns-clause-before : goal.returns-clause-before
returns-clause-before c =
    let codes = c.args.self in
    let is = c.stands_past.ensures ∙ ap (λ v. is_past c.args.over (order_of v c.args.constant.now)) (c.side_of.ensures ∙ ap (loose_of codes.kind) c.cell_of.ensures) in
    on_false _ _ (λ no. past_before codes.kind c.args.segment.now.body c.args.constant.now c.args.over codes.first codes.last c.requires.codes c.args.code c.requires.least c.requires.most (sym is ∙ no))
