use Rattle.std.proofs.Common.{sym, ap, ◌∙◌, not, is_some, arith}
use Rattle.cs_types.specs.Text.{loose_of}
use Rattle.cs_model.specs.Truths.{order_of}
use Rattle.cs_predicate.specs.Sides.{lent}
use Rattle.column_segment.specs.Bodies.{cell_of_code}
use Rattle.batch_filter.proofs.CutLemmas.{cut_none, cut_ordered, cut_placed, none_of}
use Rattle.batch_filter.proofs.cut.Codes.cut.Goals as goal

pub returns-then-is_none-clause-none : goal.returns-then-is_none-clause-none
returns-then-is_none-clause-none c =
    let codes = c.args.self in
    let body = c.args.segment.now.body in
    let is = c.order.ensures
    ∙ ap (λ v. order_of v (lent c.of_constant.result)) (c.side_of-least.ensures ∙ ap (loose_of codes.kind) c.cell_of.ensures)
    ∙ ap (order_of (loose_of codes.kind (cell_of_code body codes.first))) c.of_constant.ensures in
    cut_none codes.kind body c.args.constant.now codes.first codes.last c.requires (omega (arith, c.if-self.false)) (sym is ∙ none_of c.order.result (c.is_none.ensures ∙ ap not c.if-is_none.true))

pub returns-clause-ordered : goal.returns-clause-ordered
returns-clause-ordered c =
    cut_ordered c.args.self.kind c.args.segment.now.body c.args.constant.now c.args.self.first c.args.self.last c.requires c.edge.result c.edge-2.result c.edge.ensures c.edge-2.ensures

pub returns-clause-placed : goal.returns-clause-placed
returns-clause-placed c =
    let codes = c.args.self in
    let body = c.args.segment.now.body in
    let is = c.order.ensures
    ∙ ap (λ v. order_of v (lent c.of_constant.result)) (c.side_of-least.ensures ∙ ap (loose_of codes.kind) c.cell_of.ensures)
    ∙ ap (order_of (loose_of codes.kind (cell_of_code body codes.first))) c.of_constant.ensures in
    cut_placed codes.kind body c.args.constant.now codes.first codes.last c.requires c.edge.result c.edge-2.result c.edge.ensures c.edge-2.ensures (ap is_some (sym is) ∙ c.is_none.ensures ∙ ap not c.if-is_none.false)
