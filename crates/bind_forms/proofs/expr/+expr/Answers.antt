use Rattle.std.proofs.Common.{◌≡◌, subst}
use Rattle.std.specs.Prelude.{IfOk}
use Rattle.bind_forms.proofs.Trees.{expr_made, term_made}
use Rattle.bind_forms.proofs.expr.+expr.Goals as goal

pub expr_of-returns : goal.expr_of-returns
expr_of-returns t c =
    subst (λ z. IfOk c.sum_of.result (λ made. made ≡ z))
    (expr_made c.args.schema.now c.args.tree.now c.in_ok-first.first c.as_slice.result.now c.in_ok-rest.rest c.in_ok-first.ensures c.as_slice.ensures c.in_ok-rest.ensures)
    c.sum_of.ensures

pub term_of-returns : goal.term_of-returns
term_of-returns t c =
    subst (λ z. IfOk c.product_of.result (λ made. made ≡ z))
    (term_made c.args.schema.now c.args.tree.now c.in_ok-first.first c.as_slice.result.now c.in_ok-rest.rest c.in_ok-first.ensures c.as_slice.ensures c.in_ok-rest.ensures)
    c.product_of.ensures
