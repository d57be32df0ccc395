use Rattle.batch_compute.proofs.Nodes.{sums_made, products_made}
use Rattle.batch_compute.proofs.values.+values.Goals as goal

pub values-returns-in-Some-2 : goal.values-returns-in-Some-2
values-returns-in-Some-2 t c =
    let first = rw (c.in-Some-2.is, c.get-in-Sum.ensures) at c.in_ok-left-in-Sum.ensures in
    let chains = rw c.as_slice.ensures at c.sums_on.ensures in
    rw c.in-Sum.is (sums_made c.args.numbers.now c.in-Some-2.left.items c.in-Sum.first first c.in-Sum.rest c.sums_on.result chains)

pub values-returns-in-Some-3 : goal.values-returns-in-Some-3
values-returns-in-Some-3 t c =
    let first = rw (c.in-Some-3.is, c.get-in-Product.ensures) at c.in_ok-left-in-Product.ensures in
    let chains = rw c.as_slice-in-Some-3.ensures at c.products_on.ensures in
    rw c.in-Product.is (products_made c.args.numbers.now c.in-Some-3.left.items c.in-Product.first first c.in-Product.rest c.products_on.result chains)
