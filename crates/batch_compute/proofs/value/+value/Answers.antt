use Rattle.std.proofs.Common.{rules, ◌≡◌, ◌≤◌, ◌∙◌, sym, ap, ℕ, ℤ, List, map, drop, length, Ok, FitsSigned, w64}
use Rattle.std.proofs.lemmas.Int.{to_z-of_z}
use Rattle.std.proofs.lemmas.List.{drop_all}
use Rattle.cs_types.specs.declared.Loose.TheVariants.{Number}
use Rattle.cs_model.specs.Expressions.{Computed, chain, product, sum}
use Rattle.batch_compute.proofs.Nodes.{under_sign, in_sums, in_products}
use Rattle.batch_compute.proofs.value.+value.Goals as goal

-- a chain at its end
ended : {Op X : Type 0} (f : Op → ℤ → ℤ → Computed) (part : X → Op × Computed) (left total : ℤ) (rest : List X) (i : ℕ) → length rest ≤ i
    → chain f (Number total 0) (map part (drop i rest)) ≡ chain f (Number left 0) (map part rest) → chain f (Number left 0) (map part rest) ≡ Ok (Number total 0)
ended f part left total rest i end before = sym before ∙ ap (λ parts. chain f (Number total 0) (map part parts)) (drop_all i rest end)

pub product_on-returns : goal.product_on-returns
product_on-returns t c =
    let left : FitsSigned w64 c.args.left = c.ranges.left in
    let number : FitsSigned w64 c.args.number = c.ranges.number in
    ended product _ c.args.left _ c.args.rest.now c.loop-part.part-index (search rules) (simp to_z-of_z at c.loop-part.invariant)

pub sum_on-returns : goal.sum_on-returns
sum_on-returns t c =
    let left : FitsSigned w64 c.args.left = c.ranges.left in
    let number : FitsSigned w64 c.args.number = c.ranges.number in
    ended sum _ c.args.left _ c.args.rest.now c.loop-part.part-index (search rules) (simp to_z-of_z at c.loop-part.invariant)

pub value-returns-in_ok-value-in-Signed : goal.value-returns-in_ok-value-in-Signed
value-returns-in_ok-value-in-Signed t c =
    let number : FitsSigned w64 c.args.number = c.ranges.number in
    let value : FitsSigned w64 c.in_ok-value-in-Signed.field-0 = search rules in
    let part = rw c.get.ensures at (simp to_z-of_z at c.in_ok-value-in-Signed.ensures) in
    rw c.in-Signed.is (under_sign c.args.number c.in_ok-value-in-Signed.field-0 c.in-Signed.minus c.in-Signed.part c.signed.result part (simp to_z-of_z at c.signed.ensures))

pub value-returns-in_ok-value-in-Sum : goal.value-returns-in_ok-value-in-Sum
value-returns-in_ok-value-in-Sum t c =
    let number : FitsSigned w64 c.args.number = c.ranges.number in
    let value : FitsSigned w64 c.in_ok-value-in-Sum.field-0 = search rules in
    let first = rw c.get-in-Sum.ensures at (simp to_z-of_z at c.in_ok-value-in-Sum.ensures) in
    let rest = rw c.as_slice.ensures at (simp to_z-of_z at c.sum_on.ensures) in
    rw c.in-Sum.is (in_sums c.args.number c.in_ok-value-in-Sum.field-0 c.in-Sum.first c.in-Sum.rest c.sum_on.result first rest)

pub value-returns-in_ok-value-in-Product : goal.value-returns-in_ok-value-in-Product
value-returns-in_ok-value-in-Product t c =
    let number : FitsSigned w64 c.args.number = c.ranges.number in
    let value : FitsSigned w64 c.in_ok-value-in-Product.field-0 = search rules in
    let first = rw c.get-in-Product.ensures at (simp to_z-of_z at c.in_ok-value-in-Product.ensures) in
    let rest = rw c.as_slice-in-Product.ensures at (simp to_z-of_z at c.product_on.ensures) in
    rw c.in-Product.is (in_products c.args.number c.in_ok-value-in-Product.field-0 c.in-Product.first c.in-Product.rest c.product_on.result first rest)
