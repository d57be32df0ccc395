use Rattle.batch_filter.specs.Sieves.{asks}
use Rattle.batch_filter.proofs.SieveLemmas.{ok_alike, from_false}
use Rattle.batch_filter.proofs.VerdictLemmas.{any_true, any_false, all_true, all_false}
use Rattle.batch_filter.proofs.narrow.+narrow.Goals as goal

pub narrow-returns-then-holds : goal.narrow-returns-then-holds
narrow-returns-then-holds t c =
    ok_alike c.narrow_some.result _ (asks c.args.schema.now c.args.packed.now c.args.holds c.args.pred.now) c.args.mask.now _ c.narrow_some.new.mask
    (from_false _ _ c.in_ok-narrow_by_codes.ensures.not_done c.if-branch.false)
    (λ i. any_true c.args.schema.now c.args.packed.now c.args.holds c.args.pred.now c.in-AnyOf.parts c.as_slice.result.now i c.as_slice.ensures c.if-holds.true c.in-AnyOf.is)
    c.narrow_some.ensures

pub narrow-returns-else-holds : goal.narrow-returns-else-holds
narrow-returns-else-holds t c =
    ok_alike c.narrow_each.result _ (asks c.args.schema.now c.args.packed.now c.args.holds c.args.pred.now) c.args.mask.now _ c.narrow_each.new.mask
    (from_false _ _ c.in_ok-narrow_by_codes.ensures.not_done c.if-branch.false)
    (λ i. any_false c.args.schema.now c.args.packed.now c.args.holds c.args.pred.now c.in-AnyOf.parts c.as_slice-else-holds.result.now i c.as_slice-else-holds.ensures c.if-holds.false c.in-AnyOf.is)
    c.narrow_each.ensures

pub narrow-returns-then-holds-2 : goal.narrow-returns-then-holds-2
narrow-returns-then-holds-2 t c =
    ok_alike c.narrow_each-then-holds-2.result _ (asks c.args.schema.now c.args.packed.now c.args.holds c.args.pred.now) c.args.mask.now _ c.narrow_each-then-holds-2.new.mask
    (from_false _ _ c.in_ok-narrow_by_codes.ensures.not_done c.if-branch.false)
    (λ i. all_true c.args.schema.now c.args.packed.now c.args.holds c.args.pred.now c.in-AllOf.parts c.as_slice-then-holds-2.result.now i c.as_slice-then-holds-2.ensures c.if-holds-2.true c.in-AllOf.is)
    c.narrow_each-then-holds-2.ensures

pub narrow-returns-else-holds-2 : goal.narrow-returns-else-holds-2
narrow-returns-else-holds-2 t c =
    ok_alike c.narrow_some-else-holds-2.result _ (asks c.args.schema.now c.args.packed.now c.args.holds c.args.pred.now) c.args.mask.now _ c.narrow_some-else-holds-2.new.mask
    (from_false _ _ c.in_ok-narrow_by_codes.ensures.not_done c.if-branch.false)
    (λ i. all_false c.args.schema.now c.args.packed.now c.args.holds c.args.pred.now c.in-AllOf.parts c.as_slice-else-holds-2.result.now i c.as_slice-else-holds-2.ensures c.if-holds-2.false c.in-AllOf.is)
    c.narrow_some-else-holds-2.ensures
