use Rattle.std.proofs.Common.{◌∙◌, refl, sym}
use Rattle.std.proofs.lemmas.Bool.{and_from}
use Rattle.cs_model.specs.Truths.{truth}
use Rattle.row_work.proofs.Bounded.{all_parts, among_all, key_between}
use Rattle.row_work.proofs.Constants.{key_small}
use Rattle.row_work.proofs.NamedRows.{and_first, and_second, part_true}
use Rattle.row_work.proofs.bounds.+bounded.Goals as goal

pub bounds_of-returns-in-AllOf : goal.bounds_of-returns-in-AllOf
bounds_of-returns-in-AllOf t c = λ key row stands is.
    c.bounds_of_all.ensures key row stands (all_parts c.args.schema.now row c.args.pred.now c.in-AllOf.parts c.as_slice.result.now c.in-AllOf.is c.as_slice.ensures is)

pub bounds_of-returns-in-Between-default-false-default-default : goal.bounds_of-returns-in-Between-default-false-default-default
bounds_of-returns-in-Between-default-false-default-default t c = λ key row stands is.
    let schema = c.args.schema.now in
    let case = c.in-Between-default-false-default-default in
    let holds = key_between schema row c.args.pred.now case.column case.negated case.low case.high case.is (sym case.negated-is ∙ case.negated-test) c.if-column-schema.true is in
    c.meet.ensures key
    ∙ and_from _ _ (c.bounds_beside.ensures schema key row c.requires stands (and_first _ _ holds)) (c.bounds_beside-in-Between-default-false-default-default.ensures schema key row c.requires stands (and_second _ _ holds))

pub bounds_of-returns-in_default : goal.bounds_of-returns-in_default
bounds_of-returns-in_default t c = λ key row stands is. among_all _ key refl refl (key_small c.args.schema.now key row c.requires stands)

pub bounds_of-returns-in_default-2 : goal.bounds_of-returns-in_default-2
bounds_of-returns-in_default-2 t c = λ key row stands is. among_all _ key refl refl (key_small c.args.schema.now key row c.requires stands)

pub bounds_of-returns-in_default-3 : goal.bounds_of-returns-in_default-3
bounds_of-returns-in_default-3 t c = λ key row stands is. among_all _ key refl refl (key_small c.args.schema.now key row c.requires stands)

pub bounds_of_all-loop-part-init : goal.bounds_of_all-loop-part-init
bounds_of_all-loop-part-init t c = λ key row stands is. among_all _ key refl refl (key_small c.args.schema.now key row c.requires stands)

pub bounds_of_all-loop-part-preserved : goal.bounds_of_all-loop-part-preserved
bounds_of_all-loop-part-preserved t c = λ key row stands is.
    c.meet-bounds.ensures key
    ∙ and_from _ _ (c.loop-part.invariant key row stands is)
    (c.bounds_of.ensures key row stands (part_true (λ part. truth part row c.args.schema.now) c.args.parts.now c.loop-part.part-index c.part-item.result c.loop-part-test.true c.part-item.is is))
