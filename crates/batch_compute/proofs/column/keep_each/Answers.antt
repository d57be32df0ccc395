use Rattle.std.proofs.Common.{rules, arith, ◌≡◌, ◌<◌, ◌∙◌, length, ap, sym, ℤ, Ok, FitsSigned, w64, to_z, of_z}
use Rattle.std.proofs.lemmas.Int.{to_z-of_z}
use Rattle.cs_types.specs.declared.Loose.TheVariants as loose
use Rattle.cs_types.specs.declared.Value.TheVariants.{Number}
use Rattle.cs_model.specs.Answers.{kept}
use Rattle.batch_compute.specs.Values.{at}
use Rattle.batch_compute.proofs.Places.{done_more, left_more}
use Rattle.batch_compute.proofs.column.keep_each.Goals as goal

pub loop-number-preserved : goal.loop-number-preserved
loop-number-preserved c =
    let old = c.args.numbers.now in
    let numbers = c.loop-number.numbers in
    let i = c.loop-number.number-index in
    let within : c.loop-number.number-index < length c.loop-number.numbers = omega arith in
    let number : FitsSigned w64 (at c.loop-number.numbers c.loop-number.number-index) = search rules in
    let cell : FitsSigned w64 c.in-Some.kept = search rules in
    let keeps = λ (z : ℤ). kept c.args.column.now (Ok (loose.Number z 0)) in
    let written = to_z w64 (of_z w64 c.in-Some.kept) in
    record {
      done = done_more (λ k z. keeps (at old k) ≡ Ok (Number z)) numbers i written within c.loop-number.invariant.done
          (ap keeps (sym (c.loop-number.invariant.left i (omega arith)) ∙ sym (to_z-of_z w64 (at numbers i) number)) ∙ c.in-Some.ensures ∙ ap (λ z. Ok (Number z)) (sym (to_z-of_z w64 c.in-Some.kept cell)));
      left = left_more old numbers i written c.loop-number.invariant.left;
    }
