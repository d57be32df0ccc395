use Rattle.std.proofs.Common.{◌≡◌, ◌+◌, ◌<◌, ◌≤◌, ◌⊎◌, inl, inr, false, ◌&&◌, slice_index, slice_index_or, length, ap, sym, ◌∙◌, arith}
use Rattle.std.proofs.lemmas.Bool.{cases_lt}
use Rattle.std.proofs.lemmas.Grind.{get_or-set_at}
use Rattle.std.proofs.lemmas.List.{get_or-set_other, length-set}
use Rattle.batch_kernels.specs.Masks.{in_span}
use Rattle.batch_kernels.proofs.masks.narrow_by_span.Goals as goal

pub loop-i-preserved : goal.loop-i-preserved
loop-i-preserved c =
    let mask = c.loop-i.mask in
    let from = c.args.from in
    let i = c.loop-i.i in
    let v = slice_index_or mask (from + i) false && c.has.result in
    let within : from + i < length mask = omega (arith, c.loop-i.invariant.same, c.requires.within, c.loop-i-test.true) in
    record {
      same = length-set mask (from + i) v ∙ c.loop-i.invariant.same;
      done = λ k below. elim (cases_lt k i) [
        | inl less ↦
            get_or-set_other mask (from + i) (from + k) v false (λ same. omega (arith, less, same)) ∙ c.loop-i.invariant.done k less
        | inr more ↦
            let same : k ≡ i = omega (arith, below, more) in
            get_or-set_at mask (from + i) (from + k) v false (omega (arith, same)) within
            ∙ ap (λ b. slice_index_or mask (from + i) false && b) c.has.ensures
            ∙ ap (λ b. b && in_span c.args.span (slice_index c.args.codes.now i)) (c.loop-i.invariant.others (from + i) (inr (omega arith)))
            ∙ ap (λ j. slice_index_or c.args.mask.now (from + j) false && in_span c.args.span (slice_index c.args.codes.now j)) (sym same)
      ];
      others = λ k out.
          let apart : k ≡ from + i → ⊥ = elim out [
            | inl before ↦ λ same. omega (arith, before, same)
            | inr after ↦ λ same. omega (arith, after, same)
          ] in
          let out_before : (k < from) ⊎ (from + i ≤ k) = elim out [
            | inl before ↦ inl before
            | inr after ↦ inr (omega (arith, after))
          ] in
          get_or-set_other mask (from + i) k v false apart ∙ c.loop-i.invariant.others k out_before;
    }
