use Rattle.std.proofs.Common.{◌≡◌, ◌+◌, ◌-◌, ℕ, take, drop, sym, ap, ◌∙◌, arith}
use Rattle.std.specs.List.{list_any}
use Rattle.batch_kernels.specs.Masks.{same_as}
use Rattle.batch_kernels.proofs.Blocks.{any-block, any-first}
use Rattle.batch_kernels.proofs.masks.has_any.Goals as goal

pub returns-then-has_in_block : goal.returns-then-has_in_block
returns-then-has_in_block c =
    let mask = c.args.mask.now in
    let asked = same_as c.args.wanted in
    let from = c.loop-from.from in
    let n : ℕ = c.min-count.result in
    let last : n ≡ from + n - from = omega arith in
    sym (any-first asked mask (from + n)
    (any-block asked mask from n c.loop-from.invariant.none
    ∙ ap (λ m. list_any asked (take m (drop from mask))) last
    ∙ sym c.has_in_block.ensures
    ∙ c.if-has_in_block.true))

pub loop-from-preserved : goal.loop-from-preserved
loop-from-preserved c =
    let mask = c.args.mask.now in
    let asked = same_as c.args.wanted in
    let from = c.loop-from.from in
    let n : ℕ = c.min-count.result in
    let last : n ≡ from + n - from = omega arith in
    record {
      within = omega (arith, c.min-count.ensures, c.loop-from.invariant.within);
      none =
          any-block asked mask from n c.loop-from.invariant.none
          ∙ ap (λ m. list_any asked (take m (drop from mask))) last
          ∙ sym c.has_in_block.ensures
          ∙ c.if-has_in_block.false;
    }
