use Rattle.std.proofs.Common.{◌≡◌, ◌∙◌, ℕ, Bool, ◌<◌, ◌+◌, ◌++◌, ◌&&◌, false, length, map, ap, arith}
use Rattle.std.specs.Prelude.{slice_index_or}
use Rattle.batch_kernels.specs.Places.{places}
use Rattle.batch_scan.specs.Scans.{is_kept}
use Rattle.batch_scan.proofs.Kept.{places_more, places_none}
use Rattle.batch_scan.proofs.positions.positions_of.Goals as goal
use Rattle.batch_scan.proofs.positions.positions_of.Goals.{then-chosen-gt0+in_ok-push_chosen, else-chosen-gt0}

pub loop-from-preserved : goal.loop-from-preserved
loop-from-preserved c = record {
  within = omega (arith, c.min-count.ensures, c.loop-from-test.true);
  kept = λ flags shown same.
      let from = c.loop-from.from in
      let count = c.min-count.result in
      let mask = c.mask_of-mask.result in
      let test : ℕ → Bool = λ position. is_kept c.args.sieve.now position && slice_index_or flags position false in
      let agree : (i : ℕ) → i < count → slice_index_or mask i false ≡ test (from + i) = λ i less. c.mask_of-mask.ensures flags i shown (omega (arith, same, c.min-count.ensures, c.loop-from-test.true)) less in
      let before = c.loop-from.invariant.kept flags shown same in
      elim c.if-chosen-gt0.branch [
        | then-chosen-gt0+in_ok-push_chosen w ↦
            ap (λ v. v.items) w.positions-is ∙ w.in_ok-push_chosen.ensures ∙ ap (λ l. l ++ map (λ i. from + i) (places mask count)) before ∙ places_more test mask from count agree
        | else-chosen-gt0 w ↦
            let none : length (places mask count) ≡ 0 = omega (arith, c.chosen.ensures, w.if-chosen-gt0.false) in
            ap (λ v. v.items) w.positions-is ∙ before ∙ places_none test mask from count agree none
      ];
}
