use Rattle.std.proofs.Common.{rules, arith, ◌≡◌, ◌∙◌, ap, sym, ℕ, ℤ, pos, ◌+ℤ◌, ◌+◌, List, map, ◌++◌, ◌∷◌, [], FitsSigned, w64, to_z, of_z}
use Rattle.std.specs.List.{range_with_len}
use Rattle.std.proofs.lemmas.Int.{to_z-of_z}
use Rattle.std.proofs.lemmas.List.FromFn.{map-range_with_len_more}
use Rattle.batch_compute.proofs.numbers.series_numbers.Goals as goal

one_more : (start : ℤ) (i : ℕ) (before after : List ℤ) (number : ℤ) → before ≡ map (λ k. start +ℤ pos k) (range_with_len 0 i) → number ≡ start +ℤ pos i → after ≡ before ++ number ∷ []
    → after ≡ map (λ k. start +ℤ pos k) (range_with_len 0 (i + 1))
one_more start i before after number are is pushed =
    let from : 0 + i ≡ i = omega arith in
    pushed ∙ ap (λ xs. xs ++ number ∷ []) are ∙ ap (λ n. map (λ k. start +ℤ pos k) (range_with_len 0 i) ++ n ∷ []) is ∙ sym (map-range_with_len_more (λ k. start +ℤ pos k) 0 i i from)

pub loop-i-preserved : goal.loop-i-preserved
loop-i-preserved c =
    let fits : FitsSigned w64 c.number_at.result = search rules in
    one_more (to_z w64 (of_z w64 c.args.start)) c.loop-i.i c.loop-i.numbers.items _ (to_z w64 (of_z w64 c.number_at.result)) c.loop-i.invariant
    (to_z-of_z w64 c.number_at.result fits ∙ c.number_at.ensures) c.in_ok-push.ensures.items
