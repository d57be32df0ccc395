use Rattle.std.proofs.Common.{◌≡◌, ◌<◌, ◌≤◌, ℕ, inl, inr, length, get_or, set, below_more, ◌∙◌, arith}
use Rattle.std.proofs.lemmas.Bool.{cases_lt}
use Rattle.std.proofs.lemmas.List.{length-set, get_or-set_same, get_or-set_other}
use Rattle.column_segment.proofs.segment.put_code.Goals as goal

pub loop-place-preserved : goal.loop-place-preserved
loop-place-preserved c =
    let i : ℕ = c.loop-place.place in
    let from : c.args.from ≤ c.loop-place.place = c.loop-place.auto.place in
    let low : c.loop-place.place < c.args.to = c.loop-place-test.true in
    let there : c.loop-place.place < length c.loop-place.out = omega (arith, low, c.requires, c.loop-place.invariant.len) in
    record {
      len = length-set c.loop-place.out i c.args.code ∙ c.loop-place.invariant.len;
      near = λ turned. absurd (omega (arith, turned, from, low));
      put = λ k first less. below_more (λ j. c.args.from ≤ j → get_or (set c.loop-place.out i c.args.code) j 0 ≡ c.args.code) i
          (λ j below at_least. get_or-set_other c.loop-place.out i j c.args.code 0 (λ e. omega (arith, e, below)) ∙ c.loop-place.invariant.put j at_least below)
          (λ at_least. get_or-set_same c.loop-place.out i c.args.code 0 there) k less first;
      others = λ k out. elim out [
        | inl before ↦ get_or-set_other c.loop-place.out i k c.args.code 0 (λ e. omega (arith, e, before, from)) ∙ c.loop-place.invariant.others k (inl before)
        | inr past ↦ get_or-set_other c.loop-place.out i k c.args.code 0 (λ e. omega (arith, e, past)) ∙ c.loop-place.invariant.others k (inr (omega (arith, past)))
      ];
    }

pub returns-clause-others : goal.returns-clause-others
returns-clause-others c = λ k out. elim out [
  | inl before ↦ c.loop-place.invariant.others k (inl before)
  | inr past ↦ elim (cases_lt k c.args.from) [
    | inl before ↦ c.loop-place.invariant.others k (inl before)
    | inr first ↦ c.loop-place.invariant.others k (inr (elim (cases_lt c.args.to c.args.from) [
      | inl turned ↦ let near = c.loop-place.invariant.near turned in omega (arith, near, first)
      | inr right ↦ let most = c.loop-place.auto.place-end right in omega (arith, most, past)
    ]))
  ]
]
