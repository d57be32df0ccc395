use Rattle.std.proofs.Common.{◌≡◌, ◌+◌, ◌-◌, ◌<◌, ◌≤◌, ℕ, false, eqb, inl, inr, length, get_or, set, below_more, ◌∙◌, arith}
use Rattle.std.specs.Int.{bit_at}
use Rattle.std.proofs.lemmas.List.{length-set, get_or-set_same, get_or-set_other}
use Rattle.delete_bitmap.proofs.positions.put_each.Goals as goal

pub loop-i-preserved : goal.loop-i-preserved
loop-i-preserved c =
    let i : ℕ = c.loop-i.i in
    let from : c.args.from ≤ c.loop-i.i = c.loop-i.auto.i in
    let low : c.loop-i.i < c.args.to = c.loop-i-test.true in
    let there : c.loop-i.i < length c.loop-i.out = omega (arith, low, c.requires.places.1, c.loop-i.invariant.len) in
    record {
      len = length-set c.loop-i.out i c.is_one.result ∙ c.loop-i.invariant.len;
      put = λ k first less. below_more (λ j. c.args.from ≤ j → get_or (set c.loop-i.out i c.is_one.result) j false ≡ eqb (bit_at c.args.word (c.args.bit + (j - c.args.from))) 1) i
          (λ j below at_least. get_or-set_other c.loop-i.out i j c.is_one.result false (λ e. omega (arith, e, below)) ∙ c.loop-i.invariant.put j at_least below)
          (λ at_least. get_or-set_same c.loop-i.out i c.is_one.result false there ∙ c.is_one.ensures) k less first;
      others = λ k out. elim out [
        | inl before ↦ get_or-set_other c.loop-i.out i k c.is_one.result false (λ e. omega (arith, e, before, from)) ∙ c.loop-i.invariant.others k (inl before)
        | inr past ↦ get_or-set_other c.loop-i.out i k c.is_one.result false (λ e. omega (arith, e, past)) ∙ c.loop-i.invariant.others k (inr (omega (arith, past)))
      ];
    }

pub returns-clause-others : goal.returns-clause-others
returns-clause-others c = λ k out. elim out [
  | inl before ↦ c.loop-i.invariant.others k (inl before)
  | inr past ↦ c.loop-i.invariant.others k (inr (let most = c.loop-i.auto.i-end c.requires.places.0 in omega (arith, most, past)))
]
