use Rattle.std.proofs.Common.{◌<◌, ◌≤◌, ◌-◌, ℕ, ℤ, Option, ◌∙◌, sym, ap, subst, arith}
use Rattle.segment_value.specs.Scales.{Takes, code_of}
use Rattle.column_segment.specs.declared.body.SegmentBody.{SegmentBody}
use Rattle.column_segment.specs.Bodies.{code_in}
use Rattle.column_segment.specs.Dicts.{dict_codes}
use Rattle.column_segment.proofs.Last.{HasLast, last_of, has-last, last-known, last-most, last-reached}
use Rattle.column_segment.proofs.segment.Segment.last_code.Goals as goal

pub shrink-requires : goal.shrink-requires
shrink-requires c =
    let P : SegmentBody → Type 0 = λ b. HasLast b c.args.self.now.greatest in
    let Q : Option ℤ → Type 0 = λ o. Takes c.in-ValuePacked.scale o in
    subst Q (sym c.as_number.ensures) (subst P c.in-ValuePacked.is (has-last c.args.self.now.length c.args.self.now.least c.args.self.now.greatest c.args.self.now.nulls c.args.self.now.body c.args.self.now.of_cells c.requires))

pub returns-in-ValuePacked-clause-known : goal.returns-in-ValuePacked-clause-known
returns-in-ValuePacked-clause-known c = λ code low.
    let P : ℕ → Type 0 = λ n. code ≤ n in
    last-known c.args.self.now.length c.args.self.now.least c.args.self.now.greatest c.args.self.now.nulls c.args.self.now.body c.args.self.now.of_cells c.requires code (subst P (c.shrink.ensures.code ∙ ap (code_of c.in-ValuePacked.scale) c.as_number.ensures ∙ sym (ap (λ b. last_of b c.args.self.now.greatest) c.in-ValuePacked.is)) low)

pub returns-in-ValuePacked-clause-most : goal.returns-in-ValuePacked-clause-most
returns-in-ValuePacked-clause-most c = λ i low.
    let P : ℕ → Type 0 = λ n. code_in c.args.self.now.body i ≤ n in
    subst P (sym (c.shrink.ensures.code ∙ ap (code_of c.in-ValuePacked.scale) c.as_number.ensures ∙ sym (ap (λ b. last_of b c.args.self.now.greatest) c.in-ValuePacked.is))) (last-most c.args.self.now.length c.args.self.now.least c.args.self.now.greatest c.args.self.now.nulls c.args.self.now.body c.args.self.now.of_cells i low)

pub returns-in-ValuePacked-clause-reached : goal.returns-in-ValuePacked-clause-reached
returns-in-ValuePacked-clause-reached c =
    let (i, low, is) = last-reached c.args.self.now.length c.args.self.now.least c.args.self.now.greatest c.args.self.now.nulls c.args.self.now.body c.args.self.now.of_cells c.requires in
    (i, low, is ∙ sym (c.shrink.ensures.code ∙ ap (code_of c.in-ValuePacked.scale) c.as_number.ensures ∙ sym (ap (λ b. last_of b c.args.self.now.greatest) c.in-ValuePacked.is)))

pub shrink-requires-in-ValueRuns : goal.shrink-requires-in-ValueRuns
shrink-requires-in-ValueRuns c =
    let P : SegmentBody → Type 0 = λ b. HasLast b c.args.self.now.greatest in
    let Q : Option ℤ → Type 0 = λ o. Takes c.in-ValueRuns.scale o in
    subst Q (sym c.as_number-in-ValueRuns.ensures) (subst P c.in-ValueRuns.is (has-last c.args.self.now.length c.args.self.now.least c.args.self.now.greatest c.args.self.now.nulls c.args.self.now.body c.args.self.now.of_cells c.requires))

pub returns-in-ValueRuns-clause-known : goal.returns-in-ValueRuns-clause-known
returns-in-ValueRuns-clause-known c = λ code low.
    let P : ℕ → Type 0 = λ n. code ≤ n in
    last-known c.args.self.now.length c.args.self.now.least c.args.self.now.greatest c.args.self.now.nulls c.args.self.now.body c.args.self.now.of_cells c.requires code (subst P (c.shrink-in-ValueRuns.ensures.code ∙ ap (code_of c.in-ValueRuns.scale) c.as_number-in-ValueRuns.ensures ∙ sym (ap (λ b. last_of b c.args.self.now.greatest) c.in-ValueRuns.is)) low)

pub returns-in-ValueRuns-clause-most : goal.returns-in-ValueRuns-clause-most
returns-in-ValueRuns-clause-most c = λ i low.
    let P : ℕ → Type 0 = λ n. code_in c.args.self.now.body i ≤ n in
    subst P (sym (c.shrink-in-ValueRuns.ensures.code ∙ ap (code_of c.in-ValueRuns.scale) c.as_number-in-ValueRuns.ensures ∙ sym (ap (λ b. last_of b c.args.self.now.greatest) c.in-ValueRuns.is))) (last-most c.args.self.now.length c.args.self.now.least c.args.self.now.greatest c.args.self.now.nulls c.args.self.now.body c.args.self.now.of_cells i low)

pub returns-in-ValueRuns-clause-reached : goal.returns-in-ValueRuns-clause-reached
returns-in-ValueRuns-clause-reached c =
    let (i, low, is) = last-reached c.args.self.now.length c.args.self.now.least c.args.self.now.greatest c.args.self.now.nulls c.args.self.now.body c.args.self.now.of_cells c.requires in
    (i, low, is ∙ sym (c.shrink-in-ValueRuns.ensures.code ∙ ap (code_of c.in-ValueRuns.scale) c.as_number-in-ValueRuns.ensures ∙ sym (ap (λ b. last_of b c.args.self.now.greatest) c.in-ValueRuns.is)))

pub overflow_sub-result : goal.overflow_sub-result
overflow_sub-result c =
    let P : SegmentBody → Type 0 = λ b. HasLast b c.args.self.now.greatest in
    let some : 0 < dict_codes c.in-DictPacked.dict = subst P c.in-DictPacked.is (has-last c.args.self.now.length c.args.self.now.least c.args.self.now.greatest c.args.self.now.nulls c.args.self.now.body c.args.self.now.of_cells c.requires) in
    omega (arith, some, c.codes_of.ensures)

pub returns-in-DictPacked-clause-known : goal.returns-in-DictPacked-clause-known
returns-in-DictPacked-clause-known c = λ code low.
    let P : ℕ → Type 0 = λ n. code ≤ n in
    last-known c.args.self.now.length c.args.self.now.least c.args.self.now.greatest c.args.self.now.nulls c.args.self.now.body c.args.self.now.of_cells c.requires code (subst P (ap (λ n. n - 1) c.codes_of.ensures ∙ sym (ap (λ b. last_of b c.args.self.now.greatest) c.in-DictPacked.is)) low)

pub returns-in-DictPacked-clause-most : goal.returns-in-DictPacked-clause-most
returns-in-DictPacked-clause-most c = λ i low.
    let P : ℕ → Type 0 = λ n. code_in c.args.self.now.body i ≤ n in
    subst P (sym (ap (λ n. n - 1) c.codes_of.ensures ∙ sym (ap (λ b. last_of b c.args.self.now.greatest) c.in-DictPacked.is))) (last-most c.args.self.now.length c.args.self.now.least c.args.self.now.greatest c.args.self.now.nulls c.args.self.now.body c.args.self.now.of_cells i low)

pub returns-in-DictPacked-clause-reached : goal.returns-in-DictPacked-clause-reached
returns-in-DictPacked-clause-reached c =
    let (i, low, is) = last-reached c.args.self.now.length c.args.self.now.least c.args.self.now.greatest c.args.self.now.nulls c.args.self.now.body c.args.self.now.of_cells c.requires in
    (i, low, is ∙ sym (ap (λ n. n - 1) c.codes_of.ensures ∙ sym (ap (λ b. last_of b c.args.self.now.greatest) c.in-DictPacked.is)))

pub overflow_sub-result-in-DictRuns : goal.overflow_sub-result-in-DictRuns
overflow_sub-result-in-DictRuns c =
    let P : SegmentBody → Type 0 = λ b. HasLast b c.args.self.now.greatest in
    let some : 0 < dict_codes c.in-DictRuns.dict = subst P c.in-DictRuns.is (has-last c.args.self.now.length c.args.self.now.least c.args.self.now.greatest c.args.self.now.nulls c.args.self.now.body c.args.self.now.of_cells c.requires) in
    omega (arith, some, c.codes_of-in-DictRuns.ensures)

pub returns-in-DictRuns-clause-known : goal.returns-in-DictRuns-clause-known
returns-in-DictRuns-clause-known c = λ code low.
    let P : ℕ → Type 0 = λ n. code ≤ n in
    last-known c.args.self.now.length c.args.self.now.least c.args.self.now.greatest c.args.self.now.nulls c.args.self.now.body c.args.self.now.of_cells c.requires code (subst P (ap (λ n. n - 1) c.codes_of-in-DictRuns.ensures ∙ sym (ap (λ b. last_of b c.args.self.now.greatest) c.in-DictRuns.is)) low)

pub returns-in-DictRuns-clause-most : goal.returns-in-DictRuns-clause-most
returns-in-DictRuns-clause-most c = λ i low.
    let P : ℕ → Type 0 = λ n. code_in c.args.self.now.body i ≤ n in
    subst P (sym (ap (λ n. n - 1) c.codes_of-in-DictRuns.ensures ∙ sym (ap (λ b. last_of b c.args.self.now.greatest) c.in-DictRuns.is))) (last-most c.args.self.now.length c.args.self.now.least c.args.self.now.greatest c.args.self.now.nulls c.args.self.now.body c.args.self.now.of_cells i low)

pub returns-in-DictRuns-clause-reached : goal.returns-in-DictRuns-clause-reached
returns-in-DictRuns-clause-reached c =
    let (i, low, is) = last-reached c.args.self.now.length c.args.self.now.least c.args.self.now.greatest c.args.self.now.nulls c.args.self.now.body c.args.self.now.of_cells c.requires in
    (i, low, is ∙ sym (ap (λ n. n - 1) c.codes_of-in-DictRuns.ensures ∙ sym (ap (λ b. last_of b c.args.self.now.greatest) c.in-DictRuns.is)))
