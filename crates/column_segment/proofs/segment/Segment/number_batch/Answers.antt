use Rattle.std.proofs.Common.{◌+◌, ◌∙◌, sym, ap, subst, get_or}
use Rattle.cs_types.specs.Rows.{number_in, number_cell}
use Rattle.segment_value.specs.Scales.{cell_of}
use Rattle.column_segment.specs.declared.body.SegmentBody.{SegmentBody}
use Rattle.column_segment.specs.Dicts.{dict_cell}
use Rattle.column_segment.specs.Bodies.{IsKnown, code_in, cell_of_code}
use Rattle.column_segment.proofs.Last.{HasSmallExponent, small-exponent, number-shown}
use Rattle.column_segment.proofs.segment.Segment.number_batch.Goals as goal

pub restore_all-requires-clause-exponent : goal.restore_all-requires-clause-exponent
restore_all-requires-clause-exponent c =
    let P : SegmentBody → Type 0 = λ b. HasSmallExponent b in
    subst P c.in-ValuePacked.is (small-exponent c.args.self.now.length c.args.self.now.least c.args.self.now.greatest c.args.self.now.nulls c.args.self.now.body c.args.self.now.of_cells)

pub restore_all-requires-clause-codes : goal.restore_all-requires-clause-codes
restore_all-requires-clause-codes c = λ i low.
    let P : SegmentBody → Type 0 = λ b. IsKnown b (get_or c.code_batch.new.out i 0) in
    subst P c.in-ValuePacked.is (c.code_batch.ensures.known i low)

pub returns-in-ValuePacked-clause-numbers : goal.returns-in-ValuePacked-clause-numbers
returns-in-ValuePacked-clause-numbers c = λ i low.
    c.restore_all.ensures.numbers i low
    ∙ number-shown (cell_of c.in-ValuePacked.scale (get_or c.code_batch.new.out i 0))
    ∙ ap (λ n. number_in (number_cell (cell_of c.in-ValuePacked.scale n))) (c.code_batch.ensures.codes i low)
    ∙ sym (ap (λ b. number_in (cell_of_code b (code_in c.args.self.now.body (c.args.from + i)))) c.in-ValuePacked.is)

pub restore_all-requires-in-ValueRuns-clause-exponent : goal.restore_all-requires-in-ValueRuns-clause-exponent
restore_all-requires-in-ValueRuns-clause-exponent c =
    let P : SegmentBody → Type 0 = λ b. HasSmallExponent b in
    subst P c.in-ValueRuns.is (small-exponent c.args.self.now.length c.args.self.now.least c.args.self.now.greatest c.args.self.now.nulls c.args.self.now.body c.args.self.now.of_cells)

pub restore_all-requires-in-ValueRuns-clause-codes : goal.restore_all-requires-in-ValueRuns-clause-codes
restore_all-requires-in-ValueRuns-clause-codes c = λ i low.
    let P : SegmentBody → Type 0 = λ b. IsKnown b (get_or c.code_batch.new.out i 0) in
    subst P c.in-ValueRuns.is (c.code_batch.ensures.known i low)

pub returns-in-ValueRuns-clause-numbers : goal.returns-in-ValueRuns-clause-numbers
returns-in-ValueRuns-clause-numbers c = λ i low.
    c.restore_all-in-ValueRuns.ensures.numbers i low
    ∙ number-shown (cell_of c.in-ValueRuns.scale (get_or c.code_batch.new.out i 0))
    ∙ ap (λ n. number_in (number_cell (cell_of c.in-ValueRuns.scale n))) (c.code_batch.ensures.codes i low)
    ∙ sym (ap (λ b. number_in (cell_of_code b (code_in c.args.self.now.body (c.args.from + i)))) c.in-ValueRuns.is)

pub put_numbers-requires-clause-codes : goal.put_numbers-requires-clause-codes
put_numbers-requires-clause-codes c = λ i low.
    let P : SegmentBody → Type 0 = λ b. IsKnown b (get_or c.code_batch.new.out i 0) in
    subst P c.in-DictPacked.is (c.code_batch.ensures.known i low)

pub returns-in-DictPacked-clause-numbers : goal.returns-in-DictPacked-clause-numbers
returns-in-DictPacked-clause-numbers c = λ i low.
    c.put_numbers.ensures.numbers i low
    ∙ ap (λ n. number_in (dict_cell c.in-DictPacked.dict n)) (c.code_batch.ensures.codes i low)
    ∙ sym (ap (λ b. number_in (cell_of_code b (code_in c.args.self.now.body (c.args.from + i)))) c.in-DictPacked.is)

pub put_numbers-requires-in-DictRuns-clause-codes : goal.put_numbers-requires-in-DictRuns-clause-codes
put_numbers-requires-in-DictRuns-clause-codes c = λ i low.
    let P : SegmentBody → Type 0 = λ b. IsKnown b (get_or c.code_batch.new.out i 0) in
    subst P c.in-DictRuns.is (c.code_batch.ensures.known i low)

pub returns-in-DictRuns-clause-numbers : goal.returns-in-DictRuns-clause-numbers
returns-in-DictRuns-clause-numbers c = λ i low.
    c.put_numbers-in-DictRuns.ensures.numbers i low
    ∙ ap (λ n. number_in (dict_cell c.in-DictRuns.dict n)) (c.code_batch.ensures.codes i low)
    ∙ sym (ap (λ b. number_in (cell_of_code b (code_in c.args.self.now.body (c.args.from + i)))) c.in-DictRuns.is)
