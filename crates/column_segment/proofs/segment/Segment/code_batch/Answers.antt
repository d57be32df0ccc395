use Rattle.std.proofs.Common.{◌≡◌, ℕ, List, ◌+◌, ◌*◌, ◌≤◌, ◌<◌, length, get_or, sym, ap, ◌∙◌, subst, arith}
use Rattle.bit_pack.specs.Codes.{code_at}
use Rattle.segment_rle.specs.Runs.{covered}
use Rattle.column_segment.specs.Bodies.{code_in}
use Rattle.column_segment.specs.declared.body.SegmentBody.{SegmentBody}
use Rattle.column_segment.proofs.Readings.{room-between}
use Rattle.column_segment.proofs.Kept.{IsReadable, readable, known-at}
use Rattle.column_segment.proofs.segment.Segment.code_batch.Goals as goal

pub unpack_width-requires-clause-there : goal.unpack_width-requires-clause-there
unpack_width-requires-clause-there c = λ some.
    let P : SegmentBody → Type 0 = λ b. IsReadable c.args.self.now.length b in
    let reads = subst P c.in-ValuePacked.is (readable c.args.self.now.length c.args.self.now.body c.args.self.now.least c.args.self.now.greatest c.args.self.now.nulls c.args.self.now.of_cells) in
    let Q : List ℕ → Type 0 = λ l. (c.args.from + c.args.count) * c.in-ValuePacked.width ≤ 64 * length l in
    subst Q (sym c.as_slice.ensures) (room-between c.args.self.now.length c.in-ValuePacked.width c.args.from c.args.count (length c.in-ValuePacked.codes) reads.1 c.requires.there)

pub codes_of_runs-requires-clause-there : goal.codes_of_runs-requires-clause-there
codes_of_runs-requires-clause-there c =
    let P : SegmentBody → Type 0 = λ b. IsReadable c.args.self.now.length b in
    let reads : covered c.in-ValueRuns.runs.ends ≡ c.args.self.now.length = subst P c.in-ValueRuns.is (readable c.args.self.now.length c.args.self.now.body c.args.self.now.least c.args.self.now.greatest c.args.self.now.nulls c.args.self.now.of_cells) in
    let Q : ℕ → Type 0 = λ n. c.args.from + c.args.count ≤ n in
    subst Q (sym reads) c.requires.there

pub unpack_width-requires-in-DictPacked-clause-width : goal.unpack_width-requires-in-DictPacked-clause-width
unpack_width-requires-in-DictPacked-clause-width c =
    let P : SegmentBody → Type 0 = λ b. IsReadable c.args.self.now.length b in
    (subst P c.in-DictPacked.is (readable c.args.self.now.length c.args.self.now.body c.args.self.now.least c.args.self.now.greatest c.args.self.now.nulls c.args.self.now.of_cells)).0

pub unpack_width-requires-in-DictPacked-clause-there : goal.unpack_width-requires-in-DictPacked-clause-there
unpack_width-requires-in-DictPacked-clause-there c = λ some.
    let P : SegmentBody → Type 0 = λ b. IsReadable c.args.self.now.length b in
    let reads = subst P c.in-DictPacked.is (readable c.args.self.now.length c.args.self.now.body c.args.self.now.least c.args.self.now.greatest c.args.self.now.nulls c.args.self.now.of_cells) in
    let Q : List ℕ → Type 0 = λ l. (c.args.from + c.args.count) * c.in-DictPacked.width ≤ 64 * length l in
    subst Q (sym c.as_slice-in-DictPacked.ensures) (room-between c.args.self.now.length c.in-DictPacked.width c.args.from c.args.count (length c.in-DictPacked.codes) reads.1 c.requires.there)

pub codes_of_runs-requires-in-DictRuns-clause-there : goal.codes_of_runs-requires-in-DictRuns-clause-there
codes_of_runs-requires-in-DictRuns-clause-there c =
    let P : SegmentBody → Type 0 = λ b. IsReadable c.args.self.now.length b in
    let reads : covered c.in-DictRuns.runs.ends ≡ c.args.self.now.length = subst P c.in-DictRuns.is (readable c.args.self.now.length c.args.self.now.body c.args.self.now.least c.args.self.now.greatest c.args.self.now.nulls c.args.self.now.of_cells) in
    let Q : ℕ → Type 0 = λ n. c.args.from + c.args.count ≤ n in
    subst Q (sym reads) c.requires.there

pub returns-in-ValuePacked-clause-known : goal.returns-in-ValuePacked-clause-known
returns-in-ValuePacked-clause-known c = λ i low.
    let at : c.args.from + i < c.args.self.now.length = omega (arith, low, c.requires.there) in
    let first : i ≡ 0 + i = omega arith in
    known-at c.args.self.now.length c.args.self.now.body c.args.self.now.least c.args.self.now.greatest c.args.self.now.nulls c.args.self.now.of_cells (c.args.from + i) _ at
    (ap (λ k. get_or c.unpack_width.new.out k 0) first ∙ c.unpack_width.ensures.0 i low
    ∙ ap (λ (l : List ℕ). code_at c.in-ValuePacked.width l (c.args.from + i)) c.as_slice.ensures ∙ sym (ap (λ b. code_in b (c.args.from + i)) c.in-ValuePacked.is))

pub returns-in-DictPacked-clause-known : goal.returns-in-DictPacked-clause-known
returns-in-DictPacked-clause-known c = λ i low.
    let at : c.args.from + i < c.args.self.now.length = omega (arith, low, c.requires.there) in
    let first : i ≡ 0 + i = omega arith in
    known-at c.args.self.now.length c.args.self.now.body c.args.self.now.least c.args.self.now.greatest c.args.self.now.nulls c.args.self.now.of_cells (c.args.from + i) _ at
    (ap (λ k. get_or c.unpack_width-in-DictPacked.new.out k 0) first ∙ c.unpack_width-in-DictPacked.ensures.0 i low
    ∙ ap (λ (l : List ℕ). code_at c.in-DictPacked.width l (c.args.from + i)) c.as_slice-in-DictPacked.ensures ∙ sym (ap (λ b. code_in b (c.args.from + i)) c.in-DictPacked.is))

pub returns-in-ValueRuns-clause-known : goal.returns-in-ValueRuns-clause-known
returns-in-ValueRuns-clause-known c = λ i low.
    let at : c.args.from + i < c.args.self.now.length = omega (arith, low, c.requires.there) in
    known-at c.args.self.now.length c.args.self.now.body c.args.self.now.least c.args.self.now.greatest c.args.self.now.nulls c.args.self.now.of_cells (c.args.from + i) _ at (c.codes_of_runs.ensures.codes i low ∙ sym (ap (λ b. code_in b (c.args.from + i)) c.in-ValueRuns.is))

pub returns-in-DictRuns-clause-known : goal.returns-in-DictRuns-clause-known
returns-in-DictRuns-clause-known c = λ i low.
    let at : c.args.from + i < c.args.self.now.length = omega (arith, low, c.requires.there) in
    known-at c.args.self.now.length c.args.self.now.body c.args.self.now.least c.args.self.now.greatest c.args.self.now.nulls c.args.self.now.of_cells (c.args.from + i) _ at (c.codes_of_runs-in-DictRuns.ensures.codes i low ∙ sym (ap (λ b. code_in b (c.args.from + i)) c.in-DictRuns.is))
