use Rattle.std.proofs.Common.{◌≡◌, ◌<◌, ℕ, List, ◌+◌, ◌*◌, ◌≤◌, length, ◌∙◌, sym, ap, subst}
use Rattle.bit_pack.specs.Codes.{code_at}
use Rattle.segment_rle.specs.Runs.{covered}
use Rattle.column_segment.specs.declared.body.SegmentBody.{SegmentBody}
use Rattle.column_segment.specs.Bodies.{code_in}
use Rattle.column_segment.proofs.Layouts.{run-code}
use Rattle.column_segment.proofs.Readings.{room-at}
use Rattle.column_segment.proofs.Kept.{IsReadable, readable, known-at}
use Rattle.column_segment.proofs.segment.Segment.code.Goals as goal

pub lane_width-requires-clause-there : goal.lane_width-requires-clause-there
lane_width-requires-clause-there c =
    let P : SegmentBody → Type 0 = λ b. IsReadable c.args.self.now.length b in
    let reads = subst P c.in-ValuePacked.is (readable c.args.self.now.length c.args.self.now.body c.args.self.now.least c.args.self.now.greatest c.args.self.now.nulls c.args.self.now.of_cells) in
    let Q : List ℕ → Type 0 = λ l. (c.args.i + 1) * c.in-ValuePacked.width ≤ 64 * length l in
    subst Q (sym c.as_slice.ensures) (room-at c.args.self.now.length c.in-ValuePacked.width c.args.i (length c.in-ValuePacked.codes) reads.1 c.requires)

pub lane_width-requires-clause-width : goal.lane_width-requires-clause-width
lane_width-requires-clause-width c =
    let P : SegmentBody → Type 0 = λ b. IsReadable c.args.self.now.length b in
    (subst P c.in-ValuePacked.is (readable c.args.self.now.length c.args.self.now.body c.args.self.now.least c.args.self.now.greatest c.args.self.now.nulls c.args.self.now.of_cells)).0

pub run_at-requires : goal.run_at-requires
run_at-requires c =
    let P : SegmentBody → Type 0 = λ b. IsReadable c.args.self.now.length b in
    let reads : covered c.in-ValueRuns.runs.ends ≡ c.args.self.now.length = subst P c.in-ValueRuns.is (readable c.args.self.now.length c.args.self.now.body c.args.self.now.least c.args.self.now.greatest c.args.self.now.nulls c.args.self.now.of_cells) in
    let Q : ℕ → Type 0 = λ n. c.args.i < n in
    subst Q (sym reads) c.requires

pub lane_width-requires-in-DictPacked-clause-width : goal.lane_width-requires-in-DictPacked-clause-width
lane_width-requires-in-DictPacked-clause-width c =
    let P : SegmentBody → Type 0 = λ b. IsReadable c.args.self.now.length b in
    (subst P c.in-DictPacked.is (readable c.args.self.now.length c.args.self.now.body c.args.self.now.least c.args.self.now.greatest c.args.self.now.nulls c.args.self.now.of_cells)).0

pub lane_width-requires-in-DictPacked-clause-there : goal.lane_width-requires-in-DictPacked-clause-there
lane_width-requires-in-DictPacked-clause-there c =
    let P : SegmentBody → Type 0 = λ b. IsReadable c.args.self.now.length b in
    let reads = subst P c.in-DictPacked.is (readable c.args.self.now.length c.args.self.now.body c.args.self.now.least c.args.self.now.greatest c.args.self.now.nulls c.args.self.now.of_cells) in
    let Q : List ℕ → Type 0 = λ l. (c.args.i + 1) * c.in-DictPacked.width ≤ 64 * length l in
    subst Q (sym c.as_slice-in-DictPacked.ensures) (room-at c.args.self.now.length c.in-DictPacked.width c.args.i (length c.in-DictPacked.codes) reads.1 c.requires)

pub run_at-requires-in-DictRuns : goal.run_at-requires-in-DictRuns
run_at-requires-in-DictRuns c =
    let P : SegmentBody → Type 0 = λ b. IsReadable c.args.self.now.length b in
    let reads : covered c.in-DictRuns.runs.ends ≡ c.args.self.now.length = subst P c.in-DictRuns.is (readable c.args.self.now.length c.args.self.now.body c.args.self.now.least c.args.self.now.greatest c.args.self.now.nulls c.args.self.now.of_cells) in
    let Q : ℕ → Type 0 = λ n. c.args.i < n in
    subst Q (sym reads) c.requires

pub returns-in-ValueRuns-clause-code : goal.returns-in-ValueRuns-clause-code
returns-in-ValueRuns-clause-code c =
    sym (run-code c.in-ValueRuns.runs.codes c.in-ValueRuns.runs.ends c.args.i _ _ c.in-ValueRuns.runs.in_order c.run_at.ensures.run)
    ∙ sym (ap (λ b. code_in b c.args.i) c.in-ValueRuns.is)

pub returns-in-DictRuns-clause-code : goal.returns-in-DictRuns-clause-code
returns-in-DictRuns-clause-code c =
    sym (run-code c.in-DictRuns.runs.codes c.in-DictRuns.runs.ends c.args.i _ _ c.in-DictRuns.runs.in_order c.run_at-in-DictRuns.ensures.run)
    ∙ sym (ap (λ b. code_in b c.args.i) c.in-DictRuns.is)

pub returns-in-ValuePacked-clause-known : goal.returns-in-ValuePacked-clause-known
returns-in-ValuePacked-clause-known c =
    known-at c.args.self.now.length c.args.self.now.body c.args.self.now.least c.args.self.now.greatest c.args.self.now.nulls c.args.self.now.of_cells c.args.i _ c.requires
    (c.lane_width.ensures ∙ ap (λ (l : List ℕ). code_at c.in-ValuePacked.width l c.args.i) c.as_slice.ensures ∙ sym (ap (λ b. code_in b c.args.i) c.in-ValuePacked.is))

pub returns-in-DictPacked-clause-known : goal.returns-in-DictPacked-clause-known
returns-in-DictPacked-clause-known c =
    known-at c.args.self.now.length c.args.self.now.body c.args.self.now.least c.args.self.now.greatest c.args.self.now.nulls c.args.self.now.of_cells c.args.i _ c.requires
    (c.lane_width-in-DictPacked.ensures ∙ ap (λ (l : List ℕ). code_at c.in-DictPacked.width l c.args.i) c.as_slice-in-DictPacked.ensures ∙ sym (ap (λ b. code_in b c.args.i) c.in-DictPacked.is))

pub returns-in-ValueRuns-clause-known : goal.returns-in-ValueRuns-clause-known
returns-in-ValueRuns-clause-known c =
    known-at c.args.self.now.length c.args.self.now.body c.args.self.now.least c.args.self.now.greatest c.args.self.now.nulls c.args.self.now.of_cells c.args.i _ c.requires
    (sym (run-code c.in-ValueRuns.runs.codes c.in-ValueRuns.runs.ends c.args.i _ _ c.in-ValueRuns.runs.in_order c.run_at.ensures.run) ∙ sym (ap (λ b. code_in b c.args.i) c.in-ValueRuns.is))

pub returns-in-DictRuns-clause-known : goal.returns-in-DictRuns-clause-known
returns-in-DictRuns-clause-known c =
    known-at c.args.self.now.length c.args.self.now.body c.args.self.now.least c.args.self.now.greatest c.args.self.now.nulls c.args.self.now.of_cells c.args.i _ c.requires
    (sym (run-code c.in-DictRuns.runs.codes c.in-DictRuns.runs.ends c.args.i _ _ c.in-DictRuns.runs.in_order c.run_at-in-DictRuns.ensures.run) ∙ sym (ap (λ b. code_in b c.args.i) c.in-DictRuns.is))
