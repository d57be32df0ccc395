use Rattle.std.proofs.Common.{◌≡◌, ◌<◌, ℕ, ◌∙◌, sym, ap, subst, arith}
use Rattle.segment_rle.specs.Runs.{covered}
use Rattle.column_segment.specs.declared.body.SegmentBody.{SegmentBody}
use Rattle.column_segment.specs.Bodies.{code_in}
use Rattle.column_segment.proofs.Layouts.{run-code}
use Rattle.column_segment.proofs.Readings.{run-within, run-same, run-whole}
use Rattle.column_segment.proofs.Kept.{IsReadable, readable}
use Rattle.column_segment.proofs.segment.Segment.stretch.Goals as goal

pub run_at-requires : goal.run_at-requires
run_at-requires c =
    let P : SegmentBody → Type 0 = λ b. IsReadable c.args.self.now.length b in
    let reads : covered c.in-ValueRuns.runs.ends ≡ c.args.self.now.length = subst P c.in-ValueRuns.is (readable c.args.self.now.length c.args.self.now.body c.args.self.now.least c.args.self.now.greatest c.args.self.now.nulls c.args.self.now.of_cells) in
    let Q : ℕ → Type 0 = λ n. c.args.i < n in
    subst Q (sym reads) c.requires

pub returns-in-ValueRuns-clause-code : goal.returns-in-ValueRuns-clause-code
returns-in-ValueRuns-clause-code c = sym (run-code c.in-ValueRuns.runs.codes c.in-ValueRuns.runs.ends c.args.i _ _ c.in-ValueRuns.runs.in_order c.run_at.ensures.run) ∙ sym (ap (λ b. code_in b c.args.i) c.in-ValueRuns.is)

pub returns-in-ValueRuns-clause-end : goal.returns-in-ValueRuns-clause-end
returns-in-ValueRuns-clause-end c =
    let P : SegmentBody → Type 0 = λ b. IsReadable c.args.self.now.length b in
    let reads : covered c.in-ValueRuns.runs.ends ≡ c.args.self.now.length = subst P c.in-ValueRuns.is (readable c.args.self.now.length c.args.self.now.body c.args.self.now.least c.args.self.now.greatest c.args.self.now.nulls c.args.self.now.of_cells) in
    (c.run_at.ensures.run.not_ended, omega (arith, reads, run-within c.in-ValueRuns.runs.codes c.in-ValueRuns.runs.ends c.args.i _ _ c.in-ValueRuns.runs.in_order c.run_at.ensures.run))

pub returns-in-ValueRuns-clause-same : goal.returns-in-ValueRuns-clause-same
returns-in-ValueRuns-clause-same c = λ k from to. ap (λ b. code_in b k) c.in-ValueRuns.is ∙ run-same c.in-ValueRuns.runs.codes c.in-ValueRuns.runs.ends c.args.i _ _ c.in-ValueRuns.runs.in_order c.run_at.ensures.run k from to

pub returns-in-ValueRuns-clause-whole : goal.returns-in-ValueRuns-clause-whole
returns-in-ValueRuns-clause-whole c = λ runs more same.
    let P : SegmentBody → Type 0 = λ b. IsReadable c.args.self.now.length b in
    let reads : covered c.in-ValueRuns.runs.ends ≡ c.args.self.now.length = subst P c.in-ValueRuns.is (readable c.args.self.now.length c.args.self.now.body c.args.self.now.least c.args.self.now.greatest c.args.self.now.nulls c.args.self.now.of_cells) in
    run-whole c.in-ValueRuns.runs.codes c.in-ValueRuns.runs.ends c.args.i _ _ c.in-ValueRuns.runs.in_order c.run_at.ensures.run (omega (arith, reads, more)) (sym (ap (λ b. code_in b c.run_at.result.1) c.in-ValueRuns.is) ∙ same)

pub run_at-requires-in-DictRuns : goal.run_at-requires-in-DictRuns
run_at-requires-in-DictRuns c =
    let P : SegmentBody → Type 0 = λ b. IsReadable c.args.self.now.length b in
    let reads : covered c.in-DictRuns.runs.ends ≡ c.args.self.now.length = subst P c.in-DictRuns.is (readable c.args.self.now.length c.args.self.now.body c.args.self.now.least c.args.self.now.greatest c.args.self.now.nulls c.args.self.now.of_cells) in
    let Q : ℕ → Type 0 = λ n. c.args.i < n in
    subst Q (sym reads) c.requires

pub returns-in-DictRuns-clause-code : goal.returns-in-DictRuns-clause-code
returns-in-DictRuns-clause-code c = sym (run-code c.in-DictRuns.runs.codes c.in-DictRuns.runs.ends c.args.i _ _ c.in-DictRuns.runs.in_order c.run_at-in-DictRuns.ensures.run) ∙ sym (ap (λ b. code_in b c.args.i) c.in-DictRuns.is)

pub returns-in-DictRuns-clause-end : goal.returns-in-DictRuns-clause-end
returns-in-DictRuns-clause-end c =
    let P : SegmentBody → Type 0 = λ b. IsReadable c.args.self.now.length b in
    let reads : covered c.in-DictRuns.runs.ends ≡ c.args.self.now.length = subst P c.in-DictRuns.is (readable c.args.self.now.length c.args.self.now.body c.args.self.now.least c.args.self.now.greatest c.args.self.now.nulls c.args.self.now.of_cells) in
    (c.run_at-in-DictRuns.ensures.run.not_ended, omega (arith, reads, run-within c.in-DictRuns.runs.codes c.in-DictRuns.runs.ends c.args.i _ _ c.in-DictRuns.runs.in_order c.run_at-in-DictRuns.ensures.run))

pub returns-in-DictRuns-clause-same : goal.returns-in-DictRuns-clause-same
returns-in-DictRuns-clause-same c = λ k from to. ap (λ b. code_in b k) c.in-DictRuns.is ∙ run-same c.in-DictRuns.runs.codes c.in-DictRuns.runs.ends c.args.i _ _ c.in-DictRuns.runs.in_order c.run_at-in-DictRuns.ensures.run k from to

pub returns-in-DictRuns-clause-whole : goal.returns-in-DictRuns-clause-whole
returns-in-DictRuns-clause-whole c = λ runs more same.
    let P : SegmentBody → Type 0 = λ b. IsReadable c.args.self.now.length b in
    let reads : covered c.in-DictRuns.runs.ends ≡ c.args.self.now.length = subst P c.in-DictRuns.is (readable c.args.self.now.length c.args.self.now.body c.args.self.now.least c.args.self.now.greatest c.args.self.now.nulls c.args.self.now.of_cells) in
    run-whole c.in-DictRuns.runs.codes c.in-DictRuns.runs.ends c.args.i _ _ c.in-DictRuns.runs.in_order c.run_at-in-DictRuns.ensures.run (omega (arith, reads, more)) (sym (ap (λ b. code_in b c.run_at-in-DictRuns.result.1) c.in-DictRuns.is) ∙ same)
