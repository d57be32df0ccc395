use Rattle.std.proofs.Common.{◌∙◌, ◌+◌, ◌&&◌, List, Bool, false, ap, slice_index_or}
use Rattle.std.proofs.lemmas.Bool.{lt-ltb}
use Rattle.batch_filter.proofs.SieveLemmas.{verdict_at}
use Rattle.batch_filter.proofs.filter.filter_codes.Goals as goal

pub returns-clause-verdicts : goal.returns-clause-verdicts
returns-clause-verdicts c = λ i below.
    c.keep.ensures i below
    ∙ ap (λ b. b && slice_index_or c.in_ok-sieve.sieve (c.args.from + i) false) (lt-ltb i 1024 below)
    ∙ ap (λ (l : List Bool). slice_index_or l (c.args.from + i) false) c.in_ok-sieve.ensures
    ∙ verdict_at c.args.schema.now c.args.pred.now c.args.packed.now (c.args.from + i)
