use Rattle.std.proofs.Common.{get_or, take}
use Rattle.std.proofs.lemmas.List.{take_more}
use Rattle.delta_store.specs.Index.{no_pair}
use Rattle.delta_store.proofs.FilterLemmas.{admitted-more}
use Rattle.delta_store.proofs.filter.Filter.of.Goals as goal

pub loop-pair-preserved : goal.loop-pair-preserved
loop-pair-preserved c =
    let pair = get_or c.args.pairs.now c.loop-pair.pair-index no_pair in
    let before = take c.loop-pair.pair-index c.args.pairs.now in
    rw (take_more c.args.pairs.now c.loop-pair.pair-index no_pair c.loop-pair-test.true) (
    admitted-more c.loop-pair.filter c.add.new.self pair.0 c.add.ensures.added c.add.ensures.kept before pair.1 c.loop-pair.invariant
    )
