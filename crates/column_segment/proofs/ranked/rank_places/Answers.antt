use Rattle.std.proofs.Common.{◌<◌, length, arith}
use Rattle.column_segment.proofs.RankLemmas.{places-more, places-all}
use Rattle.column_segment.proofs.ranked.rank_places.Goals as goal

pub index_mut-requires : goal.index_mut-requires
index_mut-requires c =
    let there : c.loop-place.place < length c.args.ranks.now = omega arith in
    omega (arith, c.requires.below c.loop-place.place 0 there, c.loop-place.invariant.counted)

pub loop-place-preserved : goal.loop-place-preserved
loop-place-preserved c =
    places-more c.args.ranks.now c.loop-place.places.items c.args.count c.loop-place.place c.requires (omega arith) c.loop-place.invariant

pub returns : goal.returns
returns c = places-all c.args.ranks.now c.loop-place.places.items c.args.count c.loop-place.place c.requires (omega arith) c.loop-place.invariant
