use Rattle.row_work.proofs.Ranges.{in_range_are}
use Rattle.row_work.proofs.key_ranges.positions_in_range.Goals as goal

pub returns : goal.returns
returns c =
    let places = c.places_within-places.result in
    in_range_are c.args.pinned.now c.args.group c.args.packed.now c.requires c.places.ensures.by_key c.args.bounds places.from places.to c.places_within-places.ensures c.in_ok-positions.positions.items c.in_ok-positions.ensures
