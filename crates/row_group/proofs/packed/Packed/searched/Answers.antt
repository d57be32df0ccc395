use Rattle.row_group.specs.Groups.{Group}
use Rattle.row_group.proofs.GroupLemmas.{each_position, places_found}
use Rattle.row_group.proofs.packed.Packed.searched.Goals as goal

pub returns : goal.returns
returns c =
    let group : Group = c.args.self.now in
    places_found group c.args.key c.first_near-from.result c.place_from-to.result (each_position group c.places-places.ensures.by_key) c.first_near-from.ensures c.place_from-to.ensures
