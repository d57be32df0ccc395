use Rattle.std.proofs.lemmas.Cmp.{int_cmp_total}
use Rattle.std.proofs.lemmas.Int.{to_z-of_z}
use Rattle.segment_dict.proofs.Orders.{same_int}
use Rattle.segment_dict.proofs.Searches.{IsPlaceOf-search}
use Rattle.segment_dict.proofs.numbers.NumberDict.place_of.Goals as goal

pub returns-clause-place : goal.returns-clause-place
returns-clause-place c =
    let fits = c.ranges.number in
    let position = simp to_z-of_z at c.binary_search.ensures.position in
    rw c.ok.ensures.value
    (IsPlaceOf-search int_cmp_total same_int c.args.self.now.entries c.args.number c.args.self.now.ascending c.binary_search.result
    (rw c.as_slice.ensures at c.binary_search.ensures.bound) (rw c.as_slice.ensures at position))
