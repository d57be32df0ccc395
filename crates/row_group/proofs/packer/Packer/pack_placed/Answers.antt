use Rattle.std.proofs.Common.{length, map, sym, subst}
use Rattle.std.specs.List.{range_with_len}
use Rattle.std.specs.List.Sorted.{IsPermutation}
use Rattle.row_group.specs.Rows.{begun_above}
use Rattle.row_group.proofs.OrderLemmas.{length-range}
use Rattle.row_group.proofs.PackerLemmas.{stand-at}
use Rattle.row_group.proofs.packer.Packer.pack_placed.Goals as goal

pub inverse-requires : goal.inverse-requires
inverse-requires c =
    let order = c.in-Some.order.items in
    let held = rw c.in-Some.is at c.in_ok-ordered.ensures.order in
    let all = held.all in
    rw c.deref.ensures.value
    (subst (λ n. IsPermutation (range_with_len 0 n) order) (sym (length-range (length (map (begun_above c.args.floor) c.args.self.rows)) order all)) all)

pub returns-in_ok-positions-in-Some-clause-positions :
    goal.returns-in_ok-positions-in-Some-clause-positions
returns-in_ok-positions-in-Some-clause-positions c =
    let held = rw c.in-Some.is at c.in_ok-ordered.ensures.order in
    let are = rw c.deref.ensures.value at c.in_ok-positions-in-Some.ensures in
    stand-at (map (begun_above c.args.floor) c.args.self.rows) c.in-Some.order.items c.in_ok-positions-in-Some.positions.items c.in-Some.packed held are
