use Rattle.std.proofs.Common.{ℤ}
use Rattle.std.specs.Ordering.{int_cmp}
use Rattle.std.proofs.lemmas.Bool.Decides.{Decides-int_eq}
use Rattle.std.proofs.lemmas.List.{map-id}
use Rattle.segment_dict.proofs.Entries.{IsDictOf-map, same_cells}
use Rattle.segment_dict.proofs.numbers.numbers_of.Goals as goal

pub returns : goal.returns
returns c =
    let dict = IsDictOf-map (λ (n : ℤ). n) int_cmp (λ x y e. e) (λ x y e. (Decides-int_eq x y).0 e) c.args.cells.now c.in_ok-distinct_numbers.field-0.items c.has_null.result
    c.in_ok-distinct_numbers.ensures c.has_null.ensures in
    rw c.from_vec.ensures (rw (same_cells c.args.cells.now, map-id c.in_ok-distinct_numbers.field-0.items) at dict)
