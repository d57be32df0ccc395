use Rattle.std.proofs.Common.{List, sym, subst}
use Rattle.std.specs.List.{Contains}
use Rattle.std.specs.List.Sorted.{IsStrictlySortedBy}
use Rattle.std.proofs.lemmas.List.Filters.{dedup_is}
use Rattle.std.proofs.lemmas.List.Kept.{Contains-dedup, Contains-from_dedup, IsStrictlySortedBy-dedup}
use Rattle.std.proofs.lemmas.List.Sorted.{Contains-permutation, IsPermutation-sym}
use Rattle.tuple_mover.specs.Flushed.{place_cmp}
use Rattle.tuple_mover.proofs.PlaceLemmas.{Place, same_place, place_total, place_equiv, one_place, ties}
use Rattle.tuple_mover.proofs.flushes.sort_once.Goals as goal

pub returns-clause-order : goal.returns-clause-order
returns-clause-order c =
    let sorted = c.sort_unstable.new.self.items in
    subst (IsStrictlySortedBy place_cmp) (sym (dedup_is same_place sorted c.dedup.new.self.items c.dedup.ensures.filtered))
    (IsStrictlySortedBy-dedup place_total ties sorted c.sort_unstable.ensures.sorted)

pub returns-clause-same : goal.returns-clause-same
returns-clause-same c = λ place.
    let before = c.args.places.now.items in
    let sorted = c.sort_unstable.new.self.items in
    let is = dedup_is same_place sorted c.dedup.new.self.items c.dedup.ensures.filtered in (
      (λ inside. Contains-permutation sorted before place (IsPermutation-sym before sorted c.sort_unstable.ensures.permutation)
          (Contains-from_dedup same_place sorted place (subst (λ (places : List Place). Contains places place) is inside))),
      (λ inside. subst (λ (places : List Place). Contains places place) (sym is)
          (Contains-dedup place_equiv one_place sorted place (Contains-permutation before sorted place c.sort_unstable.ensures.permutation inside))),
    )
