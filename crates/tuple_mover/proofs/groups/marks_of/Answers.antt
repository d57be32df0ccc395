use Rattle.std.proofs.Common.{◌≡◌, ◌↔◌, ◌∙◌, ◌<◌, List, All, AllPairs, Option, get_or, Some, None, sym, ap, subst}
use Rattle.std.specs.Prelude.{slice_get}
use Rattle.std.specs.List.{Contains}
use Rattle.std.proofs.lemmas.List.Elements.{Contains-get_or}
use Rattle.delete_bitmap.specs.declared.MarkedEnd.{MarkedEnd}
use Rattle.delete_bitmap.specs.Marks.{with_each}
use Rattle.tuple_mover.specs.Kept.{AreMarkedAt}
use Rattle.tuple_mover.proofs.GroupLemmas.{marked-at, one-number, unmarked-yet}
use Rattle.tuple_mover.proofs.PlaceLemmas.{Place, positions_ascend}
use Rattle.tuple_mover.proofs.groups.marks_of.Goals as goal

pub mark_each-requires-clause-ascending : goal.mark_each-requires-clause-ascending
mark_each-requires-clause-ascending c =
    let ends = c.args.ends.now in
    let positions = c.args.positions.now in
    let stamps = c.sort_once.new.places.items in
    let same = subst (λ (all : List Place). (place : Place) → Contains stamps place ↔ Contains all place) c.in_ok-positioned.ensures c.sort_once.ensures.same in
    subst (AllPairs (λ (x y : Place). x.0 < y.0)) (sym c.deref.ensures.value)
    (positions_ascend stamps c.sort_once.ensures.order (one-number ends positions c.requires.places c.requires.once c.requires.within c.requires.apart stamps same))

pub mark_each-requires-clause-unmarked : goal.mark_each-requires-clause-unmarked
mark_each-requires-clause-unmarked c =
    let ends = c.args.ends.now in
    let positions = c.args.positions.now in
    let stamps = c.sort_once.new.places.items in
    let same = subst (λ (all : List Place). (place : Place) → Contains stamps place ↔ Contains all place) c.in_ok-positioned.ensures c.sort_once.ensures.same in
    subst (All (λ (place : Place). slice_get c.in_ok-marks.marks place.0 ≡ Some None)) (sym c.deref.ensures.value)
    (subst (λ (marks : List (Option MarkedEnd)). All (λ (place : Place). slice_get marks place.0 ≡ Some None) stamps) (sym c.in_ok-marks.ensures)
    (λ k d there. unmarked-yet ends positions c.requires.places c.requires.once c.requires.within c.requires.apart stamps same (get_or stamps k d) (Contains-get_or stamps k d there)))

pub returns : goal.returns
returns c =
    let ends = c.args.ends.now in
    let positions = c.args.positions.now in
    let stamps = c.sort_once.new.places.items in
    let same = subst (λ (all : List Place). (place : Place) → Contains stamps place ↔ Contains all place) c.in_ok-positioned.ensures c.sort_once.ensures.same in
    subst (AreMarkedAt ends positions) (sym (c.in_ok-mark_each.ensures.ok ∙ ap (λ (all : List Place). with_each all c.in_ok-marks.marks) c.deref.ensures.value ∙ ap (with_each stamps) c.in_ok-marks.ensures))
    (marked-at ends positions c.requires.places c.requires.once c.requires.within c.requires.apart stamps same)
