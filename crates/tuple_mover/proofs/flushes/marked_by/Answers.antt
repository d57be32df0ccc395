use Rattle.std.proofs.Common.{◌≡◌, ◌∙◌, ◌<◌, List, All, AllPairs, Option, get_or, Some, None, inr, sym, ap, subst}
use Rattle.std.specs.Prelude.{slice_get}
use Rattle.std.specs.List.{Contains}
use Rattle.std.proofs.lemmas.List.Elements.{Contains-get_or}
use Rattle.delete_bitmap.specs.declared.MarkedEnd.{MarkedEnd}
use Rattle.delete_bitmap.specs.Marks.{with_each}
use Rattle.row_group.specs.Groups.{Group}
use Rattle.group_view.specs.Views.{endings_of}
use Rattle.tuple_mover.specs.Flushed.{IsEndedBy}
use Rattle.tuple_mover.proofs.PlaceLemmas.{Place, positions_ascend}
use Rattle.tuple_mover.proofs.FlushLemmas.{of-kind, marked-by, ended-once, unmarked-there}
use Rattle.tuple_mover.proofs.flushes.marked_by.Goals as goal

pub mark_each-requires-clause-ascending : goal.mark_each-requires-clause-ascending
mark_each-requires-clause-ascending c =
    let buffer = endings_of c.args.buffer.now in
    let lent = endings_of c.args.entries.now in
    let group : Group = c.args.packed.now in
    let old = c.args.marks.now in
    let places = c.sort_once.new.places.items in
    let ended : (place : Place) → Contains places place → IsEndedBy buffer lent group old place = λ place inside. of-kind (IsEndedBy buffer lent group old) c.in_ok-places.places.items c.in_ok-places.ensures place ((c.sort_once.ensures.same place).0 inside) in
    subst (λ (all : List Place). AllPairs (λ (x y : Place). x.0 < y.0) all) (sym c.deref.ensures.value)
    (positions_ascend places c.sort_once.ensures.order (λ x y first second. ended-once buffer lent group old c.requires x y (ended x first) (ended y second)))

pub mark_each-requires-clause-unmarked : goal.mark_each-requires-clause-unmarked
mark_each-requires-clause-unmarked c =
    let buffer = endings_of c.args.buffer.now in
    let lent = endings_of c.args.entries.now in
    let group : Group = c.args.packed.now in
    let old = c.args.marks.now in
    let places = c.sort_once.new.places.items in
    let ended : (place : Place) → Contains places place → IsEndedBy buffer lent group old place = λ place inside. of-kind (IsEndedBy buffer lent group old) c.in_ok-places.places.items c.in_ok-places.ensures place ((c.sort_once.ensures.same place).0 inside) in
    subst (λ (all : List Place). All (λ (place : Place). slice_get c.in_ok-marked.marked place.0 ≡ Some None) all) (sym c.deref.ensures.value)
    (subst (λ (marks : List (Option MarkedEnd)). All (λ (place : Place). slice_get marks place.0 ≡ Some None) places) (sym c.in_ok-marked.ensures)
    (λ k d there. let place = get_or places k d in unmarked-there buffer lent group old c.requires place (ended place (Contains-get_or places k d there))))

pub returns : goal.returns
returns c =
    let buffer = endings_of c.args.buffer.now in
    let lent = endings_of c.args.entries.now in
    let group : Group = c.args.packed.now in
    let old = c.args.marks.now in
    let found = c.in_ok-places.places.items in
    let places = c.sort_once.new.places.items in
    c.in_ok-mark_each.ensures.ok
    ∙ ap (λ (all : List Place). with_each all c.in_ok-marked.marked) c.deref.ensures.value
    ∙ ap (with_each places) c.in_ok-marked.ensures
    ∙ marked-by buffer lent group old c.requires places
    (λ place inside. of-kind (IsEndedBy buffer lent group old) found c.in_ok-places.ensures place ((c.sort_once.ensures.same place).0 inside))
    (λ place ended. (c.sort_once.ensures.same place).1 ((c.in_ok-places.ensures place).1 (inr ended)))
