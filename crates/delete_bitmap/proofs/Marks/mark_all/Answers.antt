use Rattle.std.proofs.Common.{◌≡◌, List, None, Some, All, subst, sym, ap, ◌∙◌}
use Rattle.std.specs.List.{slice_get}
use Rattle.std.specs.Result.{OnOk}
use Rattle.std.proofs.lemmas.List.Elements.{All-map}
use Rattle.delete_bitmap.specs.Kept.{Stamp, AreInOrder}
use Rattle.delete_bitmap.specs.Marks.{with_each}
use Rattle.delete_bitmap.proofs.EndLemmas.{End}
use Rattle.delete_bitmap.proofs.EndBatches.{with_each-stamped}
use Rattle.delete_bitmap.proofs.StampMerges.{in_order-stamped}
use Rattle.delete_bitmap.proofs.Marks.mark_all.Goals as goal

pub mark_each-requires-clause-ascending : goal.mark_each-requires-clause-ascending
mark_each-requires-clause-ascending c =
    subst (λ (xs : List Stamp). AreInOrder xs) (sym (c.deref.ensures.value ∙ c.in_ok-ends.ensures)) (in_order-stamped c.args.positions.now c.args.end c.requires.ascending)

pub mark_each-requires-clause-unmarked : goal.mark_each-requires-clause-unmarked
mark_each-requires-clause-unmarked c =
    let P : Stamp → Type 0 = λ s. slice_get c.args.self.now s.0 ≡ Some None in
    subst (λ (xs : List Stamp). All P xs) (sym (c.deref.ensures.value ∙ c.in_ok-ends.ensures)) (All-map P (λ p. (p, c.args.end)) c.args.positions.now c.requires.unmarked)

pub returns-clause-ok : goal.returns-clause-ok
returns-clause-ok c =
    let same = ap (λ (xs : List Stamp). with_each xs c.args.self.now) (c.deref.ensures.value ∙ c.in_ok-ends.ensures) ∙ with_each-stamped c.args.positions.now c.args.end c.args.self.now in
    subst (λ (ends : List End). OnOk c.mark_each.result (c.mark_each.new.self ≡ ends)) same c.mark_each.ensures.ok
