use Rattle.std.proofs.Common.{◌≡◌, ◌∙◌, ◌++◌, ◌∷◌, ◌<◌, ℕ, List, [], length, take, get_or, sym, ap, subst, arith}
use Rattle.std.specs.List.{AllZip}
use Rattle.std.specs.declared.alloc.Global.{Global}
use Rattle.std.specs.declared.sync.Arc.{Arc}
use Rattle.std.proofs.lemmas.List.{take_more}
use Rattle.std.proofs.lemmas.Slice.Zip.{all_zipped_more}
use Rattle.delete_bitmap.specs.declared.Marks.{Marks}
use Rattle.group_view.specs.declared.parts.GroupPart.{GroupPart}
use Rattle.group_view.specs.Claims.{IsMarkedOf}
use Rattle.tuple_mover.proofs.flushes.locate.Goals as goal

abbrev Made : Type 0
Made = ℕ × Arc Marks Global

pub loop-place-preserved : goal.loop-place-preserved
loop-place-preserved c =
    let claim = c.args.claim.now in
    let groups = claim.view.groups in
    let i = c.loop-place.place in
    let item : ℕ × GroupPart = c.at-source.result.now in
    let there : i < length groups = omega (arith, c.loop-place-test.true, c.len-place-end.ensures) in
    let made : Made = c.in_ok-marked_source.field-0 in
    let at : item ≡ get_or groups i item = c.at-source.ensures.item in
    subst (λ (some : List (ℕ × GroupPart)). AllZip (IsMarkedOf claim) some c.push.new.self.items) (ap (λ (x : ℕ × GroupPart). take i groups ++ x ∷ []) at ∙ sym (take_more groups i item there))
    (subst (λ (all : List Made). AllZip (IsMarkedOf claim) (take i groups ++ item ∷ []) all) (sym c.in_ok-push.ensures.items)
    (all_zipped_more (IsMarkedOf claim) (take i groups) c.loop-place.marked.items item made c.loop-place.invariant c.in_ok-marked_source.ensures))
