use Rattle.std.proofs.Common.{◌≡◌, ◌+◌, ℕ, List, sym, subst}
use Rattle.std.specs.List.{flat_map, All}
use Rattle.std.proofs.lemmas.List.Elements.{All-push}
use Rattle.group_view.specs.declared.parts.GroupPart.{GroupPart}
use Rattle.group_view.specs.Parts.{rowed_in, IsFitting}
use Rattle.desk_tests.proofs.Numbered.{numbered, one_more}
use Rattle.desk_tests.proofs.scan_workers_tests.groups_of.Goals as goal

abbrev IsFit : ℕ × GroupPart → Type 0
IsFit group = IsFitting group.1

pub loop-key-preserved : goal.loop-key-preserved
loop-key-preserved c =
    let groups : List (ℕ × GroupPart) = c.loop-key.groups in
    let group : ℕ × GroupPart = (c.from.result + 1, c.in_ok-store.store) in
    let more = sym c.in_ok-push.ensures.ok in (
      subst (λ (l : List (ℕ × GroupPart)). flat_map (λ group. rowed_in group.1) l ≡ numbered (c.loop-key.key + 1)) more (one_more groups group c.loop-key.key c.loop-key.invariant.0 c.in_ok-store.ensures.rows),
      subst (All IsFit) more (All-push IsFit groups group c.loop-key.invariant.1 c.in_ok-store.ensures.fitting),
    )
