use Rattle.std.proofs.Common.{ℕ, List, ◌∙◌}
use Rattle.std.proofs.lemmas.List.Elements.{All-push, All-same}
use Rattle.group_view.specs.declared.parts.GroupPart.{GroupPart}
use Rattle.group_view.specs.Parts.{IsFitting}
use Rattle.store_tests.proofs.choice_tests.claim_of.Goals as goal

abbrev IsFit : ℕ × GroupPart → Type 0
IsFit group = IsFitting group.1

pub loop-id-preserved : goal.loop-id-preserved
loop-id-preserved c =
    let groups : List (ℕ × GroupPart) = c.loop-id.groups in
    All-same IsFit c.push.new.self _ c.in_ok-push.ensures.ok (All-push IsFit groups _ c.loop-id.invariant tt)

pub returns : goal.returns
returns c = All-same IsFit c.in_ok-from_vec.field-0 c.loop-id.groups (c.in_ok-from_vec.ensures ∙ c.into_vec.ensures) c.loop-id.invariant
