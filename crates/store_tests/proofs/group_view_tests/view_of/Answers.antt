use Rattle.std.proofs.Common.{ℕ, [], ◌∙◌}
use Rattle.std.specs.List.{All}
use Rattle.std.proofs.lemmas.List.Elements.{All-nil, All-push, All-same}
use Rattle.group_view.specs.declared.parts.GroupPart.{GroupPart}
use Rattle.group_view.specs.Parts.{IsFitting}
use Rattle.store_tests.proofs.group_view_tests.view_of.Goals as goal

abbrev IsFit : ℕ × GroupPart → Type 0
IsFit group = IsFitting group.1

pub returns : goal.returns
returns g c =
    let none : All IsFit c.new-groups.result = All-same IsFit c.new-groups.result [] c.new-groups.ensures (All-nil IsFit) in
    let one : All IsFit c.push.new.self =
    All-same IsFit c.push.new.self _ c.in_ok-push.ensures.ok (All-push IsFit c.new-groups.result (1, c.in_ok-stored.field-0) none c.in_ok-stored.ensures) in
    let both : All IsFit c.push-2.new.self =
    All-same IsFit c.push-2.new.self _ c.in_ok-push-2.ensures.ok (All-push IsFit c.push.new.self (4, c.in_ok-part.part) one c.in_ok-part.ensures) in
    All-same IsFit c.in_ok-from_vec.field-0 c.push-2.new.self (c.in_ok-from_vec.ensures ∙ c.into_vec.ensures) both
