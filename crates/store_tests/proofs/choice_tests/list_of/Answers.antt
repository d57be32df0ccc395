use Rattle.std.proofs.Common.{◌≡◌, ◌++◌, ◌∷◌, [], ℕ, List, ap, false, subst, sym}
use Rattle.std.specs.List.{All}
use Rattle.std.proofs.lemmas.List.Elements.{All-nil, All-push, All-same}
use Rattle.cs_model.specs.declared.work.Actor.{Actor}
use Rattle.group_view.specs.declared.claim.Claim.{Claim}
use Rattle.group_view.specs.declared.groups.Group.{Group}
use Rattle.group_view.specs.declared.parts.GroupPart.{GroupPart}
use Rattle.group_view.specs.Lists.{is_open, IsFittingContent}
use Rattle.group_view.specs.Parts.{IsFitting}
use Rattle.store_tests.proofs.choice_tests.list_of.Goals as goal

abbrev Fits : Group → Type 0
Fits group = IsFittingContent group.content

abbrev IsShut : Group → Type 0
IsShut group = is_open group.content ≡ false

abbrev LendsFit : Actor × Claim → Type 0
LendsFit held = All (λ (group : ℕ × GroupPart). IsFitting group.1) held.1.view.groups

pub returns : goal.returns
returns g c =
    let groups : List Group = c.in_ok-groups.groups.items in
    let made = c.in_ok-groups.ensures in
    let none : All LendsFit c.new-claims.result.items = All-same LendsFit c.new-claims.result.items [] c.new-claims.ensures.items (All-nil LendsFit) in
    record {
      fitting = All-same Fits c.from_vec.result.items groups c.from_vec.ensures.items (λ k d within. (made k d within).0);
      opened = All-same IsShut c.from_vec.result.items groups c.from_vec.ensures.items (λ k d within. (made k d within).1);
      lent = All-same LendsFit c.push.new.self.items _ c.in_ok-push.ensures.items (All-push LendsFit c.new-claims.result.items _ none c.in_ok-claim.ensures);
    }
