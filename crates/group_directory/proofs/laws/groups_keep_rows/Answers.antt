use Rattle.std.specs.Prelude.{ℕ, ◌⊎◌, ◌≡◌, List}
use Rattle.std.proofs.Common.{inl, inr, [], Some}
use Rattle.std.specs.List.{Contains}
use Rattle.std.proofs.lemmas.List.Elements.{All-weaker, All-nil}
use Rattle.group_view.specs.Parts.{Rowed}
use Rattle.group_view.specs.Laws.{IsMadeRow}
use Rattle.group_directory.proofs.GroupLaws.{listed_whole, groups_made, groups_ended, view_picked}
use Rattle.group_directory.proofs.laws.groups_keep_rows.Goals as goal

pub returns-clause-all : goal.returns-clause-all
returns-clause-all c = listed_whole

pub returns-clause-made : goal.returns-clause-made
returns-clause-made c = λ width changes old groups fresh made each. groups_made (IsMadeRow width changes) old groups made (All-weaker (λ (group : ℕ × List Rowed). Contains old group ⊎ ((fresh ≡ Some group.0) × (group.1 ≡ made))) (λ (group : ℕ × List Rowed). Contains old group ⊎ (group.1 ≡ made)) (λ group is. elim is [ inl there ↦ inl there | inr new ↦ inr new.1 ]) groups each)

pub returns-clause-fewer : goal.returns-clause-fewer
returns-clause-fewer c = λ width changes old groups each all. groups_made (IsMadeRow width changes) old groups [] (All-weaker (Contains old) (λ (group : ℕ × List Rowed). Contains old group ⊎ (group.1 ≡ [])) (λ group there. inl there) groups each) all (All-nil (IsMadeRow width changes))

pub returns-clause-ended : goal.returns-clause-ended
returns-clause-ended c = groups_ended

pub returns-clause-picked : goal.returns-clause-picked
returns-clause-picked c = λ width changes test groups view same. view_picked (IsMadeRow width changes) test groups view same
