use Rattle.std.proofs.Common.{◌≡◌, ◌+◌, ◌∙◌, ap, List, length, nat_lt, arith, rules}
use Rattle.std.specs.List.{filter}
use Rattle.std.specs.FinMap as map
use Rattle.std.proofs.lemmas.Map.Made.{filter_same_pairs}
use Rattle.cs_types.specs.declared.Key.{Key}
use Rattle.version_store.specs.declared.NewestChange.{NewestChange}
use Rattle.version_store.specs.Newest.{Newest, above}
use Rattle.version_store.specs.Loads.{Load, newest_first}
use Rattle.version_store.proofs.Laid.{kept_above, changes_pruned, over_pruned}
use Rattle.version_store.proofs.LoadLaws.{fewer_left}
use Rattle.version_store.proofs.Recent.prune.Goals as goal

pub invariant_of-self : goal.invariant_of-self
invariant_of-self c =
    let kept : c.retain.new.self.entries ≡ filter (λ (e : Key × NewestChange). nat_lt c.args.floor e.1.commit) c.self.inside.changes.entries =
    filter_same_pairs _ (λ (e : Key × NewestChange). nat_lt c.args.floor e.1.commit) _ (λ k v b w f' t. search rules) _ _ c.retain.ensures.filtered in
    over_pruned c.args.floor c.self.inside.changes.entries c.retain.new.self.entries (newest_first c.self.inside.runs.loads) (newest_first c.prune.new.self.loads)
    (kept_above c.args.floor c.self.inside.changes.entries c.retain.new.self.entries c.retain.ensures.was_unique kept) c.prune.ensures.above c.self.invariant

pub returns-clause-changes : goal.returns-clause-changes
returns-clause-changes c = λ key.
    let kept : c.retain.new.self.entries ≡ filter (λ (e : Key × NewestChange). nat_lt c.args.floor e.1.commit) c.self.inside.changes.entries =
    filter_same_pairs _ (λ (e : Key × NewestChange). nat_lt c.args.floor e.1.commit) _ (λ k v b w f' t. search rules) _ _ c.retain.ensures.filtered in
    changes_pruned c.args.floor c.self.inside.changes.entries c.retain.new.self.entries (newest_first c.self.inside.runs.loads) (newest_first c.prune.new.self.loads)
    (kept_above c.args.floor c.self.inside.changes.entries c.retain.new.self.entries c.retain.ensures.was_unique kept) c.prune.ensures.above c.self.invariant key
    ∙ ap (λ (n : Newest). above c.args.floor (map.get n.changes key)) c.self.view_is

pub returns-clause-held : goal.returns-clause-held
returns-clause-held c =
    let held : length c.self.inside.changes.entries + length (newest_first c.self.inside.runs.loads) ≡ c.args.self.now.held = ap (λ (n : Newest). n.held) c.self.view_is in
    let same = ap (λ (loads : List Load). length (newest_first loads)) c.prune.ensures.loads in
    let fewer = fewer_left c.args.floor c.self.inside.runs.loads in
    omega (arith, held, same, fewer, c.retain.ensures.bound)
