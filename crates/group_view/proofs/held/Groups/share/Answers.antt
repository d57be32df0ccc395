use Rattle.std.proofs.Common.{List, map, ap, sym, subst, ◌∙◌}
use Rattle.group_view.specs.declared.groups.Group.{Group}
use Rattle.group_view.specs.Seen.{seen}
use Rattle.group_view.specs.Shares.{AreShared}
use Rattle.group_view.proofs.ShareLemmas.{given_back}
use Rattle.group_view.proofs.held.Groups.share.Goals as goal

pub share_all-requires-clause-shared : goal.share_all-requires-clause-shared
share_all-requires-clause-shared c =
    subst (λ (l : List Group). AreShared (map seen l) c.self.inside.shares.items) (sym c.deref_mut.ensures.value) c.self.invariant

pub invariant_of-self : goal.invariant_of-self
invariant_of-self c =
    subst (λ (l : List Group). AreShared (map seen l) c.share_all.new.shares.items)
    (sym (given_back c.self.inside.items.len c.self.inside.items.items c.share_all.new.groups c.self.inside.items.ok.0 (c.share_all.ensures.seen ∙ ap (map seen) c.deref_mut.ensures.value)))
    c.share_all.ensures.shared
