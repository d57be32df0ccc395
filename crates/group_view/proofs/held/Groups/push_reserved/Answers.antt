use Rattle.std.proofs.Common.{◌≡◌, ◌/◌, ◌++◌, ◌∷◌, [], ℕ, List, Option, map, length, take, subst, sym, ap, ◌∙◌, arith}
use Rattle.group_view.specs.declared.groups.Group.{Group}
use Rattle.group_view.specs.Seen.{seen}
use Rattle.group_view.specs.Shares.{Share, AreShared}
use Rattle.group_view.proofs.ShareLemmas.{forgot_from, lower_push}
use Rattle.group_view.proofs.held.Groups.push_reserved.Goals as goal

pub invariant_of-self : goal.invariant_of-self
invariant_of-self c =
    let items = c.self.inside.items.items in
    let shares = c.self.inside.shares.items in
    let more = items ++ c.args.group ∷ [] in
    let count : c.len.result ≡ length items = let len = c.len.ensures in omega (arith, len) in
    let all = forgot_from (map seen items) (map seen more) shares (length items / 128) (lower_push items c.args.group) c.self.invariant in
    subst (λ (l : List Group). AreShared (map seen l) c.truncate.new.self.items) (sym c.push_reserved.ensures.items)
    (subst (λ (l : List (Option Share)). AreShared (map seen more) l) (sym (c.truncate.ensures.items ∙ ap (λ (n : ℕ). take (n / 128) shares) count)) all)
