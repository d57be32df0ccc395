use Rattle.std.proofs.Common.{◌+◌, ◌++◌, ◌∷◌, [], List, Some, ap, subst, ◌∙◌}
use Rattle.group_view.specs.declared.groups.Group.{Group}
use Rattle.group_view.specs.declared.groups.GroupContent.TheVariants.{Invisible}
use Rattle.group_directory.specs.Lending.{Lends}
use Rattle.group_directory.proofs.LendLaws.{keeps_made}
use Rattle.group_directory.proofs.claims.claim_groups.Goals as goal

pub returns-clause-kept : goal.returns-clause-kept
returns-clause-kept c =
    let same = c.in_ok-claim.ensures.same in
    keeps_made c.args.schema.now.value c.args.turn c.args.sources.now c.args.list.now (record { groups = c.push_reserved.new.self; opened = c.claim_of.new.list.opened; buffer = c.claim_of.new.list.buffer; claims = c.keep_first.new.claims; next = c.claim_of.new.list.next + 1 })
    c.claim_of.new.list.groups.items c.in_ok-claim.claim c.in_ok-lent.lent (subst (λ entries. Lends c.args.schema.now.value c.args.turn (Some c.args.list.now.next) c.args.sources.now entries c.args.list.now c.in_ok-claim.claim) c.new-none.ensures c.in_ok-claim.ensures.claim) c.in_ok-lent.ensures
    (c.push_reserved.ensures.items ∙ ap (λ (gs : List Group). gs ++ record { id = c.args.list.now.next; content = Invisible } ∷ []) c.in_ok-reserve-2.ensures.items)
    same.seen same.fitting same.opened same.buffer (ap (λ n. n + 1) same.next)
    (c.keep_first.ensures ∙ ap (λ l. (c.args.turn.actor, c.in_ok-claim.claim) ∷ l) (c.in_ok-reserve.ensures.items ∙ same.claims))
