use Rattle.std.proofs.Common.{◌≡◌, ◌<◌, ◌+◌, ◌++◌, ◌∷◌, [], List, map, take, length, get_or, sym, ap, subst, ◌∙◌}
use Rattle.std.specs.List.{AllZip}
use Rattle.std.proofs.lemmas.List.{map-append, take_more}
use Rattle.cs_model.specs.declared.work.Actor.{Actor}
use Rattle.group_view.specs.declared.claim.Claim.{Claim}
use Rattle.group_view.specs.declared.groups.Group.{Group}
use Rattle.group_view.specs.Books.{claim_of, group_of}
use Rattle.group_directory.specs.Settling.{settling_in, IsSettledBy}
use Rattle.group_directory.proofs.SettleLemmas.{number_more, zip_more}
use Rattle.group_directory.proofs.settles.settling_of.Goals as goal

pub loop-group-preserved : goal.loop-group-preserved
loop-group-preserved c =
    let gs = c.args.list.now.groups.items in
    let i = c.loop-group.group-index in
    let claims = map claim_of c.args.list.now.claims.items in
    let group = c.group-item.result in
    let here = c.as_slice-group-items.ensures in
    let same = c.deref.ensures.value in
    let more : take (i + 1) gs ≡ take i gs ++ group ∷ [] = take_more gs i group (subst (λ (l : List Group). i < length l) here c.loop-group-test.true)
    ∙ ap (λ (g : Group). take i gs ++ g ∷ []) (ap (λ (l : List Group). get_or l i group) (sym here) ∙ sym c.group-item.is) in
    record {
      each = subst (λ l. AllZip (IsSettledBy c.args.floor claims) l c.push.new.self.items) (sym more)
          (subst (AllZip (IsSettledBy c.args.floor claims) (take i gs ++ group ∷ [])) (sym c.in_ok-push.ensures.items)
          (zip_more c.args.floor claims (take i gs) c.loop-group.marks.items group c.in_ok-made.made.0 c.loop-group.invariant.each
          (subst (λ (held : List (Actor × Claim)). IsSettledBy c.args.floor (map claim_of held) group c.in_ok-made.made.0) same c.in_ok-made.ensures.marks)));
      number =
          let sum = ap (λ l. settling_in c.args.floor claims (map group_of l)) more ∙ ap (settling_in c.args.floor claims) (map-append group_of (take i gs) (group ∷ [])) ∙ number_more c.args.floor claims (map group_of (take i gs)) (group_of group ∷ []) in
          c.in_ok-sum.ensures ∙ ap (λ n. c.loop-group.number + n) (c.in_ok-made.ensures.number ∙ ap (λ (held : List (Actor × Claim)). settling_in c.args.floor (map claim_of held) (group_of group ∷ [])) same) ∙ ap (λ n. n + settling_in c.args.floor claims (group_of group ∷ [])) c.loop-group.invariant.number ∙ sym sum;
    }
