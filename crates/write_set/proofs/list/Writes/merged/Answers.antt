use Rattle.std.proofs.Common.{◌≡◌, ◌∙◌, List, IfOk, subst, ap}
use Rattle.write_set.specs.declared.write.Write.{Write}
use Rattle.write_set.specs.Writes.{staged}
use Rattle.write_set.proofs.list.Writes.merged.Goals as goal

pub returns : goal.returns
returns c =
    let whole =
    c.in_ok-lay_all.ensures.items
    ∙ c.in_ok-writes.ensures.alike c.in_ok-own.own.items
    ∙ ap (λ (l : List Write). staged l c.args.writes.items) c.in_ok-own.ensures.value in
    subst (λ (l : List Write). IfOk c.from_ascending.result (λ (list : List Write). list ≡ l)) whole c.from_ascending.ensures
