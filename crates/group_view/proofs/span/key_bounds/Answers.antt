use Rattle.std.proofs.Common.{◌∙◌, ◌-◌, ℕ, length, sym, ap, subst, arith}
use Rattle.cs_types.specs.declared.Key.{Key}
use Rattle.cs_types.specs.Rows.{key_in}
use Rattle.row_group.specs.Groups.{key_at_place, row_at}
use Rattle.row_group.proofs.GroupLemmas.{length-places}
use Rattle.group_view.specs.Spans.{AreKeysBetween}
use Rattle.group_view.proofs.Spans.{keys_between}
use Rattle.group_view.proofs.span.key_bounds.Goals as goal

pub returns-then-count-eq0-clause-none : goal.returns-then-count-eq0-clause-none
returns-then-count-eq0-clause-none c =
    let counted = length-places c.args.packed.now c.places-count.ensures.by_key in
    let same = ap length c.places-count.ensures.value in
    omega (arith, counted, same, c.if-count-eq0.true)

pub returns-clause-some : goal.returns-clause-some
returns-clause-some c =
    let group = c.args.packed.now in
    let last = length c.places-count.result.now - 1 in
    let same = ap length c.places-count.ensures.value in
    let at : ℕ → Key = λ p. key_in group.key (row_at group p).cells in
    let least = c.key_at-least.ensures ∙ ap at c.place.ensures.value in
    let greatest = c.key_at-greatest.ensures ∙ ap at c.place-2.ensures.value in
    subst (λ (key : Key). AreKeysBetween key c.key_at-greatest.result group) (sym least)
    (subst (λ (key : Key). AreKeysBetween (key_at_place group 0) key group) (sym greatest) (keys_between group c.place.ensures.by_key last (omega (arith, same, c.if-count-eq0.false))))
