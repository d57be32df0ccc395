use Rattle.std.proofs.Common.{◌≡◌, ◌∙◌, Bool, true, false, refl, sym, ap}
use Rattle.std.specs.Bool.{OnTrue, OnFalse}
use Rattle.std.specs.Ordering.{int_cmp}
use Rattle.cs_types.specs.declared.Key.{Key}
use Rattle.cs_types.specs.Rows.{key_in}
use Rattle.row_group.specs.Groups.{precedes, row_at}
use Rattle.row_group.proofs.GroupLemmas.{all_before, none_after}
use Rattle.row_group.proofs.packed.Packed.is_before.Goals as goal

on_true : (b : Bool) (P : Type 0) → (b ≡ true → P) → OnTrue b P
on_true true P f = f refl
on_true false P f = tt

on_false : (b : Bool) (P : Type 0) → (b ≡ false → P) → OnFalse b P
on_false true P f = tt
on_false false P f = f refl

pub returns-clause-before : goal.returns-clause-before
returns-clause-before c =
    let group = c.args.self.now in
    let is = c.is_first.ensures
    ∙ ap (precedes c.args.tied) (c.cmp.ensures ∙ ap (λ (k : Key). int_cmp k.0 c.args.key.0) (c.key_at.ensures ∙ ap (λ p. key_in group.key (row_at group p).cells) c.place.ensures.value)) in
    on_true _ _ (λ yes. all_before group c.place.ensures.by_key c.args.tied c.args.key c.args.place c.requires (sym is ∙ yes))

pub returns-clause-after : goal.returns-clause-after
returns-clause-after c =
    let group = c.args.self.now in
    let is = c.is_first.ensures
    ∙ ap (precedes c.args.tied) (c.cmp.ensures ∙ ap (λ (k : Key). int_cmp k.0 c.args.key.0) (c.key_at.ensures ∙ ap (λ p. key_in group.key (row_at group p).cells) c.place.ensures.value)) in
    on_false _ _ (λ no. none_after group c.place.ensures.by_key c.args.tied c.args.key c.args.place (sym is ∙ no))
