use Rattle.std.proofs.Common.{◌≡◌, ◌∙◌, ap, sym, subst, rules}
use mir.Val.{SFits, of_z, to_z}
use mir.Syntax.{w64, w128}
use Rattle.std.specs.Prelude.{None, Some}
use Rattle.std.proofs.lemmas.Int.{to_z-of_z}
use Rattle.std.proofs.lemmas.Option.{none-some, same_Some}
use Rattle.row_work.proofs.Constants.{equals_key, key_of_number, no_key_of_text, EqualsKey}
use Rattle.row_work.proofs.named.key_of_constant.Goals as goal

pub returns-in-Some : goal.returns-in-Some
returns-in-Some c = λ schema key row table stands equal.
    let e = subst (λ x. EqualsKey x key) c.in-Number.is (equals_key schema key row table stands c.args.constant.now equal) in
    let small : SFits w128 c.in-Number.m = search rules in
    let found = key_of_number key c.in-Number.m c.in-Number.s c.whole_number.result (simp (to_z-of_z, small) at c.whole_number.ensures) e in
    ap (λ n. Some (record { 0 = to_z w64 (of_z w64 n) })) (same_Some c.in-Some.number key.0 (sym c.in-Some.is ∙ found)) ∙ ap (λ n. Some (record { 0 = n })) (to_z-of_z w64 key.0 e.small)

pub returns-in-None : goal.returns-in-None
returns-in-None c = λ schema key row table stands equal.
    let e = subst (λ x. EqualsKey x key) c.in-Number.is (equals_key schema key row table stands c.args.constant.now equal) in
    let small : SFits w128 c.in-Number.m = search rules in
    let found = key_of_number key c.in-Number.m c.in-Number.s c.whole_number.result (simp (to_z-of_z, small) at c.whole_number.ensures) e in
    absurd (none-some key.0 (sym c.in-None.is ∙ found))

pub returns-in-Text : goal.returns-in-Text
returns-in-Text c = λ schema key row table stands equal.
    no_key_of_text (None ≡ Some key) key c.in-Text.field-0 (subst (λ x. EqualsKey x key) c.in-Text.is (equals_key schema key row table stands c.args.constant.now equal))
