use Rattle.std.proofs.Common.{◌≡◌, ◌∙◌, refl, sym, ap, arith, rules, w64, FitsSigned}
use Rattle.std.specs.declared.cmp.Ordering.TheVariants.{Less}
use Rattle.std.proofs.lemmas.Int.{to_z-of_z}
use Rattle.cs_types.specs.declared.Key.{Key}
use Rattle.cs_types.specs.Keys.{key_cmp}
use Rattle.row_work.proofs.Loads.{up_more}
use Rattle.row_work.proofs.load.next_key.Goals as goal

pub returns-then-last-number : goal.returns-then-last-number
returns-then-last-number c =
    let fits : FitsSigned w64 c.in_ok-number.number = search rules in
    let key : Key = record { 0 = c.in_ok-number.number } in
    let within : FitsSigned w64 c.in-Some.last.now.0 = search rules in
    let below = simp to_z-of_z at c.if-last-number.true in
    let less : key_cmp c.in-Some.last.now key ≡ Less = rw below refl in
    simp to_z-of_z (sym c.in_ok-number.was, up_more c.args.keys.now key c.requires (λ there. ap (λ (last : Key). key_cmp last key) (sym (c.in-Some.ensures.item.3.1 key)) ∙ less))

pub returns-in-None : goal.returns-in-None
returns-in-None c =
    let fits : FitsSigned w64 c.in_ok-number.number = search rules in
    let key : Key = record { 0 = c.in_ok-number.number } in
    simp to_z-of_z (sym c.in_ok-number.was, up_more c.args.keys.now key c.requires (λ there. absurd (omega (arith, there, c.in-None.ensures.item.3))))
