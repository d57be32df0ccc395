use Rattle.std.proofs.Common.{◌≡◌, ◌∙◌, ◌+◌, ◌&&◌, Bool, true, false, refl, sym, ap, arith}
use Rattle.std.specs.Prelude.{slice_index_or}
use Rattle.std.proofs.lemmas.Bool.{lt-ltb}
use Rattle.std.proofs.lemmas.List.{get_or-replicate}
use Rattle.batch_scan.proofs.shown.Shown.narrow.Goals as goal

and_true : (b : Bool) → b ≡ (b && true)
and_true true = refl
and_true false = refl

pub returns-in-Every : goal.returns-in-Every
returns-in-Every c = λ flags i shown within less.
    let old = slice_index_or c.args.mask.now i false in
    let there = rw c.in-Every.is at shown in
    and_true old ∙ ap (λ b. old && b) (sym (there (c.args.from + i) false (omega (arith, within, less))))

pub returns-in-Nowhere : goal.returns-in-Nowhere
returns-in-Nowhere c = λ flags i shown within less.
    let old = slice_index_or c.args.mask.now i false in
    let none = rw c.in-Nowhere.is at shown in
    c.keep_where.ensures.places i (omega (arith, less, c.requires, c.told-mask))
    ∙ ap (λ b. old && b) (get_or-replicate 1024 i false false (omega (arith, less, c.requires)) ∙ sym (none (c.args.from + i) false (omega (arith, within, less))))

pub returns-in-Some : goal.returns-in-Some
returns-in-Some c = λ flags i shown within less.
    let old = slice_index_or c.args.mask.now i false in
    let are = rw c.in-Some.is at shown in
    let there = c.put_mask.ensures i (omega (arith, less, c.requires)) ∙ ap (λ b. b && slice_index_or c.in-Some.positions (c.args.from + i) false) (lt-ltb i c.args.count less) in
    c.keep_where-in-Some.ensures.places i (omega (arith, less, c.requires, c.told-mask))
    ∙ ap (λ b. old && b) (there ∙ ap (λ set. slice_index_or set (c.args.from + i) false) are)
