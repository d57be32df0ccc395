use Rattle.std.proofs.Common.{◌≡◌, ℕ, zero, suc, ◌+◌, true, count_by, refl, sym, ap, ◌∙◌, add-one}
use Rattle.std.specs.List.{range_with_len}
use Rattle.std.specs.Option.{option_copied}
use Rattle.delete_bitmap.proofs.Counts.{count-more}
use Rattle.code_tallies.specs.Shown.{shown_from}
use Rattle.code_tallies.proofs.chosen.Chosen.shown_from.Goals as goal

each_counted : (a n : ℕ) → count_by (λ _. true) (range_with_len a n) ≡ n
each_counted a zero = refl
each_counted a (suc n) =
    ap (λ m. count_by (λ _. true) (range_with_len a m)) (sym (add-one n))
    ∙ count-more (λ _. true) a n
    ∙ ap (λ m. m + 1) (each_counted a n)
    ∙ add-one n

pub returns-in-None : goal.returns-in-None
returns-in-None c =
    sym (ap (λ shown. shown_from (option_copied shown) c.args.from c.args.count) c.in-None.is ∙ each_counted c.args.from c.args.count)
