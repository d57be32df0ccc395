use Rattle.std.proofs.Common.{◌≡◌, ◌-◌, ◌<◌, ◌^◌, ℕ, ◌∙◌, subst, sym, ap}
use Rattle.column_segment.specs.Dicts.{dict_codes}
use Rattle.column_segment.proofs.Dicts.{dict-width}
use Rattle.column_segment.proofs.dict.width_in.Goals as goal

pub returns-clause-width : goal.returns-clause-width
returns-clause-width c = λ cells codes is are some.
    let last : c.saturating_sub.result ≡ dict_codes c.args.dict.now - 1 = c.saturating_sub.ensures ∙ ap (λ n. n - 1) c.codes_of.ensures in
    let P : ℕ → Type 0 = λ n. n < 2 ^ c.bits_of.result in
    dict-width cells c.args.dict.now codes c.bits_of.result is are some
    (subst P last c.bits_of.ensures.room)
    (λ other low. let Q : ℕ → Type 0 = λ n. n < 2 ^ other in c.bits_of.ensures.least other (subst Q (sym last) low))
