use Rattle.std.proofs.Common.{◌≡◌, ◌<◌, ℕ, pos, rules, arith, length, get_or, set, below_more, FitsSigned, w64, ap, ◌∙◌}
use Rattle.std.proofs.lemmas.Int.{to_z-of_z}
use Rattle.std.proofs.lemmas.List.{length-set, get_or-set_same, get_or-set_other}
use Rattle.cs_types.specs.Rows.{number_in}
use Rattle.column_segment.specs.Dicts.{dict_cell}
use Rattle.column_segment.proofs.dict.put_numbers.Goals as goal

pub loop-i-preserved : goal.loop-i-preserved
loop-i-preserved c =
    let fits : FitsSigned w64 c.number_or_zero.result = search rules in
    let i : ℕ = c.loop-i.i in
    let there : c.loop-i.i < length c.loop-i.numbers = omega (arith, c.loop-i.invariant.len) in
    rw (to_z-of_z w64 c.number_or_zero.result fits) (record {
      len = length-set c.loop-i.numbers i c.number_or_zero.result ∙ c.loop-i.invariant.len;
      numbers = λ k low. below_more (λ j. get_or (set c.loop-i.numbers i c.number_or_zero.result) j (pos 0) ≡ number_in (dict_cell c.args.dict.now (get_or c.args.codes.now j 0))) i
          (λ j less. get_or-set_other c.loop-i.numbers i j c.number_or_zero.result (pos 0) (λ e. omega arith) ∙ c.loop-i.invariant.numbers j less)
          (get_or-set_same c.loop-i.numbers i c.number_or_zero.result (pos 0) there ∙ c.number_or_zero.ensures ∙ ap number_in c.entry_shown.ensures) k low;
      others = λ k high. get_or-set_other c.loop-i.numbers i k c.number_or_zero.result (pos 0) (λ e. omega arith) ∙ c.loop-i.invariant.others k (omega arith);
    })
