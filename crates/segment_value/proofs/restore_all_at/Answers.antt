use Rattle.std.proofs.Common.{◌≡◌, ◌<◌, ℕ, pos, rules, arith, length, below_more, FitsSigned, w64, ◌∙◌}
use Rattle.std.specs.Prelude.{slice_index, slice_index_or, slice_set, unwrap_or}
use Rattle.std.proofs.lemmas.Int.{to_z-of_z}
use Rattle.std.proofs.lemmas.List.{length-set, get_or-set_same, get_or-set_other}
use Rattle.segment_value.specs.Scales.{cell_of}
use Rattle.segment_value.proofs.restore_all_at.Goals as goal

pub loop-i-preserved : goal.loop-i-preserved
loop-i-preserved g c =
    let fits : FitsSigned w64 c.number_at.result = search rules in
    let i : ℕ = c.loop-i.i in
    let there : c.loop-i.i < length c.loop-i.numbers = omega (arith, c.loop-i.invariant.len) in
    rw (to_z-of_z w64 c.number_at.result fits) (record {
      len = length-set c.loop-i.numbers i c.number_at.result ∙ c.loop-i.invariant.len;
      numbers = λ k low. below_more (λ j. slice_index_or (slice_set c.loop-i.numbers i c.number_at.result) j (pos 0) ≡ unwrap_or (cell_of c.args.scale (slice_index c.args.codes.now j)) (pos 0)) i
          (λ j less. get_or-set_other c.loop-i.numbers i j c.number_at.result (pos 0) (λ e. omega arith) ∙ c.loop-i.invariant.numbers j less)
          (get_or-set_same c.loop-i.numbers i c.number_at.result (pos 0) there ∙ c.number_at.ensures) k low;
      others = λ k high. get_or-set_other c.loop-i.numbers i k c.number_at.result (pos 0) (λ e. omega arith) ∙ c.loop-i.invariant.others k (omega arith);
    })
