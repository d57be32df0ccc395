use Rattle.std.proofs.Common.{◌≡◌, ◌<◌, ◌≤◌, ◌+◌, ◌∙◌, ◌++◌, ◌∷◌, [], ap, sym, false, length, get_or, arith, ⊎_elim}
use Rattle.std.proofs.lemmas.Bool.{cases_lt}
use Rattle.std.proofs.lemmas.List.{get_or_append_left, length_push}
use Rattle.std.proofs.Math.Seq.{get_or-append_seam}
use Rattle.column_segment.specs.Bodies.{cell_of_code}
use Rattle.batch_filter.specs.Sieves.{is_asked}
use Rattle.batch_filter.proofs.column.table_of.Goals as goal

pub loop-code-preserved : goal.loop-code-preserved
loop-code-preserved c =
    let table = c.loop-code.table in
    let code = c.loop-code.code in
    let b = c.is_asked.result in
    let ok = c.in_ok-push.ensures.ok in
    let before = c.loop-code.invariant in record {
      counted = ap length ok ∙ length_push table b ∙ ap (λ n. n + 1) before.counted;
      judged = λ row k l same. ⊎_elim
          (λ (less : k < code). ap (λ t. get_or t k false) ok ∙ get_or_append_left table (b ∷ []) false k (omega (arith, before.counted)) ∙ before.judged row k less same)
          (λ (more : code ≤ k).
          let here : k ≡ code = omega arith in
          ap (λ t. get_or t k false) ok ∙ ap (λ j. get_or (table ++ b ∷ []) j false) (here ∙ sym before.counted) ∙ get_or-append_seam table b [] false
          ∙ c.is_asked.ensures
          ∙ ap (is_asked c.args.holds) (c.truth_of_cell-found.ensures row (same ∙ ap (cell_of_code c.args.segment.now.body) here ∙ sym c.cell_of.ensures)))
          (cases_lt k code);
    }

pub returns-clause-judges : goal.returns-clause-judges
returns-clause-judges c = λ row code most same. c.loop-code.invariant.judged row code (omega (arith, c.loop-code-test.false)) same
