use Rattle.std.proofs.Common.{◌≡◌, ◌∙◌, ◌++◌, ◌||◌, true, false, length, slice_index_or, take, drop, ap, arith, ◌<◌}
use Rattle.cs_types.specs.declared.Loose.{Loose}
use Rattle.cs_types.specs.Text.{loose_of}
use Rattle.cs_model.specs.Truths.{compare}
use Rattle.cs_model.specs.declared.pred.Relation.TheVariants.{Equal}
use Rattle.column_segment.specs.Bodies.{cell_of_code}
use Rattle.batch_filter.specs.Sieves.{is_asked}
use Rattle.batch_filter.proofs.AmongLemmas.{among-more}
use Rattle.batch_filter.proofs.SieveLemmas.{written_whole}
use Rattle.batch_filter.proofs.cut.Codes.among.Goals as goal

pub loop-constant-preserved : goal.loop-constant-preserved
loop-constant-preserved c =
    let table = c.loop-constant.table in
    let new = c.put_equal.new.table in
    let before = c.loop-constant.invariant in
    let same : length new ≡ length table.items = c.put_equal.ensures.length ∙ ap length c.as_mut_slice.ensures.value in
    let whole : take table.len (new ++ drop (length new) table.items) ≡ new = written_whole table.len table.items new (omega arith) same in
    let here : c.loop-constant.constant-index < length c.args.list.now = omega arith in
    record {
      counted = ap length whole ∙ same ∙ before.counted;
      put = λ code most.
          let cell : Loose = loose_of c.args.self.kind (cell_of_code c.args.segment.now.body code) in
          ap (λ l. slice_index_or l code false) whole
          ∙ c.put_equal.ensures.put code most
          ∙ ap (λ l. slice_index_or l code false || is_asked true (compare Equal cell c.constant-item.result)) c.as_mut_slice.ensures.value
          ∙ ap (λ b. b || is_asked true (compare Equal cell c.constant-item.result)) (before.put code most)
          ∙ among-more cell c.args.list.now c.loop-constant.constant-index c.constant-item.result here c.constant-item.is;
    }
