use Rattle.std.proofs.Common.{sym, subst, Option, IfSome, arith}
use Rattle.column_segment.specs.Bodies.{code_in}
use Rattle.row_group.specs.Groups.{row_at}
use Rattle.batch_filter.specs.declared.choice.Choice.{Choice}
use Rattle.batch_filter.specs.Codes.{Judges, takes}
use Rattle.batch_filter.specs.Sieves.{asks}
use Rattle.batch_filter.proofs.SieveLemmas.{narrowed_alike}
use Rattle.batch_filter.proofs.column.narrow_column.Goals as goal

pub returns-in-Some-2-clause-done : goal.returns-in-Some-2-clause-done
returns-in-Some-2-clause-done c =
    let s = c.segment-segment.result.now in
    let group = c.args.packed.now in
    let choice = c.in-Some-2.choice in
    let judges = subst (λ (o : Option Choice). IfSome o (λ choice. Judges c.args.schema.now c.args.pred.now c.args.holds c.args.column s.body c.of-codes.result.last (takes choice))) c.in-Some-2.is c.in_ok-choice.ensures.judges in
    narrowed_alike (λ i. takes choice (code_in s.body i)) (asks c.args.schema.now group c.args.holds c.args.pred.now) c.args.mask.now c.narrow.new.mask
    (λ i l. judges (row_at group i).cells (code_in s.body i) (c.of-codes.ensures.most i (omega (arith, c.segment-segment.ensures.rows, c.requires.same))) (sym (c.segment-segment.ensures.each i (omega (arith, c.requires.same)))))
    c.narrow.ensures
