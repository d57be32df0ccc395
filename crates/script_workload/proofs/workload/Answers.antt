use Rattle.script_workload.proofs.Lines.{script_more, number_more}
use Rattle.script_workload.proofs.workload.Goals as goal

pub loop-i-preserved : goal.loop-i-preserved
loop-i-preserved c = record {
  script = script_more c.args.number c.args.sessions c.loop-i.i _ _ _ _ c.loop-i.invariant.script c.loop-i.invariant.sequence c.draw_statement-statement.ensures.statement c.in_ok-append_line.ensures;
  sequence = number_more c.args.number c.loop-i.i _ _ _ c.loop-i.invariant.sequence c.draw_statement-statement.ensures.statement c.draw_statement-statement.ensures.number;
}
