use Rattle.std.proofs.Common.{◌≡◌, ◌≤◌, take, count_by}
use Rattle.cs_model.specs.declared.report.GroupLine.{GroupLine}
use Rattle.statement_core.specs.Lines.{is_in_use}
use Rattle.statement_core.proofs.ledgers.turns_for.Given as goal

abbrev pub invariant-loop-line : goal.invariant-loop-line
invariant-loop-line l = record {
  counted : l.groups ≡ count_by (λ (line : GroupLine). is_in_use line.state) (take l.line-index l.lines);
  few : l.groups ≤ l.line-index;
}
