use Rattle.std.proofs.Common.{◌≡◌, map, filter, take}
use Rattle.cs_model.specs.declared.report.GroupLine.{GroupLine}
use Rattle.statement_core.specs.Lines.{is_closed}
use Rattle.statement_core.proofs.ledgers.closed_ids.Given as goal

abbrev pub invariant-loop-line : goal.invariant-loop-line
invariant-loop-line l = l.ids.items ≡ map (λ (line : GroupLine). line.id) (filter (λ (line : GroupLine). is_closed line.state) (take l.line-index l.lines))
