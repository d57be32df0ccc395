use Rattle.std.proofs.Common.{◌≡◌, filter, take}
use Rattle.group_log.specs.Reorganizing.{is_kept}
use Rattle.statement_core.proofs.ledgers.kept.Given as goal

-- the loop goes by the name of its pattern's first variable
abbrev pub invariant-loop-id : goal.invariant-loop-id
invariant-loop-id l = l.kept.items ≡ filter (is_kept l.marked l.by) (take l.id-index l.holders)
