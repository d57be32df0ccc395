use Rattle.std.proofs.Common.{◌≡◌, ◌++◌, map, drop}
use Rattle.bind_forms.specs.Plans.{row_of}
use Rattle.bind_forms.proofs.write.rows_of.Given as goal

abbrev pub invariant-loop-row : goal.invariant-loop-row
invariant-loop-row l =
    l.made ++ map (λ row. row_of l.schema l.schema l.columns row.exprs) (drop l.row-index l.rows) ≡ map (λ row. row_of l.schema l.schema l.columns row.exprs) l.rows
