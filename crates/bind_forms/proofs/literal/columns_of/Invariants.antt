use Rattle.std.proofs.Common.{◌≡◌, ◌++◌, map, drop}
use Rattle.bind_forms.specs.Literals.{column_of}
use Rattle.bind_forms.proofs.literal.columns_of.Given as goal

abbrev pub invariant-loop-name : goal.invariant-loop-name
invariant-loop-name l = l.made ++ map (column_of l.schema) (drop l.name-index l.names) ≡ map (column_of l.schema) l.names
