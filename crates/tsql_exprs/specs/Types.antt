-- The faults of columns' types that the grammar has, each by the place of the number that shows it.
use Rattle.std.specs.Prelude.{ℕ, nat_le, List, [], ◌∷◌, ◌++◌, not, ◌&&◌, Option, None, Some, if◌then◌else◌}
use Rattle.tsql_trees.specs.declared.leaf.NumberTree.{NumberTree}
use Rattle.tsql_trees.specs.declared.column.TypeTree.{TypeTree}
use Rattle.tsql_trees.specs.declared.column.TypeTree.TheVariants as types

-- a number of a type that is no whole number from low to high
abbrev pub outside : ℕ → ℕ → NumberTree → List ℕ
outside low high n = if not n.point && nat_le low n.digits && nat_le n.digits high then [] else n.place ∷ []

-- decimal(p,s) has 1 to 18 digits, at most all of them after the point; varchar(n) has 1 to 8000 bytes
abbrev pub digits_faults : NumberTree → Option NumberTree → List ℕ
digits_faults p None = outside 1 18 p
digits_faults p (Some s) = outside 1 18 p ++ outside 0 p.digits s

abbrev pub type_faults : TypeTree → List ℕ
type_faults (types.Plain place kind) = []
type_faults (types.Decimal place None) = []
type_faults (types.Decimal place (Some (p, scale))) = digits_faults p scale
type_faults (types.VarChar place None) = []
type_faults (types.VarChar place (Some n)) = outside 1 8000 n
