-- The sides of a comparison.
use Rattle.cs_types.specs.declared.Loose.{Loose}
use Rattle.cs_types.specs.declared.Loose.TheVariants.{Null, Number, Text, Day}
use Rattle.cs_predicate.specs.declared.side.Side.{Side}
use Rattle.cs_predicate.specs.declared.side.Side.TheVariants as side

-- the value that a side of a comparison lends
abbrev pub lent : Side → Loose
lent side.Null = Null
lent (side.Number m s) = Number m s
lent (side.Text text) = Text text.now
lent (side.Day day) = Day day
