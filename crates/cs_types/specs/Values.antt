-- Values and their order.
use Rattle.std.specs.declared.cmp.Ordering.{Ordering}
use Rattle.std.specs.declared.cmp.Ordering.TheVariants.{Less, Equal, Greater}
use Rattle.std.specs.Ordering.{nat_cmp, int_cmp}
use Rattle.std.specs.Cmp.Lexicographic.{slice_cmp}
use Rattle.cs_types.specs.declared.Value.{Value}
use Rattle.cs_types.specs.declared.Value.TheVariants.{Null, Number, Text}

-- NULL first, then numbers by size, then texts byte by byte
abbrev pub value_cmp : Value → Value → Ordering
value_cmp Null Null = Equal
value_cmp Null (Number n) = Less
value_cmp Null (Text u) = Less
value_cmp (Number m) Null = Greater
value_cmp (Number m) (Number n) = int_cmp m n
value_cmp (Number m) (Text u) = Less
value_cmp (Text t) Null = Greater
value_cmp (Text t) (Number n) = Greater
value_cmp (Text t) (Text u) = slice_cmp nat_cmp t u
