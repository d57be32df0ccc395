-- Keys: their order, and which is which.
use Rattle.std.specs.Prelude.{Bool}
use Rattle.std.specs.declared.cmp.Ordering.{Ordering}
use Rattle.std.specs.Ordering.{int_cmp, is_eq}
use Rattle.cs_types.specs.declared.Key.{Key}

-- keys are ordered as their numbers
abbrev pub key_cmp : Key → Key → Ordering
key_cmp a b = int_cmp a.0 b.0

abbrev pub same_key : Key → Key → Bool
same_key a b = is_eq (key_cmp a b)
