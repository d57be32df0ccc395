-- The truth of a predicate over a row.
use Rattle.std.specs.Prelude.{ℕ, ◌^◌, Bool, true, false, ℤ, pos, ◌*ℤ◌, List, [], ◌∷◌, map, Option, Some, None}
use Rattle.std.specs.declared.cmp.Ordering.{Ordering}
use Rattle.std.specs.Ordering.{nat_cmp, int_cmp, is_eq, is_ne, is_lt, is_le, is_gt, is_ge}
use Rattle.std.specs.Cmp.Lexicographic.{slice_cmp}
use Rattle.cs_types.specs.declared.Schema.{Schema}
use Rattle.cs_types.specs.declared.Value.{Value}
use Rattle.cs_types.specs.declared.Loose.{Loose}
use Rattle.cs_types.specs.declared.Loose.TheVariants.{Null, Number, Text, Day}
use Rattle.cs_model.specs.declared.pred.Relation.{Relation}
use Rattle.cs_model.specs.declared.pred.Relation.TheVariants.{Equal, NotEqual, Less, LessEqual, Greater, GreaterEqual}
use Rattle.cs_model.specs.declared.pred.Operand.{Operand}
use Rattle.cs_model.specs.declared.pred.Operand.TheVariants as operand
use Rattle.cs_model.specs.declared.pred.Pred.{Pred}
use Rattle.cs_model.specs.declared.pred.Pred.TheOpen.{Pred-F}
use Rattle.cs_model.specs.declared.pred.Pred.TheFolds.{fold-Pred}
use Rattle.cs_model.specs.declared.truth.Truth.{Truth}
use Rattle.cs_model.specs.declared.truth.Truth.TheVariants.{True, False, Unknown}
use Rattle.cs_model.specs.Cells.{loose_at}
use Rattle.cs_model.specs.Likes.{is_like}

abbrev pub not : Truth → Truth
not True = False
not Unknown = Unknown
not False = True

abbrev pub not_if : Bool → Truth → Truth
not_if true t = not t
not_if false t = t

-- False where a part is False, else Unknown where one is Unknown
abbrev pub and : Truth → Truth → Truth
and False b = False
and Unknown False = False
and Unknown Unknown = Unknown
and Unknown True = Unknown
and True b = b

-- True where a part is True, else Unknown where one is Unknown
abbrev pub or : Truth → Truth → Truth
or True b = True
or Unknown True = True
or Unknown Unknown = Unknown
or Unknown False = Unknown
or False b = b

abbrev pub all_of : List Truth → Truth
all_of [] = True
all_of (t ∷ ts) = and t (all_of ts)

abbrev pub any_of : List Truth → Truth
any_of [] = False
any_of (t ∷ ts) = or t (any_of ts)

abbrev pub truth_if : Bool → Truth
truth_if true = True
truth_if false = False

-- the order of m over 10 ^ s and n over 10 ^ t
abbrev pub number_cmp : ℤ → ℕ → ℤ → ℕ → Ordering
number_cmp m s n t = int_cmp (m *ℤ pos (10 ^ t)) (n *ℤ pos (10 ^ s))

-- numbers by size, texts byte by byte, days by their number. NULL has no order, nor have two values of different kinds,
-- which binding lets into no comparison
abbrev pub order_of : Loose → Loose → Option Ordering
order_of (Number m s) (Number n t) = Some (number_cmp m s n t)
order_of (Text a) (Text b) = Some (slice_cmp nat_cmp a b)
order_of (Day a) (Day b) = Some (int_cmp a b)
order_of _ _ = None

abbrev pub holds : Relation → Ordering → Bool
holds Equal order = is_eq order
holds NotEqual order = is_ne order
holds Less order = is_lt order
holds LessEqual order = is_le order
holds Greater order = is_gt order
holds GreaterEqual order = is_ge order

abbrev pub truth_of_order : Relation → Option Ordering → Truth
truth_of_order sign None = Unknown
truth_of_order sign (Some order) = truth_if (holds sign order)

-- a comparison, Unknown where the sides have no order
abbrev pub compare : Relation → Loose → Loose → Truth
compare sign a b = truth_of_order sign (order_of a b)

abbrev pub operand_of : Schema → List Value → Operand → Loose
operand_of schema row (operand.Column i) = loose_at schema row i
operand_of schema row (operand.Constant constant) = constant

-- the OR of equalities
abbrev pub among : Loose → List Loose → Truth
among a list = any_of (map (compare Equal a) list)

abbrev pub between : Loose → Loose → Loose → Truth
between low high a = and (compare GreaterEqual a low) (compare LessEqual a high)

-- Unknown where there is no text
abbrev pub like : List ℕ → Loose → Truth
like pattern Null = Unknown
like pattern (Number m s) = Unknown
like pattern (Text text) = truth_if (is_like pattern text)
like pattern (Day d) = Unknown

abbrev pub is_null : Loose → Bool
is_null Null = true
is_null (Number m s) = false
is_null (Text t) = false
is_null (Day d) = false

-- the truth of a predicate, from those of its parts
abbrev pub truth_step : Schema → List Value → Pred-F Truth → Truth
truth_step schema row (Pred-F.AnyOf parts) = any_of parts
truth_step schema row (Pred-F.AllOf parts) = all_of parts
truth_step schema row (Pred-F.Not part) = not part
truth_step schema row (Pred-F.Compare left sign right) = compare sign (operand_of schema row left) (operand_of schema row right)
truth_step schema row (Pred-F.Between i negated low high) = not_if negated (between low high (loose_at schema row i))
truth_step schema row (Pred-F.Among i negated list) = not_if negated (among (loose_at schema row i) list)
truth_step schema row (Pred-F.Like i negated pattern) = not_if negated (like pattern (loose_at schema row i))
truth_step schema row (Pred-F.IsNull i negated) = not_if negated (truth_if (is_null (loose_at schema row i)))

-- the truth of a predicate over a row
abbrev pub truth : Pred → List Value → Schema → Truth
truth pred row schema = fold-Pred Truth (truth_step schema row) pred
