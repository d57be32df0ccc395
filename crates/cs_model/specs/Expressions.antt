-- The value of an expression over a row.
use Rattle.std.specs.Prelude.{ℕ, ℤ, pos, neg_ℤ, ◌+ℤ◌, ◌-ℤ◌, ◌*ℤ◌, int_div, int_rem, Bool, true, false, List, [], ◌∷◌, ◌==◌, if◌then◌else◌, Option, Some, None, Result, Ok, Err, ◌≡◌}
use Rattle.std.specs.Ordering.{int_eq}
use Rattle.cs_types.specs.declared.ColumnType.TheVariants.{BigInt}
use Rattle.cs_types.specs.declared.Schema.{Schema}
use Rattle.cs_types.specs.declared.Value.{Value}
use Rattle.cs_types.specs.declared.Loose.{Loose}
use Rattle.cs_types.specs.declared.Loose.TheVariants.{Null, Number, Text, Day}
use Rattle.cs_types.specs.Kinds.{keeps_number}
use Rattle.cs_model.specs.declared.expr.Times.{Times}
use Rattle.cs_model.specs.declared.expr.Times.TheVariants.{Multiply, Divide, Remainder}
use Rattle.cs_model.specs.declared.expr.Expr.{Expr}
use Rattle.cs_model.specs.declared.expr.Expr.TheOpen.{Expr-F}
use Rattle.cs_model.specs.declared.expr.Expr.TheFolds.{fold-Expr}
use Rattle.cs_model.specs.declared.expr_refusal.ExprRefusal.{ExprRefusal}
use Rattle.cs_model.specs.declared.expr_refusal.ExprRefusal.TheVariants.{Overflow, ZeroDivisor, Memory}
use Rattle.cs_model.specs.Cells.{loose_at}

-- a value, or why there is none
abbrev pub Computed : Type 0
Computed = Result Loose ExprRefusal

-- a result, which bigint has to keep
abbrev pub in_bigint : ℤ → Computed
in_bigint z = if keeps_number BigInt z then Ok (Number z 0) else Err Overflow

abbrev pub sum : Bool → ℤ → ℤ → Computed
sum true a b = in_bigint (a -ℤ b)
sum false a b = in_bigint (a +ℤ b)

-- the quotient is cut toward zero, and the remainder has the sign of the left side
abbrev pub product : Times → ℤ → ℤ → Computed
product Multiply a b = in_bigint (a *ℤ b)
product Divide a b = if int_eq b (pos 0) then Err ZeroDivisor else in_bigint (int_div a b)
product Remainder a b = if int_eq b (pos 0) then Err ZeroDivisor else in_bigint (int_rem a b)

abbrev pub signed : Bool → ℤ → Computed
signed true a = in_bigint (neg_ℤ a)
signed false a = in_bigint a

-- the whole number that a value is. NULL is none; nor are numbers with places, texts and days, which binding lets into no
-- arithmetic
abbrev pub whole_of : Loose → Option ℤ
whole_of Null = None
whole_of (Number m s) = if s == 0 then Some m else None
whole_of (Text t) = None
whole_of (Day d) = None

-- an operation on a value; NULL where it is no whole number
abbrev pub on_one : (ℤ → Computed) → Option ℤ → Computed
on_one f None = Ok Null
on_one f (Some a) = f a

-- an operation on two values; NULL where one of them is no whole number
abbrev pub on_two : (ℤ → ℤ → Computed) → Option ℤ → Option ℤ → Computed
on_two f None b = Ok Null
on_two f (Some a) None = Ok Null
on_two f (Some a) (Some b) = f a b

-- what follows a value; a refusal stays
infixl 10 ◌>>=◌
abbrev pub ◌>>=◌ : Computed → (Loose → Computed) → Computed
(Ok x) >>= f = f x
(Err e) >>= f = Err e

-- the parts of a chain in turn, each computed and then joined to the value of what stands on its left
abbrev pub chain : {Op : Type 0} → (Op → ℤ → ℤ → Computed) → Loose → List (Op × Computed) → Computed
chain f left [] = Ok left
chain f left (part ∷ rest) = part.1 >>= (λ right. on_two (f part.0) (whole_of left) (whole_of right) >>= (λ joined. chain f joined rest))

-- a node's value, from those of its parts. A literal and a cell are not judged
abbrev pub compute_step : Schema → List Value → Expr-F Computed → Computed
compute_step schema row (Expr-F.Constant constant) = Ok constant
compute_step schema row (Expr-F.Column i) = Ok (loose_at schema row i)
compute_step schema row (Expr-F.Signed minus part) = part >>= (λ x. on_one (signed minus) (whole_of x))
compute_step schema row (Expr-F.Sum first rest) = first >>= (λ x. chain sum x rest)
compute_step schema row (Expr-F.Product first rest) = first >>= (λ x. chain product x rest)

-- the value of an expression over a row, or why it has none
abbrev pub compute : Expr → List Value → Schema → Computed
compute expr row schema = fold-Expr Computed (compute_step schema row) expr

-- a refusal is the definition's, and want of memory may come anywhere
abbrev pub Refuses : ExprRefusal → Computed → Type 0
Refuses Overflow computed = computed ≡ Err Overflow
Refuses ZeroDivisor computed = computed ≡ Err ZeroDivisor
Refuses Memory computed = Unit {0}

-- what a call gives is what the definition gives, but for want of memory
abbrev pub Gives : Computed → Computed → Type 0
Gives (Ok x) computed = computed ≡ Ok x
Gives (Err refusal) computed = Refuses refusal computed

-- the number of a refusal; want of memory is 701
abbrev pub refusal_number : ExprRefusal → ℕ
refusal_number Overflow = 8115
refusal_number ZeroDivisor = 8134
refusal_number Memory = 701
