-- The faults of an expression whose value goes to a column.
use Rattle.std.specs.Prelude.{ℕ, List, [], ◌∷◌, ◌++◌, Bool, true, false, not, ◌&&◌, is_none, Option, None, Some, if◌then◌else◌}
use Rattle.std.specs.List.{flat_map}
use Rattle.cs_types.specs.declared.ColumnType.{ColumnType}
use Rattle.cs_types.specs.declared.ColumnType.TheVariants.{TinyInt, SmallInt, Int, BigInt, Decimal, Date, VarChar}
use Rattle.cs_types.specs.declared.Schema.{Schema}
use Rattle.tsql_trees.specs.declared.leaf.NumberTree.{NumberTree}
use Rattle.tsql_trees.specs.declared.leaf.TextTree.{TextTree}
use Rattle.tsql_trees.specs.declared.leaf.SignTree.{SignTree}
use Rattle.tsql_trees.specs.declared.expr.ExprTree.{ExprTree, ExprTree-F, fold-ExprTree}
use Rattle.tsql_trees.specs.declared.expr.TermTree.{TermTree, TermTree-F, fold-TermTree}
use Rattle.tsql_trees.specs.declared.expr.FactorTree.{FactorTree-F}
use Rattle.tsql_trees.specs.declared.expr.PrimaryTree.{PrimaryTree, PrimaryTree-F, fold-PrimaryTree}
use Rattle.bind_faults.specs.declared.fault.Fault.{Fault}
use Rattle.bind_faults.specs.declared.family.Family.TheVariants as families
use Rattle.bind_faults.specs.declared.setting.Scope.{Scope}
use Rattle.bind_faults.specs.declared.setting.Setting.{Setting}
use Rattle.bind_faults.specs.Least.{fault_if}
use Rattle.bind_faults.specs.Families.{kind_in, unknown, family_of, differ, text_beside, day_faults}

-- ---- the shape of an expression

-- an expression without signs and operators: a name or a literal, in any number of parentheses
abbrev pub alone_primary : PrimaryTree-F Bool Bool Bool Bool → Bool
alone_primary (PrimaryTree-F.Number n) = true
alone_primary (PrimaryTree-F.Text t) = true
alone_primary (PrimaryTree-F.Null at) = true
alone_primary (PrimaryTree-F.Name n) = true
alone_primary (PrimaryTree-F.Nested at inner) = inner

abbrev pub alone_factor : FactorTree-F Bool Bool Bool Bool → Bool
alone_factor f = is_none f.sign && f.primary

abbrev pub no_more : {X : Type 0} → List X → Bool
no_more [] = true
no_more (x ∷ rest) = false

abbrev pub alone_term : TermTree-F Bool Bool Bool Bool → Bool
alone_term t = no_more t.rest && t.first

abbrev pub alone_expr : ExprTree-F Bool Bool Bool Bool → Bool
alone_expr e = no_more e.rest && e.first

abbrev pub is_alone : ExprTree → Bool
is_alone e = fold-ExprTree Bool Bool Bool Bool alone_primary alone_expr alone_factor alone_term e

-- the place of the first byte of an expression
abbrev pub primary_place : PrimaryTree-F ℕ ℕ ℕ ℕ → ℕ
primary_place (PrimaryTree-F.Number n) = n.place
primary_place (PrimaryTree-F.Text t) = t.place
primary_place (PrimaryTree-F.Null at) = at
primary_place (PrimaryTree-F.Name n) = n.place
primary_place (PrimaryTree-F.Nested at inner) = at

abbrev pub sign_place : Option SignTree → ℕ → ℕ
sign_place None at = at
sign_place (Some sign) at = sign.place

abbrev pub factor_place : FactorTree-F ℕ ℕ ℕ ℕ → ℕ
factor_place f = sign_place f.sign f.primary

abbrev pub term_place : TermTree-F ℕ ℕ ℕ ℕ → ℕ
term_place t = t.first

abbrev pub expr_place : ExprTree-F ℕ ℕ ℕ ℕ → ℕ
expr_place e = e.first

abbrev pub place_of : ExprTree → ℕ
place_of e = fold-ExprTree ℕ ℕ ℕ ℕ primary_place expr_place factor_place term_place e

-- ---- what stands in an expression

abbrev pub is_integer_kind : ColumnType → Bool
is_integer_kind TinyInt = true
is_integer_kind SmallInt = true
is_integer_kind Int = true
is_integer_kind BigInt = true
is_integer_kind (Decimal p s) = false
is_integer_kind Date = false
is_integer_kind (VarChar n) = false

abbrev pub is_integer : Option ColumnType → Bool
is_integer None = false
is_integer (Some kind) = is_integer_kind kind

abbrev pub is_decimal_kind : ColumnType → Bool
is_decimal_kind TinyInt = false
is_decimal_kind SmallInt = false
is_decimal_kind Int = false
is_decimal_kind BigInt = false
is_decimal_kind (Decimal p s) = true
is_decimal_kind Date = false
is_decimal_kind (VarChar n) = false

abbrev pub is_decimal : Option ColumnType → Bool
is_decimal None = false
is_decimal (Some kind) = is_decimal_kind kind

-- 207, 206 and 50001 of a name where a type is wanted
abbrev pub name_faults : Setting → Option ColumnType → ℕ → List Fault
name_faults setting kind at =
    unknown kind at
    ++ fault_if (differ (family_of setting.wanted) (family_of kind)) 206 setting.at
    ++ fault_if (is_integer setting.wanted && is_decimal kind) 50001 at

-- 206 and 50001 of a number where a type is wanted
abbrev pub number_faults : Setting → NumberTree → List Fault
number_faults setting n =
    fault_if (differ (family_of setting.wanted) families.Number) 206 setting.at
    ++ fault_if (is_integer setting.wanted && n.point) 50001 n.place

-- 206 and 241 of a text where a type is wanted
abbrev pub text_faults : Setting → TextTree → List Fault
text_faults setting t =
    fault_if (differ (family_of setting.wanted) (text_beside (family_of setting.wanted))) 206 setting.at
    ++ day_faults (family_of setting.wanted) t

-- the faults of the names and literals of an expression, from left to right; NULL goes everywhere
abbrev pub primary_faults : Schema → Setting → PrimaryTree-F (List Fault) (List Fault) (List Fault) (List Fault) → List Fault
primary_faults schema setting (PrimaryTree-F.Number n) = number_faults setting n
primary_faults schema setting (PrimaryTree-F.Text t) = text_faults setting t
primary_faults schema setting (PrimaryTree-F.Null at) = []
primary_faults schema setting (PrimaryTree-F.Name n) = name_faults setting (kind_in schema setting.scope n.bytes) n.place
primary_faults schema setting (PrimaryTree-F.Nested at inner) = inner

abbrev pub factor_faults : FactorTree-F (List Fault) (List Fault) (List Fault) (List Fault) → List Fault
factor_faults f = f.primary

abbrev pub term_faults : TermTree-F (List Fault) (List Fault) (List Fault) (List Fault) → List Fault
term_faults t = t.first ++ flat_map (λ p. p.1) t.rest

abbrev pub sum_faults : ExprTree-F (List Fault) (List Fault) (List Fault) (List Fault) → List Fault
sum_faults e = e.first ++ flat_map (λ p. p.1) e.rest

abbrev pub within_expr : Schema → Setting → ExprTree → List Fault
within_expr schema setting e =
    fold-ExprTree (List Fault) (List Fault) (List Fault) (List Fault) (primary_faults schema setting) sum_faults factor_faults term_faults e

abbrev pub within_term : Schema → Setting → TermTree → List Fault
within_term schema setting t =
    fold-TermTree (List Fault) (List Fault) (List Fault) (List Fault) (primary_faults schema setting) sum_faults factor_faults term_faults t

abbrev pub within_primary : Schema → Setting → PrimaryTree → List Fault
within_primary schema setting p =
    fold-PrimaryTree (List Fault) (List Fault) (List Fault) (List Fault) (primary_faults schema setting) sum_faults factor_faults term_faults p

-- ---- an expression

-- a name or a literal alone goes to the column. What stands in arithmetic or under a sign goes where a whole number
-- goes: a number is wanted, and none with a point
abbrev pub wanted : Bool → Option ColumnType → Option ColumnType
wanted alone target = if alone then target else Some BigInt

abbrev pub setting_of : Scope → Option ColumnType → ExprTree → Setting
setting_of scope target e = record { scope = scope; wanted = wanted (is_alone e) target; at = place_of e }

-- 206: what arithmetic or a sign gives is a number, also over NULLs
abbrev pub result_faults : Option ColumnType → ExprTree → List Fault
result_faults target e = fault_if (not (is_alone e) && differ (family_of target) families.Number) 206 (place_of e)

abbrev pub expr_faults : Schema → Scope → Option ColumnType → ExprTree → List Fault
expr_faults schema scope target e = within_expr schema (setting_of scope target e) e ++ result_faults target e
