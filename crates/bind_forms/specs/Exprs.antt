-- The expression that a tree means: parentheses and chains of one part make no node.
use Rattle.std.specs.Prelude.{ℕ, List, [], ◌∷◌, map, Bool, Option, None, Some}
use Rattle.cs_types.specs.declared.Schema.{Schema}
use Rattle.cs_types.specs.declared.Loose.TheVariants as loose
use Rattle.tsql_trees.specs.declared.leaf.SignTree.{SignTree}
use Rattle.tsql_trees.specs.declared.expr.TimesSign.{TimesSign}
use Rattle.tsql_trees.specs.declared.expr.TimesSign.TheVariants.{Star, Slash, Percent}
use Rattle.cs_model.specs.declared.expr.Times.{Times}
use Rattle.cs_model.specs.declared.expr.Times.TheVariants.{Multiply, Divide, Remainder}
use Rattle.tsql_trees.specs.declared.expr.ExprTree.{ExprTree, ExprTree-F, fold-ExprTree}
use Rattle.tsql_trees.specs.declared.expr.TermTree.{TermTree, TermTree-F, fold-TermTree}
use Rattle.tsql_trees.specs.declared.expr.FactorTree.{FactorTree, FactorTree-F, fold-FactorTree}
use Rattle.tsql_trees.specs.declared.expr.PrimaryTree.{PrimaryTree, PrimaryTree-F, fold-PrimaryTree}
use Rattle.cs_model.specs.declared.expr.Expr.{Expr, Expr-F, out-Expr}
use Rattle.cs_model.specs.declared.expr.Expr.TheVariants as exprs
use Rattle.bind_names.specs.Names.{number_literal}
use Rattle.bind_forms.specs.Literals.{column_of, text_literal, beside}

-- a chain of sums from the left
abbrev pub sum_of : Expr → List (Bool × Expr) → Expr
sum_of first [] = first
sum_of first (next ∷ rest) = exprs.Sum first (next ∷ rest)

-- a chain of products from the left
abbrev pub product_of : Expr → List (Times × Expr) → Expr
product_of first [] = first
product_of first (next ∷ rest) = exprs.Product first (next ∷ rest)

-- what a sign of a product does
abbrev pub times_of : TimesSign → Times
times_of Star = Multiply
times_of Slash = Divide
times_of Percent = Remainder

-- a sign that does not belong to a number
abbrev pub signed : Option SignTree → Expr → Expr
signed None part = part
signed (Some sign) part = exprs.Signed sign.minus part

-- each node, from the expressions of its parts
abbrev pub primary_step : Schema → PrimaryTree-F Expr Expr Expr Expr → Expr
primary_step schema (PrimaryTree-F.Number number) = exprs.Constant (number_literal number)
primary_step schema (PrimaryTree-F.Text text) = exprs.Constant (text_literal text)
primary_step schema (PrimaryTree-F.Null place) = exprs.Constant loose.Null
primary_step schema (PrimaryTree-F.Name name) = exprs.Column (column_of schema name)
primary_step schema (PrimaryTree-F.Nested place expr) = expr

abbrev pub factor_step : FactorTree-F Expr Expr Expr Expr → Expr
factor_step factor = signed factor.sign factor.primary

abbrev pub term_step : TermTree-F Expr Expr Expr Expr → Expr
term_step term = product_of term.first (map (λ p. (times_of p.0.sign, p.1)) term.rest)

abbrev pub expr_step : ExprTree-F Expr Expr Expr Expr → Expr
expr_step expr = sum_of expr.first (map (λ p. (p.0.minus, p.1)) expr.rest)

-- the expressions of a tree and of its parts, whose names are columns of the schema
abbrev pub expr_of : Schema → ExprTree → Expr
expr_of schema expr = fold-ExprTree Expr Expr Expr Expr (primary_step schema) expr_step factor_step term_step expr

abbrev pub term_of : Schema → TermTree → Expr
term_of schema term = fold-TermTree Expr Expr Expr Expr (primary_step schema) expr_step factor_step term_step term

abbrev pub factor_of : Schema → FactorTree → Expr
factor_of schema factor = fold-FactorTree Expr Expr Expr Expr (primary_step schema) expr_step factor_step term_step factor

abbrev pub primary_of : Schema → PrimaryTree → Expr
primary_of schema primary = fold-PrimaryTree Expr Expr Expr Expr (primary_step schema) expr_step factor_step term_step primary

-- an expression for the value of a column: a literal alone stands beside it
abbrev pub layer_beside : Schema → ℕ → Expr → Expr-F Expr → Expr
layer_beside schema column expr (Expr-F.Constant value) = exprs.Constant (beside schema column value)
layer_beside schema column expr (Expr-F.Column other) = expr
layer_beside schema column expr (Expr-F.Signed minus part) = expr
layer_beside schema column expr (Expr-F.Sum first rest) = expr
layer_beside schema column expr (Expr-F.Product first rest) = expr

abbrev pub expr_beside : Schema → ℕ → Expr → Expr
expr_beside schema column expr = layer_beside schema column expr (out-Expr expr)

-- the value of a column of a schema, by the columns that its names mean
abbrev pub value_for : Schema → Schema → ℕ → ExprTree → Expr
value_for names schema column tree = expr_beside schema column (expr_of names tree)
