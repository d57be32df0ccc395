-- The limits of lists in statements.
use Rattle.std.specs.Prelude.{ℕ, ◌-◌, List, [], ◌∷◌, ◌==◌, slice_get, if◌then◌else◌, Option, None, Some}
use Rattle.std.specs.Option.{option_map}
use Rattle.tsql_trees.specs.declared.leaf.NameTree.{NameTree}
use Rattle.tsql_trees.specs.declared.statement.Statement.{Statement}
use Rattle.tsql_trees.specs.declared.statement.Statement.TheVariants as statements
use Rattle.tsql_trees.specs.declared.statement.SourceTree.TheVariants as sources
use Rattle.tsql_trees.specs.declared.statement.ItemsTree.TheVariants as shown
use Rattle.tsql_trees.specs.declared.statement.ItemTree.{ItemTree}
use Rattle.tsql_trees.specs.declared.statement.ItemTree.TheVariants as its
use Rattle.tsql_trees.specs.declared.statement.OitemTree.{OitemTree}
use Rattle.tsql_grammar.specs.declared.terminal.Terminal.TheVariants as terminal
use Rattle.tsql_grammar.specs.Terminals.{same}
use Rattle.tsql_grammar.specs.Forms.{Symbols}

abbrev pub first_of : {A : Type 0} → Option A → Option A → Option A
first_of (Some x) other = Some x
first_of None other = other

-- the 1,001st row of VALUES
abbrev pub row_over : Statement → Option ℕ
row_over (statements.Insert table names (sources.Values rows)) = option_map (λ row. row.place) (slice_get rows 1000)
row_over _ = None

abbrev pub item_place : ItemTree → ℕ
item_place (its.Name name) = name.place
item_place (its.CountAll place) = place
item_place (its.Aggregate place aggregate name) = place

-- the 65th item of a SELECT
abbrev pub item_over : Statement → Option ℕ
item_over (statements.Select (shown.List items) table filter groups order) = option_map item_place (slice_get items 64)
item_over _ = None

-- the place of the next token
abbrev pub next_place : Symbols → Option ℕ
next_place [] = None
next_place (t ∷ ts) = Some t.place

-- in a list in parentheses, the value after so many commas and one more
abbrev pub value_behind : ℕ → Symbols → Option ℕ
value_behind n [] = None
value_behind n (t ∷ ts) =
    if same t.terminal terminal.CloseSign then None
    else if same t.terminal terminal.CommaSign then (if n == 0 then next_place ts else value_behind (n - 1) ts)
    else value_behind n ts

-- the first 1,001st value of an IN
abbrev pub value_over : Symbols → Option ℕ
value_over [] = None
value_over (t ∷ ts) = if same t.terminal terminal.In then first_of (value_behind 999 ts) (value_over ts) else value_over ts

abbrev pub name_over : Option (List NameTree) → Option ℕ
name_over None = None
name_over (Some names) = option_map (λ name. name.place) (slice_get names 32)

abbrev pub oitem_over : Option (List OitemTree) → Option ℕ
oitem_over None = None
oitem_over (Some oitems) = option_map (λ oitem. oitem.name.place) (slice_get oitems 32)

-- the 33rd name of GROUP BY, or else of ORDER BY
abbrev pub order_over : Statement → Option ℕ
order_over (statements.Select items table filter groups order) = first_of (name_over groups) (oitem_over order)
order_over _ = None

-- the number and the place of the first element over a limit; each list stands after the ones named before it
abbrev pub passed_limit : Symbols → Statement → Option (ℕ × ℕ)
passed_limit symbols statement =
    first_of (option_map (λ place. (10738, place)) (row_over statement))
    (option_map (λ place. (50001, place)) (first_of (item_over statement) (first_of (value_over symbols) (order_over statement))))
