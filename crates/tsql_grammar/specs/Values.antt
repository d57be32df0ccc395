-- What the tokens and the parts of a line give: the values of names and literals, and the nodes of trees.
use Rattle.std.specs.Prelude.{ℕ, ◌+◌, ◌-◌, ◌*◌, min, List, [], ◌∷◌, length, take, drop, Bool, true, false, not, ◌==◌, if◌then◌else◌, Option, None, Some}
use Rattle.std.specs.Char.{is_ascii_digit}
use Rattle.tsql_trees.specs.declared.leaf.NameTree.{NameTree}
use Rattle.tsql_trees.specs.declared.leaf.NumberTree.{NumberTree}
use Rattle.tsql_trees.specs.declared.leaf.TextTree.{TextTree}
use Rattle.tsql_trees.specs.declared.leaf.SignTree.{SignTree}
use Rattle.tsql_trees.specs.declared.leaf.TableTree.{TableTree}
use Rattle.tsql_trees.specs.declared.column.TypeTree.{TypeTree}
use Rattle.tsql_trees.specs.declared.column.TypeTree.TheVariants as types
use Rattle.tsql_trees.specs.declared.column.PlainType.{PlainType}
use Rattle.tsql_trees.specs.declared.column.PlainType.TheVariants as plain_types
use Rattle.tsql_trees.specs.declared.expr.ExprTree.{ExprTree, roll-ExprTree}
use Rattle.tsql_trees.specs.declared.expr.TermTree.{TermTree, roll-TermTree}
use Rattle.tsql_trees.specs.declared.expr.FactorTree.{FactorTree, roll-FactorTree}
use Rattle.tsql_trees.specs.declared.expr.PrimaryTree.{PrimaryTree}
use Rattle.tsql_trees.specs.declared.expr.PrimaryTree.TheVariants as primaries
use Rattle.tsql_trees.specs.declared.expr.TimesSign.{TimesSign}
use Rattle.tsql_trees.specs.declared.expr.TimesSign.TheVariants as times
use Rattle.tsql_trees.specs.declared.expr.TimesTree.{TimesTree}
use Rattle.tsql_trees.specs.declared.pred.PredTree.{PredTree, roll-PredTree}
use Rattle.tsql_trees.specs.declared.pred.ConjTree.{ConjTree, roll-ConjTree}
use Rattle.tsql_trees.specs.declared.pred.NegTree.{NegTree, roll-NegTree}
use Rattle.tsql_trees.specs.declared.pred.PartTree.{PartTree}
use Rattle.tsql_trees.specs.declared.pred.PartTree.TheVariants as parts
use Rattle.tsql_trees.specs.declared.pred.AtomTree.{AtomTree}
use Rattle.tsql_trees.specs.declared.pred.AtomTree.TheVariants as atoms
use Rattle.tsql_trees.specs.declared.pred.OperandTree.{OperandTree}
use Rattle.tsql_trees.specs.declared.pred.ConstTree.{ConstTree}
use Rattle.tsql_trees.specs.declared.pred.ConstTree.TheVariants as consts
use Rattle.tsql_trees.specs.declared.pred.CmpTree.{CmpTree}
use Rattle.tsql_trees.specs.declared.pred.CmpTree.TheVariants as cmps
use Rattle.tsql_trees.specs.declared.statement.Statement.{Statement}
use Rattle.tsql_trees.specs.declared.statement.Statement.TheVariants as statements
use Rattle.tsql_trees.specs.declared.statement.SourceTree.{SourceTree}
use Rattle.tsql_trees.specs.declared.statement.RowTree.{RowTree}
use Rattle.tsql_trees.specs.declared.statement.SeriesTree.{SeriesTree}
use Rattle.tsql_trees.specs.declared.statement.SetTree.{SetTree}
use Rattle.tsql_trees.specs.declared.statement.ItemsTree.{ItemsTree}
use Rattle.tsql_trees.specs.declared.statement.ItemsTree.TheVariants as shown
use Rattle.tsql_trees.specs.declared.statement.ItemTree.{ItemTree}
use Rattle.tsql_trees.specs.declared.statement.ItemTree.TheVariants as its
use Rattle.tsql_trees.specs.declared.statement.Aggregate.{Aggregate}
use Rattle.tsql_trees.specs.declared.statement.Aggregate.TheVariants as aggregates
use Rattle.tsql_trees.specs.declared.statement.OitemTree.{OitemTree}
use Rattle.tsql_grammar.specs.declared.terminal.Terminal.{Terminal}
use Rattle.tsql_grammar.specs.declared.terminal.Terminal.TheVariants as terminal
use Rattle.tsql_grammar.specs.declared.terminal.Symbol.{Symbol}
use Rattle.tsql_grammar.specs.Terminals.{same}
use Rattle.tsql_grammar.specs.Words.{bytes_at, unbracketed}

-- ---- names and literals

abbrev pub name_of : List ℕ → Symbol → NameTree
name_of text t = record { place = t.place; bytes = unbracketed (bytes_at text t.place t.size) }

-- one more digit; past 64 bits a number stands still, and a number of 19 digits is below that
abbrev pub with_digit : ℕ → ℕ → ℕ
with_digit value b =
    if is_ascii_digit b then min (min (value * 10) 18446744073709551615 + (b - 48)) 18446744073709551615 else value

abbrev pub digits_value : ℕ → List ℕ → ℕ
digits_value value [] = value
digits_value value (b ∷ bytes) = digits_value (with_digit value b) bytes

-- what is after the point
abbrev pub behind_point : List ℕ → List ℕ
behind_point [] = []
behind_point (b ∷ bytes) = if b == 46 then bytes else behind_point bytes

abbrev pub has_point : List ℕ → Bool
has_point [] = false
has_point (b ∷ bytes) = if b == 46 then true else has_point bytes

abbrev pub number_in : ℕ → List ℕ → NumberTree
number_in place bytes = record { place = place; minus = false; digits = digits_value 0 bytes; s = min (length (behind_point bytes)) 255; point = has_point bytes }

-- a number without a sign
abbrev pub number_of : List ℕ → Symbol → NumberTree
number_of text t = number_in t.place (bytes_at text t.place t.size)

abbrev pub sign_of : Symbol → SignTree
sign_of t = record { place = t.place; minus = same t.terminal terminal.MinusSign }

-- a number with the sign that belongs to it
abbrev pub signed : Option SignTree × NumberTree → NumberTree
signed (None, n) = n
signed (Some sign, n) = record { place = sign.place; minus = sign.minus; digits = n.digits; s = n.s; point = n.point }

-- a doubled quote is one
abbrev pub undoubled : List ℕ → List ℕ
undoubled [] = []
undoubled (b ∷ []) = b ∷ []
undoubled (b ∷ c ∷ bytes) = if b == 39 then b ∷ undoubled bytes else b ∷ undoubled (c ∷ bytes)

-- without the first byte and the last
abbrev pub inner : List ℕ → List ℕ
inner bytes = take (length bytes - 2) (drop 1 bytes)

abbrev pub text_of : List ℕ → Symbol → TextTree
text_of text t = record { place = t.place; bytes = undoubled (inner (bytes_at text t.place t.size)) }

-- ---- expressions

abbrev pub factor_of : Option SignTree × PrimaryTree → FactorTree
factor_of (sign, primaries.Number n) = roll-FactorTree (record { sign = None; primary = primaries.Number (signed (sign, n)) })
factor_of (sign, primary) = roll-FactorTree (record { sign = sign; primary = primary })

abbrev pub null_of : Symbol → PrimaryTree
null_of t = primaries.Null t.place

abbrev pub nested_of : Symbol × (ExprTree × Symbol) → PrimaryTree
nested_of (opened, (expr, close)) = primaries.Nested opened.place expr

abbrev pub times_in : Terminal → TimesSign
times_in terminal.StarSign = times.Star
times_in terminal.SlashSign = times.Slash
times_in _ = times.Percent

abbrev pub times_of : Symbol → TimesTree
times_of t = record { place = t.place; sign = times_in t.terminal }

abbrev pub term_of : FactorTree × List (TimesTree × FactorTree) → TermTree
term_of (first, rest) = roll-TermTree (record { first = first; rest = rest })

abbrev pub expr_of : TermTree × List (SignTree × TermTree) → ExprTree
expr_of (first, rest) = roll-ExprTree (record { first = first; rest = rest })

-- ---- predicates

abbrev pub is_some : {X : Type 0} → Option X → Bool
is_some None = false
is_some (Some x) = true

abbrev pub is_odd : List Symbol → Bool
is_odd [] = false
is_odd (t ∷ ts) = not (is_odd ts)

abbrev pub null_const : Symbol → ConstTree
null_const t = consts.Null t.place

abbrev pub cmp_in : Terminal → CmpTree
cmp_in terminal.EqualSign = cmps.Equal
cmp_in terminal.UnequalSign = cmps.NotEqual
cmp_in terminal.BangEqualSign = cmps.BangEqual
cmp_in terminal.LessSign = cmps.Less
cmp_in terminal.LessEqualSign = cmps.LessEqual
cmp_in terminal.GreaterSign = cmps.Greater
cmp_in _ = cmps.GreaterEqual

abbrev pub cmp_of : Symbol → CmpTree
cmp_of t = cmp_in t.terminal

abbrev pub compare_of : OperandTree × (CmpTree × OperandTree) → AtomTree
compare_of (left, (cmp, right)) = atoms.Compare left cmp right

abbrev pub between_of : NameTree × (Bool × (ConstTree × ConstTree)) → AtomTree
between_of (name, (negated, (low, high))) = atoms.Between name negated low high

abbrev pub in_of : NameTree × (Bool × List ConstTree) → AtomTree
in_of (name, (negated, list)) = atoms.In name negated list

abbrev pub like_of : NameTree × (Bool × TextTree) → AtomTree
like_of (name, (negated, pattern)) = atoms.Like name negated pattern

abbrev pub is_null_of : NameTree × (Bool × Symbol) → AtomTree
is_null_of (name, (negated, t)) = atoms.IsNull name negated

abbrev pub nested_pred : Symbol × (PredTree × Symbol) → PartTree
nested_pred (opened, (pred, close)) = parts.Nested opened.place pred

abbrev pub neg_of : Bool × PartTree → NegTree
neg_of (negated, part) = roll-NegTree (record { negated = negated; part = part })

abbrev pub conj_of : NegTree × List NegTree → ConjTree
conj_of (first, rest) = roll-ConjTree (record { first = first; rest = rest })

abbrev pub pred_of : ConjTree × List ConjTree → PredTree
pred_of (first, rest) = roll-PredTree (record { first = first; rest = rest })

-- ---- statements

abbrev pub table_of : NameTree × Option NameTree → TableTree
table_of (first, second) = record { first = first; second = second }

abbrev pub row_of : Symbol × (List ExprTree × Symbol) → RowTree
row_of (opened, (exprs, close)) = record { place = opened.place; exprs = exprs }

abbrev pub series_of : List ExprTree × (Symbol × (NumberTree × NumberTree)) → SeriesTree
series_of (exprs, (t, (start, stop))) = record { exprs = exprs; place = t.place; start = start; stop = stop }

abbrev pub set_of : NameTree × ExprTree → SetTree
set_of (name, expr) = record { name = name; expr = expr }

abbrev pub aggregate_in : Terminal → Aggregate
aggregate_in terminal.Count = aggregates.Count
aggregate_in terminal.Sum = aggregates.Sum
aggregate_in terminal.Min = aggregates.Min
aggregate_in terminal.Max = aggregates.Max
aggregate_in _ = aggregates.Avg

abbrev pub aggregate_of : Symbol × NameTree → ItemTree
aggregate_of (t, name) = its.Aggregate t.place (aggregate_in t.terminal) name

abbrev pub count_all_of : Symbol × Symbol → ItemTree
count_all_of (t, star) = its.CountAll t.place

abbrev pub all_of : Symbol → ItemsTree
all_of t = shown.All t.place

abbrev pub is_descending : Option Symbol → Bool
is_descending None = false
is_descending (Some t) = same t.terminal terminal.Desc

abbrev pub oitem_of : NameTree × Option Symbol → OitemTree
oitem_of (name, order) = record { name = name; descending = is_descending order }

abbrev pub is_word_on : Symbol → Bool
is_word_on t = same t.terminal terminal.On

abbrev pub begin_tran_of : Symbol → Statement
begin_tran_of t = statements.Begin

abbrev pub commit_of : Option Symbol → Statement
commit_of t = statements.Commit

abbrev pub rollback_of : Option Symbol → Statement
rollback_of t = statements.Rollback

abbrev pub snapshot_of : Symbol → Statement
snapshot_of t = statements.SetSnapshot

abbrev pub all_indexes : Symbol → Option NameTree
all_indexes t = None

abbrev pub one_index : NameTree → Option NameTree
one_index name = Some name

abbrev pub alter_of : Option NameTree × (TableTree × Option Bool) → Statement
alter_of (index, (table, compress)) = statements.AlterIndex index table compress

abbrev pub insert_of : TableTree × (Option (List NameTree) × SourceTree) → Statement
insert_of (table, (names, source)) = statements.Insert table names source

abbrev pub update_of : TableTree × (List SetTree × Option PredTree) → Statement
update_of (table, (sets, filter)) = statements.Update table sets filter

abbrev pub delete_of : TableTree × Option PredTree → Statement
delete_of (table, filter) = statements.Delete table filter

-- what follows FROM in a query: its table, and what stands after WHERE, GROUP BY and ORDER BY
abbrev pub QueryPart : Type 0
QueryPart = TableTree × (Option PredTree × (Option (List NameTree) × Option (List OitemTree)))

abbrev pub select_of : ItemsTree × QueryPart → Statement
select_of (items, (table, (filter, (groups, order)))) = statements.Select items table filter groups order

-- ---- columns' types

abbrev pub plain_in : Terminal → PlainType
plain_in terminal.Tinyint = plain_types.TinyInt
plain_in terminal.Smallint = plain_types.SmallInt
plain_in terminal.Bigint = plain_types.BigInt
plain_in terminal.Date = plain_types.Date
plain_in _ = plain_types.Int

abbrev pub plain_of : Symbol → TypeTree
plain_of t = types.Plain t.place (plain_in t.terminal)

abbrev pub decimal_of : Symbol × Option (NumberTree × Option NumberTree) → TypeTree
decimal_of (t, digits) = types.Decimal t.place digits

abbrev pub varchar_of : Symbol × Option NumberTree → TypeTree
varchar_of (t, size) = types.VarChar t.place size
