-- The grammar, line by line. The names in capitals are words of the text, and n parentheses may be open in an expression
-- or a predicate, one in another.
use Rattle.std.specs.Prelude.{ℕ, zero, suc, List, [], ◌∷◌, ◌++◌, Bool, Option, None, Some}
use Rattle.tsql_trees.specs.declared.leaf.NameTree.{NameTree}
use Rattle.tsql_trees.specs.declared.leaf.NumberTree.{NumberTree}
use Rattle.tsql_trees.specs.declared.leaf.TextTree.{TextTree}
use Rattle.tsql_trees.specs.declared.leaf.SignTree.{SignTree}
use Rattle.tsql_trees.specs.declared.leaf.TableTree.{TableTree}
use Rattle.tsql_trees.specs.declared.column.TypeTree.{TypeTree}
use Rattle.tsql_trees.specs.declared.expr.ExprTree.{ExprTree}
use Rattle.tsql_trees.specs.declared.expr.TermTree.{TermTree}
use Rattle.tsql_trees.specs.declared.expr.FactorTree.{FactorTree}
use Rattle.tsql_trees.specs.declared.expr.PrimaryTree.{PrimaryTree}
use Rattle.tsql_trees.specs.declared.expr.PrimaryTree.TheVariants as primaries
use Rattle.tsql_trees.specs.declared.expr.TimesTree.{TimesTree}
use Rattle.tsql_trees.specs.declared.pred.PredTree.{PredTree}
use Rattle.tsql_trees.specs.declared.pred.ConjTree.{ConjTree}
use Rattle.tsql_trees.specs.declared.pred.NegTree.{NegTree}
use Rattle.tsql_trees.specs.declared.pred.PartTree.{PartTree}
use Rattle.tsql_trees.specs.declared.pred.PartTree.TheVariants as parts
use Rattle.tsql_trees.specs.declared.pred.AtomTree.{AtomTree}
use Rattle.tsql_trees.specs.declared.pred.OperandTree.{OperandTree}
use Rattle.tsql_trees.specs.declared.pred.OperandTree.TheVariants as operands
use Rattle.tsql_trees.specs.declared.pred.ConstTree.{ConstTree}
use Rattle.tsql_trees.specs.declared.pred.ConstTree.TheVariants as consts
use Rattle.tsql_trees.specs.declared.pred.CmpTree.{CmpTree}
use Rattle.tsql_trees.specs.declared.statement.Statement.{Statement}
use Rattle.tsql_trees.specs.declared.statement.Statement.TheVariants as statements
use Rattle.tsql_trees.specs.declared.statement.SourceTree.{SourceTree}
use Rattle.tsql_trees.specs.declared.statement.SourceTree.TheVariants as sources
use Rattle.tsql_trees.specs.declared.statement.RowTree.{RowTree}
use Rattle.tsql_trees.specs.declared.statement.SetTree.{SetTree}
use Rattle.tsql_trees.specs.declared.statement.ItemsTree.{ItemsTree}
use Rattle.tsql_trees.specs.declared.statement.ItemsTree.TheVariants as shown
use Rattle.tsql_trees.specs.declared.statement.ItemTree.{ItemTree}
use Rattle.tsql_trees.specs.declared.statement.ItemTree.TheVariants as its
use Rattle.tsql_trees.specs.declared.statement.OitemTree.{OitemTree}
use Rattle.tsql_grammar.specs.declared.terminal.Terminal.{Terminal}
use Rattle.tsql_grammar.specs.declared.terminal.Terminal.TheVariants.{All, Alter, And, Asc, Begin, Between, By, Commit, Delete, Desc, From, Group, In, Index, Insert, Into, Is, Like, Not, Null, Off, On, Or, Order, Rollback, Select, Set, Tran, Transaction, Update, Values, Where, With, Plain, Work, Isolation, Level, Snapshot, Statistics, Io, LockTimeout, Reorganize, CompressAllRowGroups, GenerateSeries, Count, Sum, Min, Max, Avg, Tinyint, Smallint, Int, Integer, Bigint, Date, Decimal, Numeric, Varchar, Columnstore, OpenSign, CloseSign, CommaSign, PointSign, SemicolonSign, StarSign, PlusSign, MinusSign, SlashSign, PercentSign, EqualSign, UnequalSign, BangEqualSign, LessSign, LessEqualSign, GreaterSign, GreaterEqualSign, Number, Text}
use Rattle.tsql_grammar.specs.declared.terminal.Symbol.{Symbol}
use Rattle.tsql_grammar.specs.Forms.{Form, token, mapped, seq, either, optional, many, declared, written}
use Rattle.tsql_grammar.specs.Values.{name_of, number_of, sign_of, signed, text_of, factor_of, null_of, nested_of, times_of, term_of, expr_of, is_some, is_odd, null_const, cmp_of, compare_of, between_of, in_of, like_of, is_null_of, nested_pred, neg_of, conj_of, pred_of, table_of, row_of, series_of, set_of, aggregate_of, count_all_of, all_of, oitem_of, is_word_on, begin_tran_of, commit_of, rollback_of, snapshot_of, all_indexes, one_index, alter_of, insert_of, update_of, delete_of, QueryPart, select_of, plain_of, decimal_of, varchar_of}

-- ---- ways to write lines

-- one word or sign
abbrev pub word : Terminal → Form Symbol
word k = token (k ∷ [])

-- a word or a sign, and then a form
abbrev pub behind : {X : Type 0} → Terminal → Form X → Form X
behind k a = mapped (λ x. x.1) (seq (word k) a)

-- a word or a sign, or not, and then a form
abbrev pub maybe_behind : {X : Type 0} → Terminal → Form X → Form X
maybe_behind k a = mapped (λ x. x.1) (seq (optional (word k)) a)

-- "(" a ")"
abbrev pub within : {X : Type 0} → Form X → Form X
within a = behind OpenSign (mapped (λ x. x.0) (seq a (word CloseSign)))

-- a {"," a}
abbrev pub listed : {X : Type 0} → Form X → Form (List X)
listed a = mapped (λ x. x.0 ∷ x.1) (seq a (many (behind CommaSign a)))

-- ---- leaves

-- the names that stand for themselves in some places, but for the aggregates
abbrev pub other_names : List Terminal
other_names = Plain ∷ Work ∷ Isolation ∷ Level ∷ Snapshot ∷ Statistics ∷ Io ∷ LockTimeout ∷ Reorganize ∷ CompressAllRowGroups ∷ GenerateSeries ∷ Tinyint ∷ Smallint ∷ Int ∷ Integer ∷ Bigint ∷ Date ∷ Decimal ∷ Numeric ∷ Varchar ∷ Columnstore ∷ []

abbrev pub column_aggregates : List Terminal
column_aggregates = Sum ∷ Min ∷ Max ∷ Avg ∷ []

abbrev pub all_names : List Terminal
all_names = Count ∷ column_aggregates ++ other_names

unfoldable pub name : List ℕ → Form NameTree
name text = mapped (name_of text) (token all_names)

unfoldable pub sign : Form SignTree
sign = mapped sign_of (token (PlusSign ∷ MinusSign ∷ []))

unfoldable pub unsigned : List ℕ → Form NumberTree
unsigned text = mapped (number_of text) (word Number)

unfoldable pub literal : List ℕ → Form TextTree
literal text = mapped (text_of text) (word Text)

-- table = name ["." name]
unfoldable pub table : List ℕ → Form TableTree
table text = mapped table_of (seq (name text) (optional (behind PointSign (name text))))

-- names = name {"," name}
unfoldable pub names : List ℕ → Form (List NameTree)
names text = listed (name text)

-- whole = ["+" | "-"] number
unfoldable pub whole : List ℕ → Form NumberTree
whole text = mapped signed (seq (optional sign) (unsigned text))

-- ---- predicates

-- const = ["+" | "-"] number | text | NULL
unfoldable pub constant : List ℕ → Form ConstTree
constant text = either (mapped consts.Number (whole text)) (either (mapped consts.Text (literal text)) (mapped null_const (word Null)))

-- operand = name | const
unfoldable pub operand : List ℕ → Form OperandTree
operand text = either (mapped operands.Name (name text)) (mapped operands.Const (constant text))

-- cmp = "=" | "<>" | "!=" | "<" | "<=" | ">" | ">="
unfoldable pub cmp : Form CmpTree
cmp = mapped cmp_of (token (EqualSign ∷ UnequalSign ∷ BangEqualSign ∷ LessSign ∷ LessEqualSign ∷ GreaterSign ∷ GreaterEqualSign ∷ []))

-- [NOT]
unfoldable pub maybe_not : Form Bool
maybe_not = mapped is_some (optional (word Not))

-- atom = operand cmp operand
--      | name [NOT] BETWEEN const AND const
--      | name [NOT] IN "(" const {"," const} ")"
--      | name [NOT] LIKE text
--      | name IS [NOT] NULL
abbrev pub atom_lines : List ℕ → Form AtomTree
atom_lines text =
    either (mapped compare_of (seq (operand text) (seq cmp (operand text))))
    (either (mapped between_of (seq (name text) (seq maybe_not (behind Between (seq (constant text) (behind And (constant text)))))))
    (either (mapped in_of (seq (name text) (seq maybe_not (behind In (within (listed (constant text)))))))
    (either (mapped like_of (seq (name text) (seq maybe_not (behind Like (literal text)))))
    (mapped is_null_of (seq (name text) (behind Is (seq maybe_not (word Null))))))))

-- the same lines, by what tells them apart: a name and what follows it, or a constant and what it is compared with
abbrev pub with_left : CmpTree × OperandTree → OperandTree → AtomTree
with_left x left = compare_of (left, x)

abbrev pub with_name : (OperandTree → AtomTree) → NameTree → AtomTree
with_name f name = f (operands.Name name)

abbrev pub with_low : ConstTree × ConstTree → Bool → NameTree → AtomTree
with_low x negated name = between_of (name, (negated, x))

abbrev pub with_list : List ConstTree → Bool → NameTree → AtomTree
with_list x negated name = in_of (name, (negated, x))

abbrev pub with_pattern : TextTree → Bool → NameTree → AtomTree
with_pattern x negated name = like_of (name, (negated, x))

abbrev pub with_null : Bool × Symbol → NameTree → AtomTree
with_null x name = is_null_of (name, x)

abbrev pub with_not : Bool × (Bool → NameTree → AtomTree) → NameTree → AtomTree
with_not (negated, f) = f negated

abbrev pub applied : {X Y : Type 0} → X × (X → Y) → Y
applied x = x.1 x.0

abbrev pub applied_const : ConstTree × (OperandTree → AtomTree) → AtomTree
applied_const x = x.1 (operands.Const x.0)

unfoldable pub compared : List ℕ → Form (OperandTree → AtomTree)
compared text = mapped with_left (seq cmp (operand text))

unfoldable pub between : List ℕ → Form (Bool → NameTree → AtomTree)
between text = mapped with_low (behind Between (seq (constant text) (behind And (constant text))))

unfoldable pub within_list : List ℕ → Form (Bool → NameTree → AtomTree)
within_list text = mapped with_list (behind In (within (listed (constant text))))

unfoldable pub like : List ℕ → Form (Bool → NameTree → AtomTree)
like text = mapped with_pattern (behind Like (literal text))

unfoldable pub tested : List ℕ → Form (Bool → NameTree → AtomTree)
tested text = either (between text) (either (within_list text) (like text))

unfoldable pub maybe_tested : List ℕ → Form (NameTree → AtomTree)
maybe_tested text = mapped with_not (seq maybe_not (tested text))

unfoldable pub is_null : Form (NameTree → AtomTree)
is_null = mapped with_null (behind Is (seq maybe_not (word Null)))

unfoldable pub after_name : List ℕ → Form (NameTree → AtomTree)
after_name text = either (mapped with_name (compared text)) (either (maybe_tested text) is_null)

unfoldable pub atom_read : List ℕ → Form AtomTree
atom_read text = either (mapped applied (seq (name text) (after_name text))) (mapped applied_const (seq (constant text) (compared text)))

unfoldable pub atom : List ℕ → Form AtomTree
atom text = written (atom_lines text) (atom_read text)

-- {NOT}
unfoldable pub nots : Form Bool
nots = mapped is_odd (many (word Not))

-- neg = {NOT} ("(" pred ")" | atom)
unfoldable pub neg_from : Form PartTree → Form NegTree
neg_from part = mapped neg_of (seq nots part)

-- conj = neg {AND neg}
unfoldable pub conj_from : Form PartTree → Form ConjTree
conj_from part = mapped conj_of (seq (neg_from part) (many (behind And (neg_from part))))

-- pred = conj {OR conj}
unfoldable pub pred_from : Form PartTree → Form PredTree
pred_from part = mapped pred_of (seq (conj_from part) (many (behind Or (conj_from part))))

-- "(" pred ")" | atom. What it begins with is said once for every n.
abbrev pub begins_part : Form PartTree → Form PartTree
begins_part part = declared (OpenSign ∷ PlusSign ∷ MinusSign ∷ Number ∷ Text ∷ Null ∷ all_names) [] part

unfoldable pub part_at : List ℕ → ℕ → Form PartTree
part_at text zero = mapped parts.Atom (atom text)
part_at text (suc n) =
    either (mapped nested_pred (seq (word OpenSign) (seq (pred_from (begins_part (part_at text n))) (word CloseSign))))
    (mapped parts.Atom (atom text))

unfoldable pub pred : List ℕ → ℕ → Form PredTree
pred text n = pred_from (begins_part (part_at text n))

-- ---- expressions

-- number | text | NULL | name
unfoldable pub plain : List ℕ → Form PrimaryTree
plain text =
    either (mapped primaries.Number (unsigned text)) (either (mapped primaries.Text (literal text))
    (either (mapped null_of (word Null)) (mapped primaries.Name (name text))))

unfoldable pub times : Form TimesTree
times = mapped times_of (token (StarSign ∷ SlashSign ∷ PercentSign ∷ []))

-- factor = ["+" | "-"] (number | text | NULL | name | "(" expr ")")
unfoldable pub factor_from : Form PrimaryTree → Form FactorTree
factor_from primary = mapped factor_of (seq (optional sign) primary)

-- term = factor {("*" | "/" | "%") factor}
unfoldable pub term_from : Form PrimaryTree → Form TermTree
term_from primary = mapped term_of (seq (factor_from primary) (many (seq times (factor_from primary))))

-- expr = term {("+" | "-") term}
unfoldable pub expr_from : Form PrimaryTree → Form ExprTree
expr_from primary = mapped expr_of (seq (term_from primary) (many (seq sign (term_from primary))))

-- What it begins with is said once for every n.
abbrev pub begins_primary : Form PrimaryTree → Form PrimaryTree
begins_primary primary = declared (OpenSign ∷ Number ∷ Text ∷ Null ∷ all_names) [] primary

unfoldable pub primary_at : List ℕ → ℕ → Form PrimaryTree
primary_at text zero = plain text
primary_at text (suc n) =
    either (mapped nested_of (seq (word OpenSign) (seq (expr_from (begins_primary (primary_at text n))) (word CloseSign)))) (plain text)

unfoldable pub expr : List ℕ → ℕ → Form ExprTree
expr text n = expr_from (begins_primary (primary_at text n))

-- ---- columns' types

abbrev pub plain_types : List Terminal
plain_types = Tinyint ∷ Smallint ∷ Int ∷ Integer ∷ Bigint ∷ Date ∷ []

abbrev pub decimal_types : List Terminal
decimal_types = Decimal ∷ Numeric ∷ []

-- "(" number ["," number] ")"
unfoldable pub digits_part : List ℕ → Form (NumberTree × Option NumberTree)
digits_part text = within (seq (unsigned text) (optional (behind CommaSign (unsigned text))))

-- "(" number ")"
unfoldable pub size_part : List ℕ → Form NumberTree
size_part text = within (unsigned text)

-- type = TINYINT | SMALLINT | INT | INTEGER | BIGINT | DATE
--      | (DECIMAL | NUMERIC) ["(" number ["," number] ")"]
--      | VARCHAR ["(" number ")"]
unfoldable pub column_type : List ℕ → Form TypeTree
column_type text =
    either (mapped plain_of (token plain_types))
    (either (mapped decimal_of (seq (token decimal_types) (optional (digits_part text))))
    (mapped varchar_of (seq (word Varchar) (optional (size_part text)))))

-- ---- parts of statements

-- row = "(" expr {"," expr} ")"
unfoldable pub row : List ℕ → ℕ → Form RowTree
row text n = mapped row_of (seq (word OpenSign) (seq (listed (expr text n)) (word CloseSign)))

-- item = name
--      | COUNT "(" "*" ")"
--      | (COUNT | SUM | MIN | MAX | AVG) "(" name ")"
abbrev pub item_lines : List ℕ → Form ItemTree
item_lines text =
    either (mapped its.Name (name text))
    (either (mapped count_all_of (seq (word Count) (within (word StarSign))))
    (mapped aggregate_of (seq (token (Count ∷ column_aggregates)) (within (name text)))))

-- the same lines, by what tells them apart
abbrev pub counted_star : Symbol → Symbol → ItemTree
counted_star star t = count_all_of (t, star)

abbrev pub counted_name : NameTree → Symbol → ItemTree
counted_name name t = aggregate_of (t, name)

abbrev pub named_or : List ℕ → Symbol × Option (Symbol → ItemTree) → ItemTree
named_or text (t, None) = its.Name (name_of text t)
named_or text (t, Some f) = f t

unfoldable pub counted : List ℕ → Form (Symbol → ItemTree)
counted text = within (either (mapped counted_star (word StarSign)) (mapped counted_name (name text)))

unfoldable pub aggregated : List ℕ → Form (Symbol → ItemTree)
aggregated text = mapped counted_name (within (name text))

unfoldable pub item_read : List ℕ → Form ItemTree
item_read text =
    either (mapped (named_or text) (seq (word Count) (optional (counted text))))
    (either (mapped (named_or text) (seq (token column_aggregates) (optional (aggregated text))))
    (mapped its.Name (mapped (name_of text) (token other_names))))

unfoldable pub item : List ℕ → Form ItemTree
item text = written (item_lines text) (item_read text)

-- "*"
unfoldable pub all_items : Form ItemsTree
all_items = mapped all_of (word StarSign)

-- item {"," item}
unfoldable pub item_list : List ℕ → Form ItemsTree
item_list text = mapped shown.List (listed (item text))

-- items = "*" | item {"," item}
unfoldable pub items : List ℕ → Form ItemsTree
items text = either all_items (item_list text)

-- oitem = name [ASC | DESC]
unfoldable pub oitem : List ℕ → Form OitemTree
oitem text = mapped oitem_of (seq (name text) (optional (token (Asc ∷ Desc ∷ []))))

-- WHERE pred
unfoldable pub where_part : List ℕ → ℕ → Form PredTree
where_part text n = behind Where (pred text n)

-- ON | OFF
unfoldable pub on_off : Form Bool
on_off = mapped is_word_on (token (On ∷ Off ∷ []))

-- VALUES row {"," row}
unfoldable pub values : List ℕ → ℕ → Form SourceTree
values text n = mapped sources.Values (behind Values (listed (row text n)))

-- SELECT expr {"," expr} FROM GENERATE_SERIES "(" whole "," whole ")"
unfoldable pub series : List ℕ → ℕ → Form SourceTree
series text n =
    mapped sources.Series (mapped series_of (behind Select (seq (listed (expr text n))
    (behind From (seq (word GenerateSeries) (within (seq (whole text) (behind CommaSign (whole text)))))))))

-- name "=" expr
unfoldable pub set_part : List ℕ → ℕ → Form SetTree
set_part text n = mapped set_of (seq (name text) (behind EqualSign (expr text n)))

-- ALL | name
unfoldable pub index : List ℕ → Form (Option NameTree)
index text = either (mapped all_indexes (word All)) (mapped one_index (name text))

-- GROUP BY names
unfoldable pub group_part : List ℕ → Form (List NameTree)
group_part text = behind Group (behind By (names text))

-- ORDER BY oitem {"," oitem}
unfoldable pub order_part : List ℕ → Form (List OitemTree)
order_part text = behind Order (behind By (listed (oitem text)))

-- ---- statements

-- BEGIN (TRAN | TRANSACTION)
unfoldable pub begin_statement : Form Statement
begin_statement = behind Begin (mapped begin_tran_of (token (Tran ∷ Transaction ∷ [])))

-- COMMIT [TRAN | TRANSACTION | WORK]
unfoldable pub commit_statement : Form Statement
commit_statement = behind Commit (mapped commit_of (optional (token (Tran ∷ Transaction ∷ Work ∷ []))))

-- ROLLBACK [TRAN | TRANSACTION | WORK]
unfoldable pub rollback_statement : Form Statement
rollback_statement = behind Rollback (mapped rollback_of (optional (token (Tran ∷ Transaction ∷ Work ∷ []))))

-- TRANSACTION ISOLATION LEVEL SNAPSHOT
unfoldable pub set_snapshot : Form Statement
set_snapshot = behind Transaction (behind Isolation (behind Level (mapped snapshot_of (word Snapshot))))

-- STATISTICS IO (ON | OFF)
unfoldable pub set_statistics : Form Statement
set_statistics = behind Statistics (behind Io (mapped statements.SetStatistics on_off))

-- LOCK_TIMEOUT number
unfoldable pub set_lock_timeout : List ℕ → Form Statement
set_lock_timeout text = behind LockTimeout (mapped statements.SetLockTimeout (unsigned text))

-- SET TRANSACTION ISOLATION LEVEL SNAPSHOT
-- | SET STATISTICS IO (ON | OFF)
-- | SET LOCK_TIMEOUT number
abbrev pub set_lines : List ℕ → Form Statement
set_lines text = either (behind Set set_snapshot) (either (behind Set set_statistics) (behind Set (set_lock_timeout text)))

-- the same lines, by what tells them apart
unfoldable pub set_read : List ℕ → Form Statement
set_read text = behind Set (either set_snapshot (either set_statistics (set_lock_timeout text)))

unfoldable pub set_statement : List ℕ → Form Statement
set_statement text = written (set_lines text) (set_read text)

-- ALTER INDEX (ALL | name) ON table REORGANIZE [WITH "(" COMPRESS_ALL_ROW_GROUPS "=" (ON | OFF) ")"]
unfoldable pub compress_part : Form Bool
compress_part = behind With (within (behind CompressAllRowGroups (behind EqualSign on_off)))

-- INDEX (ALL | name) ON table REORGANIZE ..
unfoldable pub alter_index : List ℕ → Form Statement
alter_index text = mapped alter_of (behind Index (seq (index text) (behind On (seq (table text) (behind Reorganize (optional compress_part))))))

-- what is altered, one line for each of its branches
unfoldable pub altered : List ℕ → Form Statement
altered text = alter_index text

-- ALTER and what is altered
unfoldable pub alter_statement : List ℕ → Form Statement
alter_statement text = behind Alter (altered text)

-- INSERT [INTO] table ["(" names ")"] (VALUES .. | SELECT ..)
unfoldable pub insert_statement : List ℕ → ℕ → Form Statement
insert_statement text n =
    mapped insert_of (behind Insert (maybe_behind Into (seq (table text) (seq (optional (within (names text))) (either (values text n) (series text n))))))

-- UPDATE table SET name "=" expr {"," name "=" expr} [WHERE pred]
unfoldable pub update_statement : List ℕ → ℕ → Form Statement
update_statement text n = mapped update_of (behind Update (seq (table text) (behind Set (seq (listed (set_part text n)) (optional (where_part text n))))))

-- DELETE [FROM] table [WHERE pred]
unfoldable pub delete_statement : List ℕ → ℕ → Form Statement
delete_statement text n = mapped delete_of (behind Delete (maybe_behind From (seq (table text) (optional (where_part text n)))))

-- table [WHERE pred] [GROUP BY names] [ORDER BY oitem {"," oitem}]
unfoldable pub query_part : List ℕ → ℕ → Form QueryPart
query_part text n =
    seq (table text) (seq (optional (where_part text n)) (seq (optional (group_part text)) (optional (order_part text))))

-- SELECT items FROM table [WHERE pred] [GROUP BY names] [ORDER BY oitem {"," oitem}]
abbrev pub select_lines : List ℕ → ℕ → Form Statement
select_lines text n = mapped select_of (behind Select (seq (items text) (behind From (query_part text n))))

-- the same line, by what is shown, a "*" or a list of items, and then by what follows FROM
abbrev pub with_items : QueryPart → ItemsTree → Statement
with_items x items = select_of (items, x)

unfoldable pub queried : List ℕ → ℕ → Form (ItemsTree → Statement)
queried text n = mapped with_items (query_part text n)

unfoldable pub select_read : List ℕ → ℕ → Form Statement
select_read text n =
    behind Select (either (mapped applied (seq all_items (behind From (queried text n))))
    (mapped applied (seq (item_list text) (behind From (queried text n)))))

unfoldable pub select_statement : List ℕ → ℕ → Form Statement
select_statement text n = written (select_lines text n) (select_read text n)

-- statement, one line for each of its branches
unfoldable pub statement : List ℕ → ℕ → Form Statement
statement text n =
    either begin_statement
    (either commit_statement
    (either rollback_statement
    (either (set_statement text)
    (either (alter_statement text)
    (either (insert_statement text n)
    (either (update_statement text n)
    (either (delete_statement text n)
    (select_statement text n))))))))

-- line = statement [";"]
unfoldable pub line : List ℕ → ℕ → Form Statement
line text n = mapped (λ x. x.0) (seq (statement text n) (optional (word SemicolonSign)))
