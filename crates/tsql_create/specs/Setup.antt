-- The grammar of the setup statement, line by line.
use Rattle.std.specs.Prelude.{ℕ, List, [], ◌∷◌, Option}
use Rattle.tsql_trees.specs.declared.leaf.NameTree.{NameTree}
use Rattle.tsql_trees.specs.declared.leaf.TableTree.{TableTree}
use Rattle.tsql_grammar.specs.declared.terminal.Terminal.{Terminal}
use Rattle.tsql_grammar.specs.declared.terminal.Terminal.TheVariants as terminal
use Rattle.tsql_grammar.specs.declared.terminal.Symbol.{Symbol}
use Rattle.tsql_grammar.specs.Forms.{Form, token, mapped, seq, either, optional, many}
use Rattle.tsql_grammar.specs.Grammar.{word, behind, within, listed, name, table, column_type}
use Rattle.tsql_create.specs.declared.tree.CreateTree.{CreateTree}
use Rattle.tsql_create.specs.declared.tree.TablePartTree.{TablePartTree}
use Rattle.tsql_create.specs.declared.tree.TablePartTree.TheVariants as parts
use Rattle.tsql_create.specs.declared.tree.MarkTree.{MarkTree}
use Rattle.tsql_create.specs.declared.tree.MarkTree.TheVariants as marks
use Rattle.tsql_trees.specs.declared.column.TypeTree.{TypeTree}

-- ---- what the parts give

abbrev pub null_of : Symbol → MarkTree
null_of t = marks.Null t.place

abbrev pub not_null_of : Symbol × Symbol → MarkTree
not_null_of (t, u) = marks.NotNull t.place

abbrev pub key_of : Symbol → MarkTree
key_of t = marks.Key t.place

abbrev pub first_one : {X Y : Type 0} → X × Y → X
first_one x = x.0

abbrev pub column_of : NameTree × (TypeTree × List MarkTree) → TablePartTree
column_of (name, (kind, list)) = parts.Column name kind list

abbrev pub key_part_of : Symbol × NameTree → TablePartTree
key_part_of (t, name) = parts.Key t.place name

abbrev pub index_of : NameTree → TablePartTree
index_of name = parts.Index name

abbrev pub create_of : TableTree × List TablePartTree → CreateTree
create_of (table, list) = record { table = table; parts = list }

-- ---- the lines

-- PRIMARY KEY [NONCLUSTERED]
unfoldable pub primary_key : Form Symbol
primary_key = mapped first_one (seq (word terminal.Primary) (behind terminal.Key (optional (word terminal.Nonclustered))))

-- NULL | NOT NULL | PRIMARY KEY [NONCLUSTERED]
unfoldable pub mark : Form MarkTree
mark =
    either (mapped null_of (word terminal.Null))
    (either (mapped not_null_of (seq (word terminal.Not) (word terminal.Null)))
    (mapped key_of primary_key))

-- name type {NULL | NOT NULL | PRIMARY KEY [NONCLUSTERED]}
unfoldable pub column_part : List ℕ → Form TablePartTree
column_part text = mapped column_of (seq (name text) (seq (column_type text) (many mark)))

-- CONSTRAINT name
unfoldable pub constraint_part : List ℕ → Form NameTree
constraint_part text = behind terminal.Constraint (name text)

-- "(" name [ASC] ")"
unfoldable pub key_column : List ℕ → Form NameTree
key_column text = within (mapped first_one (seq (name text) (optional (word terminal.Asc))))

-- [CONSTRAINT name] PRIMARY KEY [NONCLUSTERED] "(" name [ASC] ")"
unfoldable pub key_part : List ℕ → Form TablePartTree
key_part text = mapped (λ x. x.1) (seq (optional (constraint_part text)) (mapped key_part_of (seq primary_key (key_column text))))

-- INDEX name CLUSTERED COLUMNSTORE
unfoldable pub index_part : List ℕ → Form TablePartTree
index_part text = behind terminal.Index (mapped index_of (mapped first_one (seq (name text) (behind terminal.Clustered (word terminal.Columnstore)))))

-- part, one line for each of its branches
unfoldable pub table_part : List ℕ → Form TablePartTree
table_part text = either (column_part text) (either (key_part text) (index_part text))

-- create = CREATE TABLE table "(" part {"," part} ")" [";"]
unfoldable pub create : List ℕ → Form CreateTree
create text =
    mapped first_one (seq (mapped create_of (behind terminal.Create (behind terminal.Table (seq (table text) (within (listed (table_part text)))))))
    (optional (word terminal.SemicolonSign)))
