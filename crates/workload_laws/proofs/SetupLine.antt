-- The setup line: its text is that of the table.
use Rattle.std.proofs.Common.{◌≡◌, ℕ, ◌++◌, List, [], ◌∷◌, length, codes, refl, sym, subst, false, None, Some, Ok}
use Rattle.tsql_tokens.specs.declared.token.Token.{Token}
use Rattle.tsql_tokens.specs.declared.token.TokenKind.{TokenKind}
use Rattle.tsql_tokens.specs.declared.token.TokenKind.TheVariants as kind
use Rattle.tsql_tokens.specs.Bytes.{is_blank, is_digit, begins_word, goes_on_word}
use Rattle.tsql_tokens.specs.Behind.{behind, piece_at}
use Rattle.tsql_tokens.specs.Cutting.{cut}
use Rattle.tsql_tokens.specs.Lexemes.{begins_number, begins_line_comment, begins_comment, begun, is_single, is_pair}
use Rattle.tsql_tokens.specs.Limits.{is_long_number, over_limit, open_after}
use Rattle.tsql_tokens.specs.Reserved.{is_word, is_reserved}
use Rattle.tsql_tokens.specs.Tokens.{kind_of, HasTokens}
use Rattle.tsql_tokens.proofs.Steps.{gives_found}
use Rattle.tsql_grammar.specs.declared.terminal.Terminal.{Terminal}
use Rattle.tsql_grammar.specs.declared.terminal.Terminal.TheVariants as terminal
use Rattle.tsql_grammar.specs.declared.terminal.Symbol.{Symbol}
use Rattle.tsql_grammar.specs.Forms.{Symbols}
use Rattle.tsql_grammar.specs.Grammar.{name, unsigned, table, size_part, digits_part, column_type}
use Rattle.tsql_grammar.specs.Places.{to_end}
use Rattle.tsql_grammar.specs.Words.{reserved_terminal, name_terminal, sign_terminal, terminal_of, symbols_of}
use Rattle.tsql_trees.specs.declared.leaf.NameTree.{NameTree}
use Rattle.tsql_trees.specs.declared.column.PlainType.TheVariants as plain
use Rattle.tsql_trees.specs.declared.column.TypeTree.{TypeTree}
use Rattle.tsql_trees.specs.declared.column.TypeTree.TheVariants as types
use Rattle.tsql_create.specs.declared.tree.CreateTree.{CreateTree}
use Rattle.tsql_create.specs.declared.tree.TablePartTree.TheVariants as parts
use Rattle.tsql_create.specs.declared.tree.MarkTree.TheVariants as marks
use Rattle.tsql_create.specs.Creates.{IsCreate}
use Rattle.tsql_create.specs.Setup.{primary_key, mark, column_part, constraint_part, key_column, key_part, index_part, table_part, create}
use Rattle.tsql_create.specs.Tables.{Means, IsTable}
use Rattle.tsql_create.proofs.CreateClauses.{ok_found}
use Rattle.script_reader.specs.declared.form.Form.TheVariants.{Setup}
use Rattle.script_reader.specs.Lines.{line_reason, form_of}
use Rattle.script_workload.specs.Workload.{setup_line}
use Rattle.workload_laws.specs.Scripts as spec
use Rattle.workload_laws.proofs.Printed.{IsPrinted}

-- ---- the line

pub setup_text : List ℕ
setup_text = codes "CREATE TABLE t (k int NOT NULL PRIMARY KEY, v int NULL, w varchar(8) NULL)"

pub setup_bytes : List ℕ
setup_bytes = codes "setup CREATE TABLE t (k int NOT NULL PRIMARY KEY, v int NULL, w varchar(8) NULL)"

pub setup_form : form_of setup_bytes ≡ Setup setup_text
unfolding form_of setup_bytes setup_text
setup_form = refl

pub setup_fine : line_reason setup_bytes ≡ None
unfolding setup_bytes
setup_fine = refl

pub setup_printed : IsPrinted setup_bytes
unfolding setup_bytes
setup_printed = refl

pub setup_ends : setup_line ≡ setup_bytes ++ 10 ∷ []
unfolding setup_bytes
setup_ends = refl

pub setup_length : length setup_line ≡ 81
setup_length = refl

-- ---- its tokens

abbrev token : TokenKind → ℕ → ℕ → Token
token kind from to = record { kind = kind; from = from; to = to }

tokens : List Token
tokens =
    token kind.Reserved 0 6 ∷ token kind.Reserved 7 12 ∷ token kind.Name 13 14 ∷ token kind.Sign 15 16
    ∷ token kind.Name 16 17 ∷ token kind.Name 18 21 ∷ token kind.Reserved 22 25 ∷ token kind.Reserved 26 30 ∷ token kind.Reserved 31 38 ∷ token kind.Reserved 39 42 ∷ token kind.Sign 42 43
    ∷ token kind.Name 44 45 ∷ token kind.Name 46 49 ∷ token kind.Reserved 50 54 ∷ token kind.Sign 54 55
    ∷ token kind.Name 56 57 ∷ token kind.Name 58 65 ∷ token kind.Sign 65 66 ∷ token kind.Number 66 67 ∷ token kind.Sign 67 68 ∷ token kind.Reserved 69 73
    ∷ token kind.Sign 73 74 ∷ []

has_tokens : HasTokens setup_text tokens
unfolding setup_text tokens cut piece_at behind begun is_blank is_digit begins_word goes_on_word begins_number begins_line_comment begins_comment is_single is_pair is_long_number over_limit open_after kind_of is_reserved is_word
has_tokens = gives_found (Ok tokens) setup_text refl

-- ---- its words

abbrev symbol : Terminal → ℕ → ℕ → Symbol
symbol terminal place size = record { terminal = terminal; place = place; size = size }

symbols : Symbols
symbols =
    symbol terminal.Create 1 6 ∷ symbol terminal.Table 8 5 ∷ symbol terminal.Plain 14 1 ∷ symbol terminal.OpenSign 16 1
    ∷ symbol terminal.Plain 17 1 ∷ symbol terminal.Int 19 3 ∷ symbol terminal.Not 23 3 ∷ symbol terminal.Null 27 4 ∷ symbol terminal.Primary 32 7 ∷ symbol terminal.Key 40 3 ∷ symbol terminal.CommaSign 43 1
    ∷ symbol terminal.Plain 45 1 ∷ symbol terminal.Int 47 3 ∷ symbol terminal.Null 51 4 ∷ symbol terminal.CommaSign 55 1
    ∷ symbol terminal.Plain 57 1 ∷ symbol terminal.Varchar 59 7 ∷ symbol terminal.OpenSign 66 1 ∷ symbol terminal.Number 67 1 ∷ symbol terminal.CloseSign 68 1 ∷ symbol terminal.Null 70 4
    ∷ symbol terminal.CloseSign 74 1 ∷ []

symbols_are : symbols_of setup_text tokens ≡ symbols
unfolding setup_text tokens symbols is_word reserved_terminal name_terminal sign_terminal terminal_of
symbols_are = refl

-- ---- its tree

abbrev named : ℕ → List ℕ → NameTree
named place bytes = record { place = place; bytes = bytes }

abbrev of_eight : TypeTree
of_eight = types.VarChar 59 (Some (record { place = 67; minus = false; digits = 8; s = 0; point = false }))

tree : CreateTree
tree = record {
  table = record { first = named 14 (codes "t"); second = None };
  parts =
      parts.Column (named 17 (codes "k")) (types.Plain 19 plain.Int) (marks.NotNull 23 ∷ marks.Key 32 ∷ [])
      ∷ parts.Column (named 45 (codes "v")) (types.Plain 47 plain.Int) (marks.Null 51 ∷ [])
      ∷ parts.Column (named 57 (codes "w")) of_eight (marks.Null 70 ∷ []) ∷ [];
}

reads_tree : to_end ((create setup_text).reads symbols) ≡ Ok tree
unfolding setup_text symbols tree name unsigned table digits_part size_part column_type primary_key mark column_part constraint_part key_column key_part index_part table_part create
reads_tree = refl

is_create : IsCreate setup_text tree
is_create = ok_found setup_text tokens has_tokens (Ok tree) (subst (λ (z : Symbols). to_end ((create setup_text).reads z) ≡ Ok tree) (sym symbols_are) reads_tree)

-- ---- what it means

means : Means (length setup_text) tree spec.workload_table
unfolding setup_text tree
means = (refl, (0, refl, refl))

pub setup_table : IsTable setup_text spec.workload_table
setup_table = (tree, is_create, means)
