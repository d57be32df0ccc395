-- Which terminal a token is.
use Rattle.std.specs.Prelude.{ℕ, ◌+◌, ◌-◌, List, [], ◌∷◌, codes, length, take, drop, map, if◌then◌else◌, Option, None, Some, unwrap_or, Bool, ◌==◌}
use Rattle.tsql_tokens.specs.declared.token.TokenKind.{TokenKind}
use Rattle.tsql_tokens.specs.declared.token.TokenKind.TheVariants as kind
use Rattle.tsql_tokens.specs.declared.token.Token.{Token}
use Rattle.tsql_tokens.specs.Reserved.{is_word}
use Rattle.tsql_grammar.specs.declared.terminal.Terminal.{Terminal}
use Rattle.tsql_grammar.specs.declared.terminal.Terminal.TheVariants as terminal
use Rattle.tsql_grammar.specs.declared.terminal.Symbol.{Symbol}

-- what a table has for a word
abbrev pub looked_up : List (List ℕ × Terminal) → List ℕ → Option Terminal
looked_up [] bytes = None
looked_up ((word, terminal) ∷ words) bytes = if is_word bytes word then Some terminal else looked_up words bytes

abbrev pub or_else : Option Terminal → Option Terminal → Option Terminal
or_else (Some terminal) other = Some terminal
or_else None other = other

abbrev pub reserved_1 : List (List ℕ × Terminal)
reserved_1 =
    (codes "ALL", terminal.All)
    ∷ (codes "ALTER", terminal.Alter)
    ∷ (codes "AND", terminal.And)
    ∷ (codes "ASC", terminal.Asc)
    ∷ (codes "BEGIN", terminal.Begin)
    ∷ (codes "BETWEEN", terminal.Between)
    ∷ (codes "BY", terminal.By)
    ∷ (codes "CLUSTERED", terminal.Clustered) ∷ []

abbrev pub reserved_2 : List (List ℕ × Terminal)
reserved_2 =
    (codes "COMMIT", terminal.Commit)
    ∷ (codes "CONSTRAINT", terminal.Constraint)
    ∷ (codes "CREATE", terminal.Create)
    ∷ (codes "DELETE", terminal.Delete)
    ∷ (codes "DESC", terminal.Desc)
    ∷ (codes "FROM", terminal.From)
    ∷ (codes "GROUP", terminal.Group)
    ∷ (codes "IN", terminal.In) ∷ []

abbrev pub reserved_3 : List (List ℕ × Terminal)
reserved_3 =
    (codes "INDEX", terminal.Index)
    ∷ (codes "INSERT", terminal.Insert)
    ∷ (codes "INTO", terminal.Into)
    ∷ (codes "IS", terminal.Is)
    ∷ (codes "KEY", terminal.Key)
    ∷ (codes "LIKE", terminal.Like)
    ∷ (codes "NONCLUSTERED", terminal.Nonclustered)
    ∷ (codes "NOT", terminal.Not) ∷ []

abbrev pub reserved_4 : List (List ℕ × Terminal)
reserved_4 =
    (codes "NULL", terminal.Null)
    ∷ (codes "OFF", terminal.Off)
    ∷ (codes "ON", terminal.On)
    ∷ (codes "OR", terminal.Or)
    ∷ (codes "ORDER", terminal.Order)
    ∷ (codes "PRIMARY", terminal.Primary)
    ∷ (codes "ROLLBACK", terminal.Rollback)
    ∷ (codes "SELECT", terminal.Select) ∷ []

abbrev pub reserved_5 : List (List ℕ × Terminal)
reserved_5 =
    (codes "SET", terminal.Set)
    ∷ (codes "TABLE", terminal.Table)
    ∷ (codes "TRAN", terminal.Tran)
    ∷ (codes "TRANSACTION", terminal.Transaction)
    ∷ (codes "UPDATE", terminal.Update)
    ∷ (codes "VALUES", terminal.Values)
    ∷ (codes "WHERE", terminal.Where)
    ∷ (codes "WITH", terminal.With) ∷ []

abbrev pub placed_1 : List (List ℕ × Terminal)
placed_1 =
    (codes "WORK", terminal.Work)
    ∷ (codes "ISOLATION", terminal.Isolation)
    ∷ (codes "LEVEL", terminal.Level)
    ∷ (codes "SNAPSHOT", terminal.Snapshot)
    ∷ (codes "STATISTICS", terminal.Statistics)
    ∷ (codes "IO", terminal.Io)
    ∷ (codes "LOCK_TIMEOUT", terminal.LockTimeout)
    ∷ (codes "REORGANIZE", terminal.Reorganize)
    ∷ (codes "COMPRESS_ALL_ROW_GROUPS", terminal.CompressAllRowGroups) ∷ []

abbrev pub placed_2 : List (List ℕ × Terminal)
placed_2 =
    (codes "GENERATE_SERIES", terminal.GenerateSeries)
    ∷ (codes "COUNT", terminal.Count)
    ∷ (codes "SUM", terminal.Sum)
    ∷ (codes "MIN", terminal.Min)
    ∷ (codes "MAX", terminal.Max)
    ∷ (codes "AVG", terminal.Avg)
    ∷ (codes "TINYINT", terminal.Tinyint)
    ∷ (codes "SMALLINT", terminal.Smallint)
    ∷ (codes "INT", terminal.Int) ∷ []

abbrev pub placed_3 : List (List ℕ × Terminal)
placed_3 =
    (codes "INTEGER", terminal.Integer)
    ∷ (codes "BIGINT", terminal.Bigint)
    ∷ (codes "DATE", terminal.Date)
    ∷ (codes "DECIMAL", terminal.Decimal)
    ∷ (codes "NUMERIC", terminal.Numeric)
    ∷ (codes "VARCHAR", terminal.Varchar)
    ∷ (codes "COLUMNSTORE", terminal.Columnstore) ∷ []

abbrev pub signs_1 : List (List ℕ × Terminal)
signs_1 =
    (codes "(", terminal.OpenSign)
    ∷ (codes ")", terminal.CloseSign)
    ∷ (codes ",", terminal.CommaSign)
    ∷ (codes ".", terminal.PointSign)
    ∷ (codes ";", terminal.SemicolonSign)
    ∷ (codes "*", terminal.StarSign)
    ∷ (codes "+", terminal.PlusSign)
    ∷ (codes "-", terminal.MinusSign)
    ∷ (codes "/", terminal.SlashSign) ∷ []

abbrev pub signs_2 : List (List ℕ × Terminal)
signs_2 =
    (codes "%", terminal.PercentSign)
    ∷ (codes "=", terminal.EqualSign)
    ∷ (codes "<>", terminal.UnequalSign)
    ∷ (codes "!=", terminal.BangEqualSign)
    ∷ (codes "<", terminal.LessSign)
    ∷ (codes "<=", terminal.LessEqualSign)
    ∷ (codes ">", terminal.GreaterSign)
    ∷ (codes ">=", terminal.GreaterEqualSign) ∷ []

-- a reserved word that the grammar has no form for is an outside word
unfoldable pub reserved_terminal : List ℕ → Terminal
reserved_terminal bytes = unwrap_or (or_else (looked_up reserved_1 bytes) (or_else (looked_up reserved_2 bytes) (or_else (looked_up reserved_3 bytes) (or_else (looked_up reserved_4 bytes) (looked_up reserved_5 bytes))))) terminal.Outside

-- a name that stands for itself in some places, in brackets or not
unfoldable pub name_terminal : List ℕ → Terminal
name_terminal bytes = unwrap_or (or_else (looked_up placed_1 bytes) (or_else (looked_up placed_2 bytes) (looked_up placed_3 bytes))) terminal.Plain

unfoldable pub sign_terminal : List ℕ → Terminal
sign_terminal bytes = unwrap_or (or_else (looked_up signs_1 bytes) (looked_up signs_2 bytes)) terminal.Outside

-- bytes of a text, from a place that is counted from 1
abbrev pub bytes_at : List ℕ → ℕ → ℕ → List ℕ
bytes_at text place size = take size (drop (place - 1) text)

-- a name without its brackets
abbrev pub unbracketed : List ℕ → List ℕ
unbracketed [] = []
unbracketed (b ∷ bytes) = if b == 91 then take (length bytes - 1) bytes else b ∷ bytes

unfoldable pub terminal_of : TokenKind → List ℕ → Terminal
terminal_of kind.Reserved bytes = reserved_terminal bytes
terminal_of kind.Name bytes = name_terminal (unbracketed bytes)
terminal_of kind.Number bytes = terminal.Number
terminal_of kind.Text bytes = terminal.Text
terminal_of kind.Sign bytes = sign_terminal bytes

abbrev pub symbol_of : List ℕ → Token → Symbol
symbol_of text t = record { terminal = terminal_of t.kind (bytes_at text (t.from + 1) (t.to - t.from)); place = t.from + 1; size = t.to - t.from }

-- the tokens of a text as the grammar sees them
abbrev pub symbols_of : List ℕ → List Token → List Symbol
symbols_of text tokens = map (symbol_of text) tokens
