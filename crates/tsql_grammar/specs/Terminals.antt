-- The terminals of the grammar.
use Rattle.std.specs.Prelude.{ℕ, Bool, true, false, nat_eq, List, [], ◌∷◌, ◌||◌, if◌then◌else◌}
use Rattle.tsql_grammar.specs.declared.terminal.Terminal.{Terminal}
use Rattle.tsql_grammar.specs.declared.terminal.Terminal.TheVariants as terminal

abbrev pub code : Terminal → ℕ
code terminal.All = 0
code terminal.Alter = 1
code terminal.And = 2
code terminal.Asc = 3
code terminal.Begin = 4
code terminal.Between = 5
code terminal.By = 6
code terminal.Clustered = 7
code terminal.Commit = 8
code terminal.Constraint = 9
code terminal.Create = 10
code terminal.Delete = 11
code terminal.Desc = 12
code terminal.From = 13
code terminal.Group = 14
code terminal.In = 15
code terminal.Index = 16
code terminal.Insert = 17
code terminal.Into = 18
code terminal.Is = 19
code terminal.Key = 20
code terminal.Like = 21
code terminal.Nonclustered = 22
code terminal.Not = 23
code terminal.Null = 24
code terminal.Off = 25
code terminal.On = 26
code terminal.Or = 27
code terminal.Order = 28
code terminal.Primary = 29
code terminal.Rollback = 30
code terminal.Select = 31
code terminal.Set = 32
code terminal.Table = 33
code terminal.Tran = 34
code terminal.Transaction = 35
code terminal.Update = 36
code terminal.Values = 37
code terminal.Where = 38
code terminal.With = 39
code terminal.Plain = 40
code terminal.Work = 41
code terminal.Isolation = 42
code terminal.Level = 43
code terminal.Snapshot = 44
code terminal.Statistics = 45
code terminal.Io = 46
code terminal.LockTimeout = 47
code terminal.Reorganize = 48
code terminal.CompressAllRowGroups = 49
code terminal.GenerateSeries = 50
code terminal.Count = 51
code terminal.Sum = 52
code terminal.Min = 53
code terminal.Max = 54
code terminal.Avg = 55
code terminal.Tinyint = 56
code terminal.Smallint = 57
code terminal.Int = 58
code terminal.Integer = 59
code terminal.Bigint = 60
code terminal.Date = 61
code terminal.Decimal = 62
code terminal.Numeric = 63
code terminal.Varchar = 64
code terminal.Columnstore = 65
code terminal.OpenSign = 66
code terminal.CloseSign = 67
code terminal.CommaSign = 68
code terminal.PointSign = 69
code terminal.SemicolonSign = 70
code terminal.StarSign = 71
code terminal.PlusSign = 72
code terminal.MinusSign = 73
code terminal.SlashSign = 74
code terminal.PercentSign = 75
code terminal.EqualSign = 76
code terminal.UnequalSign = 77
code terminal.BangEqualSign = 78
code terminal.LessSign = 79
code terminal.LessEqualSign = 80
code terminal.GreaterSign = 81
code terminal.GreaterEqualSign = 82
code terminal.Number = 83
code terminal.Text = 84
code terminal.Outside = 85

abbrev pub same : Terminal → Terminal → Bool
same a b = nat_eq (code a) (code b)

-- whether a terminal is one of a list
abbrev pub among : Terminal → List Terminal → Bool
among k [] = false
among k (l ∷ ls) = same k l || among k ls

-- whether no terminal is in both
abbrev pub disjoint : List Terminal → List Terminal → Bool
disjoint [] ls = true
disjoint (k ∷ ks) ls = if among k ls then false else disjoint ks ls

-- whether each terminal of one list is in another
abbrev pub subset : List Terminal → List Terminal → Bool
subset [] ls = true
subset (k ∷ ks) ls = if among k ls then subset ks ls else false
