-- A REORGANIZE's first token is the word ALTER.
use Rattle.std.proofs.Common.{◌≡◌, ℕ, ◌++◌, List, [], ◌∷◌, refl, sym, ap, ◌∙◌, Bool, true, false, true≢false, inl, inr}
use Rattle.tsql_trees.specs.declared.statement.Statement.{Statement}
use Rattle.tsql_trees.specs.declared.statement.Statement.TheVariants as statements
use Rattle.tsql_grammar.specs.declared.terminal.Terminal.{Terminal}
use Rattle.tsql_grammar.specs.declared.terminal.Terminal.TheVariants as terminal
use Rattle.tsql_grammar.specs.Forms.{Symbols, Form, next_among, token, mapped, optional}
use Rattle.tsql_grammar.specs.Grammar.{word, behind, unsigned, on_off, begin_statement, commit_statement, rollback_statement, set_snapshot, set_statistics, set_lock_timeout, set_statement, altered, alter_statement, insert_statement, update_statement, delete_statement, select_statement, statement, line}
use Rattle.tsql_grammar.specs.Values.{begin_tran_of, commit_of, rollback_of, snapshot_of, insert_of, update_of, delete_of, select_of}
use Rattle.tsql_grammar.proofs.Laws.{next_append}
use Rattle.tsql_reader.specs.Statements.{grammar}
use Rattle.workload_laws.proofs.FirstWord.{alter}

abbrev pub is_reorganize : Statement → Bool
is_reorganize statements.Begin = false
is_reorganize statements.Commit = false
is_reorganize statements.Rollback = false
is_reorganize statements.SetSnapshot = false
is_reorganize (statements.SetStatistics on) = false
is_reorganize (statements.SetLockTimeout number) = false
is_reorganize (statements.AlterIndex index table compress) = true
is_reorganize (statements.Insert table names source) = false
is_reorganize (statements.Update table sets filter) = false
is_reorganize (statements.Delete table filter) = false
is_reorganize (statements.Select items table filter groups order) = false

-- no text of the form is a REORGANIZE
abbrev HasNone : Form Statement → Type 0
HasNone a = (symbols : Symbols) (tree : Statement) → a.Has symbols tree → is_reorganize tree ≡ false

-- each text of the form that is a REORGANIZE begins with ALTER
abbrev BeginsIt : Form Statement → Type 0
BeginsIt a = (symbols : Symbols) (tree : Statement) → a.Has symbols tree → is_reorganize tree ≡ true → next_among alter symbols ≡ true

-- a form whose values are made of others
none_made : {X : Type 0} (make : X → Statement) (has : Symbols → X → Type 0) → ((x : X) → is_reorganize (make x) ≡ false) → (symbols : Symbols) (tree : Statement) → (x : X) × has symbols x × (tree ≡ make x) → is_reorganize tree ≡ false
none_made make has none symbols tree (x, is, e) = ap is_reorganize e ∙ none x

none_behind : (first : Terminal) (a : Form Statement) → HasNone a → HasNone (behind first a)
none_behind first a none symbols tree (x, (front, rest, cut, begins, has), is) = ap is_reorganize is ∙ none rest x.1 has

begins_none : (a : Form Statement) → HasNone a → BeginsIt a
begins_none a none symbols tree has is = absurd (true≢false (sym is ∙ none symbols tree has))

begins_behind : (a : Form Statement) → BeginsIt (behind terminal.Alter a)
begins_behind a symbols tree (x, (front, rest, cut, first, has), e) is = ap (next_among alter) (cut ∙ ap (λ z. z ++ rest) first.0) ∙ first.1

-- ---- the statements

none_begin : HasNone begin_statement
unfolding begin_statement
none_begin = none_behind terminal.Begin (mapped begin_tran_of (token (terminal.Tran ∷ terminal.Transaction ∷ []))) (none_made begin_tran_of _ (λ x. refl))

none_commit : HasNone commit_statement
unfolding commit_statement
none_commit = none_behind terminal.Commit (mapped commit_of (optional (token (terminal.Tran ∷ terminal.Transaction ∷ terminal.Work ∷ [])))) (none_made commit_of _ (λ x. refl))

none_rollback : HasNone rollback_statement
unfolding rollback_statement
none_rollback = none_behind terminal.Rollback (mapped rollback_of (optional (token (terminal.Tran ∷ terminal.Transaction ∷ terminal.Work ∷ [])))) (none_made rollback_of _ (λ x. refl))

none_snapshot : HasNone set_snapshot
unfolding set_snapshot
none_snapshot =
    let level : Form Statement = mapped snapshot_of (word terminal.Snapshot) in
    none_behind terminal.Transaction (behind terminal.Isolation (behind terminal.Level level))
    (none_behind terminal.Isolation (behind terminal.Level level) (none_behind terminal.Level level (none_made snapshot_of _ (λ x. refl))))

none_statistics : HasNone set_statistics
unfolding set_statistics
none_statistics =
    let switched : Form Statement = mapped statements.SetStatistics on_off in
    none_behind terminal.Statistics (behind terminal.Io switched) (none_behind terminal.Io switched (none_made statements.SetStatistics _ (λ x. refl)))

module _ (text : List ℕ) where
  none_timeout : HasNone (set_lock_timeout text)
  unfolding set_lock_timeout
  none_timeout = none_behind terminal.LockTimeout (mapped statements.SetLockTimeout (unsigned text)) (none_made statements.SetLockTimeout _ (λ x. refl))

  none_set : HasNone (set_statement text)
  unfolding set_statement
  none_set symbols tree (inl has) = none_behind terminal.Set set_snapshot none_snapshot symbols tree has
  none_set symbols tree (inr (inl has)) = none_behind terminal.Set set_statistics none_statistics symbols tree has
  none_set symbols tree (inr (inr has)) = none_behind terminal.Set (set_lock_timeout text) none_timeout symbols tree has

  alter_begins : BeginsIt (alter_statement text)
  unfolding alter_statement
  alter_begins = begins_behind (altered text)

  none_insert : (n : ℕ) → HasNone (insert_statement text n)
  unfolding insert_statement
  none_insert n = none_made insert_of _ (λ x. refl)

  none_update : (n : ℕ) → HasNone (update_statement text n)
  unfolding update_statement
  none_update n = none_made update_of _ (λ x. refl)

  none_delete : (n : ℕ) → HasNone (delete_statement text n)
  unfolding delete_statement
  none_delete n = none_made delete_of _ (λ x. refl)

  none_select : (n : ℕ) → HasNone (select_statement text n)
  unfolding select_statement
  none_select n = none_made select_of _ (λ x. refl)

  statement_begins : (n : ℕ) → BeginsIt (statement text n)
  unfolding statement
  statement_begins n symbols tree (inl has) = begins_none begin_statement none_begin symbols tree has
  statement_begins n symbols tree (inr (inl has)) = begins_none commit_statement none_commit symbols tree has
  statement_begins n symbols tree (inr (inr (inl has))) = begins_none rollback_statement none_rollback symbols tree has
  statement_begins n symbols tree (inr (inr (inr (inl has)))) = begins_none (set_statement text) none_set symbols tree has
  statement_begins n symbols tree (inr (inr (inr (inr (inl has))))) = alter_begins symbols tree has
  statement_begins n symbols tree (inr (inr (inr (inr (inr (inl has)))))) = begins_none (insert_statement text n) (none_insert n) symbols tree has
  statement_begins n symbols tree (inr (inr (inr (inr (inr (inr (inl has))))))) = begins_none (update_statement text n) (none_update n) symbols tree has
  statement_begins n symbols tree (inr (inr (inr (inr (inr (inr (inr (inl has)))))))) = begins_none (delete_statement text n) (none_delete n) symbols tree has
  statement_begins n symbols tree (inr (inr (inr (inr (inr (inr (inr (inr has)))))))) = begins_none (select_statement text n) (none_select n) symbols tree has

  line_begins : (n : ℕ) → BeginsIt (line text n)
  unfolding line
  line_begins n symbols tree (x, (front, rest, cut, has, end), e) is =
      ap (next_among alter) cut ∙ next_append alter front rest (statement_begins n front x.0 has (sym (ap is_reorganize e) ∙ is))

  pub reorganize_begins : BeginsIt (grammar text)
  unfolding grammar
  reorganize_begins = line_begins 64
