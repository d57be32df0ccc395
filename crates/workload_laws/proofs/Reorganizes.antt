-- No text of a workload means a REORGANIZE.
use Rattle.std.proofs.Common.{◌≡◌, ℕ, ◌+◌, ◌%◌, List, codes, refl, sym, ap, ◌∙◌, Bool, true, false, true≢false, cond, Option, None, Some, inl, inr, All, slice_index_or}
use Rattle.std.specs.List.{range_with_len}
use Rattle.std.proofs.lemmas.List.Elements.{All-map}
use Rattle.cs_base.specs.Names.{same_name}
use Rattle.cs_types.specs.declared.Schema.{Schema}
use Rattle.cs_model.specs.declared.entry.Bound.{Bound}
use Rattle.cs_model.specs.declared.entry.Bound.TheVariants.{GroupReport, SegmentReport, Reorganize}
use Rattle.tsql_trees.specs.declared.leaf.NameTree.{NameTree}
use Rattle.tsql_trees.specs.declared.statement.Statement.{Statement}
use Rattle.tsql_trees.specs.declared.statement.Statement.TheVariants as statements
use Rattle.tsql_tokens.specs.Bytes.{is_blank, begins_word}
use Rattle.tsql_grammar.specs.Forms.{next_among}
use Rattle.tsql_grammar.specs.Words.{symbols_of}
use Rattle.tsql_reader.specs.Statements.{IsStatement}
use Rattle.bind_faults.specs.declared.fault.Fault.{Fault}
use Rattle.bind_faults.specs.Faults.{first_fault}
use Rattle.tsql_binder.specs.Meaning.{plan_of, unless, reported, bound_but_for, bound_of}
use Rattle.tsql_binder.specs.Reports.{groups_name, segments_name, report_named, report_behind, is_whole}
use Rattle.script_reader.specs.declared.script.Step.{Step}
use Rattle.script_reader.specs.Scripts.{text_of}
use Rattle.script_turns.specs.Texts.{bound_or, Means}
use Rattle.script_workload.specs.declared.statement.Statement.{Statement as Drawn}
use Rattle.script_workload.specs.declared.statement.Statement.TheVariants.{Begin, Commit, Rollback, Insert, Update, Delete, Select, Mover}
use Rattle.script_workload.specs.Workload.{statement_after, number_at}
use Rattle.workload_laws.specs.Scripts.{workload_table, step_of, step_at, steps}
use Rattle.workload_laws.proofs.FirstWord.{alter, BeginsOtherwise, first_other}
use Rattle.workload_laws.proofs.AlterTrees.{is_reorganize, reorganize_begins}

-- ---- what is bound to a REORGANIZE

abbrev reorganizes : Bound → Bool
reorganizes (Reorganize all) = true
reorganizes other = false

abbrev is_found : Option Bound → Bool
is_found None = false
is_found (Some bound) = reorganizes bound

planned : (plan : Bound) (found : Option Fault) → reorganizes plan ≡ false → reorganizes (bound_or (unless found plan)) ≡ false
planned plan None e = e
planned plan (Some fault) e = refl

answered : (whole : Bool) (report : Bound) → reorganizes report ≡ false → reorganizes (bound_or (reported whole report)) ≡ false
answered true report e = e
answered false report e = refl

bound_other : (schema : Schema) (tree : Statement) (report : Option Bound) → is_found report ≡ false → reorganizes (plan_of schema tree) ≡ false → reorganizes (bound_or (bound_but_for schema tree report)) ≡ false
bound_other schema tree None none plan = planned (plan_of schema tree) (first_fault schema tree) plan
bound_other schema tree (Some report) none plan = answered (is_whole tree) report none

report_other : (groups segments : Bool) → is_found (cond groups (Some GroupReport) (cond segments (Some SegmentReport) None)) ≡ false
report_other true segments = refl
report_other false true = refl
report_other false false = refl

reports_other : (first : NameTree) (second : Option NameTree) → is_found (report_behind first second) ≡ false
reports_other first None = refl
reports_other first (Some second) = at (same_name first.bytes (codes "sys"))
  where
    at : (sys : Bool) → is_found (cond sys (report_named second.bytes) None) ≡ false
    at true = report_other (same_name second.bytes groups_name) (same_name second.bytes segments_name)
    at false = refl

only_reorganize : (schema : Schema) (tree : Statement) → is_reorganize tree ≡ false → reorganizes (bound_or (bound_of schema tree)) ≡ false
only_reorganize schema statements.Begin e = bound_other schema statements.Begin None refl refl
only_reorganize schema statements.Commit e = bound_other schema statements.Commit None refl refl
only_reorganize schema statements.Rollback e = bound_other schema statements.Rollback None refl refl
only_reorganize schema statements.SetSnapshot e = bound_other schema statements.SetSnapshot None refl refl
only_reorganize schema (statements.SetStatistics on) e = bound_other schema (statements.SetStatistics on) None refl refl
only_reorganize schema (statements.SetLockTimeout number) e = bound_other schema (statements.SetLockTimeout number) None refl refl
only_reorganize schema (statements.AlterIndex index table compress) e = absurd (true≢false e)
only_reorganize schema (statements.Insert table names source) e = bound_other schema (statements.Insert table names source) None refl refl
only_reorganize schema (statements.Update table sets filter) e = bound_other schema (statements.Update table sets filter) None refl refl
only_reorganize schema (statements.Delete table filter) e = bound_other schema (statements.Delete table filter) None refl refl
only_reorganize schema (statements.Select items table filter groups order) e =
    bound_other schema (statements.Select items table filter groups order) (report_behind table.first table.second) (reports_other table.first table.second) refl

-- ---- what a text means

statement_other : (text : List ℕ) (tree : Statement) → BeginsOtherwise text → IsStatement text tree → is_reorganize tree ≡ false
statement_other text tree other (tokens, (pieces, front, within, are), has, limit) = at (is_reorganize tree) refl
  where
    first : next_among alter (symbols_of text tokens) ≡ false
    first = ap (λ z. next_among alter (symbols_of text z)) are ∙ first_other text pieces other front

    at : (t : Bool) → is_reorganize tree ≡ t → t ≡ false
    at true is = absurd (true≢false (sym (reorganize_begins text (symbols_of text tokens) tree has is) ∙ first))
    at false is = refl

means_other : (schema : Schema) (text : List ℕ) → BeginsOtherwise text → (all : Bool) → Means schema text (Reorganize all) → ⊥
means_other schema text other all (inl (tree, is, e)) = true≢false (ap reorganizes e ∙ only_reorganize schema tree (statement_other text tree other is))
means_other schema text other all (inr (number, at, is, e)) = true≢false (ap reorganizes e)

-- ---- the texts of a workload

step_other : (session : ℕ) (statement : Drawn) → BeginsOtherwise (text_of (step_of session statement))
unfolding is_blank begins_word
step_other session Begin = (refl, refl, refl)
step_other session Commit = (refl, refl, refl)
step_other session Rollback = (refl, refl, refl)
step_other session (Insert key value word) = (refl, refl, refl)
step_other session (Update key) = (refl, refl, refl)
step_other session (Delete key) = (refl, refl, refl)
step_other session (Select key) = (refl, refl, refl)
step_other session Mover = tt

abbrev HasNoReorganize : Step → Type 0
HasNoReorganize step = (all : Bool) → Means workload_table (text_of step) (Reorganize all) → ⊥

line_other : (number sessions i : ℕ) → HasNoReorganize (step_at number sessions i)
line_other number sessions i = means_other workload_table (text_of (step_at number sessions i)) (step_other (1 + i % sessions) (statement_after (number_at number i)))

pub no_reorganize : (number sessions statements : ℕ) → All HasNoReorganize (steps number sessions statements)
no_reorganize number sessions statements =
    All-map HasNoReorganize (step_at number sessions) (range_with_len 0 statements) (λ k d low. line_other number sessions (slice_index_or (range_with_len 0 statements) k d))
