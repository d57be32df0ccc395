-- A statement is bound to a report exactly where it is `SELECT * FROM` it.
use Rattle.std.proofs.Common.{◌≡◌, ℕ, List, refl, sym, ap, ◌∙◌, cond, codes, Bool, true, false}
use Rattle.std.specs.Prelude.{◌↔◌, Option, None, Some, Ok}
use Rattle.std.specs.Str.{str_to_ascii_lowercase}
use Rattle.std.proofs.lemmas.Slice.Eq.{bytes_eq-Decides}
use Rattle.cs_base.specs.Names.{same_name}
use Rattle.cs_types.specs.declared.Schema.{Schema}
use Rattle.cs_model.specs.declared.entry.Bound.{Bound}
use Rattle.cs_model.specs.declared.entry.Bound.TheVariants.{GroupReport, SegmentReport}
use Rattle.tsql_trees.specs.declared.leaf.NameTree.{NameTree}
use Rattle.tsql_trees.specs.declared.leaf.TableTree.{TableTree}
use Rattle.tsql_trees.specs.declared.pred.PredTree.{PredTree}
use Rattle.tsql_trees.specs.declared.statement.ItemsTree.{ItemsTree}
use Rattle.tsql_trees.specs.declared.statement.ItemsTree.TheVariants as shown
use Rattle.tsql_trees.specs.declared.statement.OitemTree.{OitemTree}
use Rattle.tsql_trees.specs.declared.statement.Statement.{Statement}
use Rattle.tsql_trees.specs.declared.statement.Statement.TheVariants as statements
use Rattle.bind_faults.specs.declared.fault.Fault.{Fault}
use Rattle.bind_faults.specs.Faults.{first_fault}
use Rattle.tsql_binder.specs.Reports.{groups_name, segments_name, report_named, report_behind, is_whole, AsksFor}
use Rattle.tsql_binder.specs.Meaning.{plan_of, unless, reported, bound_but_for, bound_of}

-- `SELECT * FROM` a table, and no more
abbrev all_of : ℕ → TableTree → Statement
all_of place table = statements.Select (shown.All place) table None None None

whole_is : (items : ItemsTree) (table : TableTree) (filter : Option PredTree) (groups : Option (List NameTree)) (order : Option (List OitemTree)) → is_whole (statements.Select items table filter groups order) ≡ true
    → (place : ℕ) × (statements.Select items table filter groups order ≡ all_of place table)
whole_is (shown.All place) table None None None e = (place, refl)
whole_is (shown.All place) table (Some filter) groups order e = absurd (cc e)
whole_is (shown.All place) table None (Some groups) order e = absurd (cc e)
whole_is (shown.All place) table None None (Some order) e = absurd (cc e)
whole_is (shown.List list) table filter groups order e = absurd (cc e)

-- a report, by its bound form and its name after `sys`
module _ (schema : Schema) (report : Bound) (name : List ℕ) (other : (statement : Statement) → plan_of schema statement ≡ report → ⊥)
    (named : (n : List ℕ) → report_named n ≡ Some report → same_name n name ≡ true) (names : (n : List ℕ) → same_name n name ≡ true → report_named n ≡ Some report) where
  not_planned : (statement : Statement) (found : Option Fault) → unless found (plan_of schema statement) ≡ Ok report → ⊥
  not_planned statement None e = other statement (cc e)
  not_planned statement (Some f) e = absurd (cc e)

  -- a name that means the report
  abbrev Behind : NameTree → Option NameTree → Type 0
  Behind first second = (n : NameTree) × (second ≡ Some n) × (same_name first.bytes (codes "sys") ≡ true) × (same_name n.bytes name ≡ true)

  behind : (first : NameTree) (second : Option NameTree) → report_behind first second ≡ Some report → Behind first second
  behind first None e = absurd (cc e)
  behind first (Some n) e = at (same_name first.bytes (codes "sys")) refl e
    where
      at : (sys : Bool) → same_name first.bytes (codes "sys") ≡ sys → cond sys (report_named n.bytes) None ≡ Some report → Behind first (Some n)
      at true is h = (n, refl, is, named n.bytes h)
      at false is h = absurd (cc h)

  asks : (items : ItemsTree) (table : TableTree) (filter : Option PredTree) (groups : Option (List NameTree)) (order : Option (List OitemTree)) (r : Option Bound) → report_behind table.first table.second ≡ r
      → bound_but_for schema (statements.Select items table filter groups order) r ≡ Ok report → AsksFor name (statements.Select items table filter groups order)
  asks items table filter groups order None is e = absurd (not_planned (statements.Select items table filter groups order) (first_fault schema (statements.Select items table filter groups order)) e)
  asks items table filter groups order (Some b) is e = at (is_whole (statements.Select items table filter groups order)) refl e
    where
      at : (whole : Bool) → is_whole (statements.Select items table filter groups order) ≡ whole → reported whole b ≡ Ok report → AsksFor name (statements.Select items table filter groups order)
      at true w h =
          let same : b ≡ report = cc h in
          let (place, select) = whole_is items table filter groups order w in
          let (n, is_second, sys, is_named) = behind table.first table.second (is ∙ ap (λ x. Some x) same) in
          record {
            place = place;
            first = table.first;
            second = n;
            is_select = select ∙ ap (λ x. all_of place (record { first = table.first; second = x })) is_second;
            is_sys = sys;
            is_name = is_named;
          }
      at false w h = absurd (cc h)

  only : (statement : Statement) → bound_of schema statement ≡ Ok report → AsksFor name statement
  only statements.Begin e = absurd (not_planned statements.Begin (first_fault schema statements.Begin) e)
  only statements.Commit e = absurd (not_planned statements.Commit (first_fault schema statements.Commit) e)
  only statements.Rollback e = absurd (not_planned statements.Rollback (first_fault schema statements.Rollback) e)
  only statements.SetSnapshot e = absurd (not_planned statements.SetSnapshot (first_fault schema statements.SetSnapshot) e)
  only (statements.SetStatistics on) e = absurd (not_planned (statements.SetStatistics on) (first_fault schema (statements.SetStatistics on)) e)
  only (statements.SetLockTimeout number) e = absurd (not_planned (statements.SetLockTimeout number) (first_fault schema (statements.SetLockTimeout number)) e)
  only (statements.AlterIndex index table compress) e = absurd (not_planned (statements.AlterIndex index table compress) (first_fault schema (statements.AlterIndex index table compress)) e)
  only (statements.Insert table names source) e = absurd (not_planned (statements.Insert table names source) (first_fault schema (statements.Insert table names source)) e)
  only (statements.Update table sets filter) e = absurd (not_planned (statements.Update table sets filter) (first_fault schema (statements.Update table sets filter)) e)
  only (statements.Delete table filter) e = absurd (not_planned (statements.Delete table filter) (first_fault schema (statements.Delete table filter)) e)
  only (statements.Select items table filter groups order) e = asks items table filter groups order (report_behind table.first table.second) refl e

  answered : (statement : Statement) → AsksFor name statement → bound_of schema statement ≡ Ok report
  answered statement a =
      let select = all_of a.place (record { first = a.first; second = Some a.second }) in
      ap (bound_of schema) a.is_select
      ∙ ap (bound_but_for schema select) (ap (λ t. cond t (report_named a.second.bytes) None) a.is_sys ∙ names a.second.bytes a.is_name)

  pub exactly : (statement : Statement) → (bound_of schema statement ≡ Ok report) ↔ AsksFor name statement
  exactly statement = (only statement, answered statement)

-- ---- the two reports

not_groups : (schema : Schema) (statement : Statement) → plan_of schema statement ≡ GroupReport → ⊥
not_groups schema statements.Begin e = absurd (cc e)
not_groups schema statements.Commit e = absurd (cc e)
not_groups schema statements.Rollback e = absurd (cc e)
not_groups schema statements.SetSnapshot e = absurd (cc e)
not_groups schema (statements.SetStatistics on) e = absurd (cc e)
not_groups schema (statements.SetLockTimeout number) e = absurd (cc e)
not_groups schema (statements.AlterIndex index table compress) e = absurd (cc e)
not_groups schema (statements.Insert table names source) e = absurd (cc e)
not_groups schema (statements.Update table sets filter) e = absurd (cc e)
not_groups schema (statements.Delete table filter) e = absurd (cc e)
not_groups schema (statements.Select items table filter groups order) e = absurd (cc e)

not_segments : (schema : Schema) (statement : Statement) → plan_of schema statement ≡ SegmentReport → ⊥
not_segments schema statements.Begin e = absurd (cc e)
not_segments schema statements.Commit e = absurd (cc e)
not_segments schema statements.Rollback e = absurd (cc e)
not_segments schema statements.SetSnapshot e = absurd (cc e)
not_segments schema (statements.SetStatistics on) e = absurd (cc e)
not_segments schema (statements.SetLockTimeout number) e = absurd (cc e)
not_segments schema (statements.AlterIndex index table compress) e = absurd (cc e)
not_segments schema (statements.Insert table names source) e = absurd (cc e)
not_segments schema (statements.Update table sets filter) e = absurd (cc e)
not_segments schema (statements.Delete table filter) e = absurd (cc e)
not_segments schema (statements.Select items table filter groups order) e = absurd (cc e)

not_both : false ≡ true → ⊥
not_both e = absurd (cc e)

-- no name is that of both
apart : (n : List ℕ) → same_name n groups_name ≡ true → same_name n segments_name ≡ true → ⊥
apart n g s =
    let on_groups = (bytes_eq-Decides (str_to_ascii_lowercase n) (str_to_ascii_lowercase groups_name)).0 g in
    let on_segments = (bytes_eq-Decides (str_to_ascii_lowercase n) (str_to_ascii_lowercase segments_name)).0 s in
    let yes : same_name groups_name segments_name ≡ true = (bytes_eq-Decides (str_to_ascii_lowercase groups_name) (str_to_ascii_lowercase segments_name)).1 (sym on_groups ∙ on_segments) in
    let no : same_name groups_name segments_name ≡ false = refl in
    not_both (sym no ∙ yes)

module _ (n : List ℕ) where
  abbrev chosen : Bool → Bool → Option Bound
  chosen g s = cond g (Some GroupReport) (cond s (Some SegmentReport) None)

  groups_named : report_named n ≡ Some GroupReport → same_name n groups_name ≡ true
  groups_named e = at (same_name n groups_name) (same_name n segments_name) refl e
    where
      at : (g s : Bool) → same_name n groups_name ≡ g → chosen g s ≡ Some GroupReport → same_name n groups_name ≡ true
      at true s is h = is
      at false true is h = absurd (cc h)
      at false false is h = absurd (cc h)

  names_groups : same_name n groups_name ≡ true → report_named n ≡ Some GroupReport
  names_groups e = ap (λ g. chosen g (same_name n segments_name)) e

  segments_named : report_named n ≡ Some SegmentReport → same_name n segments_name ≡ true
  segments_named e = at (same_name n groups_name) (same_name n segments_name) refl e
    where
      at : (g s : Bool) → same_name n segments_name ≡ s → chosen g s ≡ Some SegmentReport → same_name n segments_name ≡ true
      at true s is h = absurd (cc h)
      at false true is h = is
      at false false is h = absurd (cc h)

  names_segments : same_name n segments_name ≡ true → report_named n ≡ Some SegmentReport
  names_segments e = at (same_name n groups_name) refl
    where
      at : (g : Bool) → same_name n groups_name ≡ g → chosen g (same_name n segments_name) ≡ Some SegmentReport
      at true is = absurd (apart n is e)
      at false is = ap (λ s. chosen false s) e

pub groups_exactly : (schema : Schema) (statement : Statement) → (bound_of schema statement ≡ Ok GroupReport) ↔ AsksFor groups_name statement
groups_exactly schema statement = exactly schema GroupReport groups_name (not_groups schema) groups_named names_groups statement

pub segments_exactly : (schema : Schema) (statement : Statement) → (bound_of schema statement ≡ Ok SegmentReport) ↔ AsksFor segments_name statement
segments_exactly schema statement = exactly schema SegmentReport segments_name (not_segments schema) segments_named names_segments statement
