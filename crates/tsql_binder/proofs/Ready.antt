-- What a statement is bound to can be run: an UPDATE without faults sets no key.
use Rattle.std.proofs.Common.{◌≡◌, ◌≢◌, ℕ, List, [], ◌∷◌, ◌++◌, map, refl, subst, arith, cond, codes, Bool, true, false, All}
use Rattle.std.specs.Prelude.{Option, None, Some, unwrap_or, Ok}
use Rattle.std.specs.List.{flat_map}
use Rattle.std.specs.Option.{option_and_then}
use Rattle.std.proofs.lemmas.List.Elements.{All-nil, All-cons}
use Rattle.std.proofs.lemmas.Bool.Decides.{nat_tests}
use Rattle.cs_types.specs.declared.Schema.{Schema}
use Rattle.cs_model.specs.declared.expr.Expr.{Expr}
use Rattle.cs_base.specs.Names.{same_name}
use Rattle.cs_model.specs.declared.entry.Bound.{Bound}
use Rattle.cs_model.specs.declared.entry.Bound.TheVariants.{GroupReport, SegmentReport}
use Rattle.cs_model.specs.Ready.{IsReady}
use Rattle.tsql_trees.specs.declared.leaf.NameTree.{NameTree}
use Rattle.tsql_trees.specs.declared.statement.SetTree.{SetTree}
use Rattle.tsql_trees.specs.declared.statement.Statement.{Statement}
use Rattle.tsql_trees.specs.declared.statement.Statement.TheVariants as statements
use Rattle.bind_names.specs.Names.{column_named}
use Rattle.bind_faults.specs.declared.fault.Fault.{Fault}
use Rattle.bind_faults.specs.Least.{fault_if, least}
use Rattle.bind_faults.specs.Families.{kind_at, unknown, unknown_column}
use Rattle.bind_faults.specs.Updates.{is_number, is_key, value_faults, set_faults}
use Rattle.bind_faults.specs.Faults.{faults, wrong_table, before_all, first_fault}
use Rattle.bind_faults.proofs.Leasts.{least_none}
use Rattle.bind_forms.specs.Plans.{set_of}
use Rattle.tsql_binder.specs.Reports.{groups_name, segments_name, report_named, report_behind, report_in, is_whole}
use Rattle.tsql_binder.specs.Meaning.{plan_of, unless, reported, bound_but_for, bound_of}

-- ---- no faults at all

no_left : {X : Type 0} (xs ys : List X) → xs ++ ys ≡ [] → xs ≡ []
no_left [] ys e = refl
no_left (x ∷ xs) ys e = absurd (cc)

no_right : {X : Type 0} (xs ys : List X) → xs ++ ys ≡ [] → ys ≡ []
no_right [] ys e = e
no_right (x ∷ xs) ys e = absurd (cc)

-- a fault that is not there has a false test
not_found : (found : Bool) (number at : ℕ) → fault_if found number at ≡ [] → found ≡ false
not_found false number at e = refl
not_found true number at e = absurd (cc)

-- a statement that has no first fault has none
no_faults : (schema : Schema) (statement : Statement) → first_fault schema statement ≡ None → faults schema statement ≡ []
no_faults schema statement e = least_none (faults schema statement) (behind (wrong_table schema statement) (least (faults schema statement)) e)
  where
    behind : (wrong : Option ℕ) (found : Option Fault) → before_all wrong found ≡ None → found ≡ None
    behind None found h = h
    behind (Some at) found h = absurd (cc)

-- ---- SET

module _ (schema : Schema) where
  -- a column that is there and is not the key
  other_column : (column : Option ℕ) (at : ℕ) → unknown (option_and_then (kind_at schema) column) at ≡ [] → is_number schema.key column ≡ false → unwrap_or column 0 ≢ schema.key
  other_column None at known other = absurd (cc)
  other_column (Some column) at known other = λ same. grind (arith, nat_tests, other, same)

  -- a SET without faults is of another column than the key
  no_key : (set : SetTree) → set_faults schema set ≡ [] → (set_of schema set).0 ≢ schema.key
  no_key set none =
      let front = no_left (unknown_column schema set.name ++ fault_if (is_key schema set.name.bytes) 50001 set.name.place) (value_faults schema set) none in
      other_column (column_named schema set.name.bytes) set.name.place
      (no_left (unknown_column schema set.name) (fault_if (is_key schema set.name.bytes) 50001 set.name.place) front)
      (not_found (is_key schema set.name.bytes) 50001 set.name.place (no_right (unknown_column schema set.name) (fault_if (is_key schema set.name.bytes) 50001 set.name.place) front))

  no_keys : (sets : List SetTree) → flat_map (set_faults schema) sets ≡ [] → All (λ (set : ℕ × Expr). set.0 ≢ schema.key) (map (set_of schema) sets)
  no_keys [] none = All-nil (λ (set : ℕ × Expr). set.0 ≢ schema.key)
  no_keys (set ∷ sets) none =
      All-cons (λ (set : ℕ × Expr). set.0 ≢ schema.key) (set_of schema set) (map (set_of schema) sets)
      (no_key set (no_left (set_faults schema set) (flat_map (set_faults schema) sets) none))
      (no_keys sets (no_right (set_faults schema set) (flat_map (set_faults schema) sets) none))

  -- ---- statements

  planned_ready : (statement : Statement) → faults schema statement ≡ [] → IsReady schema (plan_of schema statement)
  planned_ready statements.Begin none = tt
  planned_ready statements.Commit none = tt
  planned_ready statements.Rollback none = tt
  planned_ready statements.SetSnapshot none = tt
  planned_ready (statements.SetStatistics on) none = tt
  planned_ready (statements.SetLockTimeout number) none = tt
  planned_ready (statements.AlterIndex index table compress) none = tt
  planned_ready (statements.Insert table names source) none = tt
  planned_ready (statements.Update table sets filter) none = no_keys sets (no_left _ _ (no_left _ _ none))
  planned_ready (statements.Delete table filter) none = tt
  planned_ready (statements.Select items table filter groups order) none = tt

  -- what is after `sys.` is a report
  named_ready : (name : List ℕ) (bound : Bound) → report_named name ≡ Some bound → IsReady schema bound
  named_ready name bound e = at (same_name name groups_name) (same_name name segments_name) e
    where
      at : (g s : Bool) → cond g (Some GroupReport) (cond s (Some SegmentReport) None) ≡ Some bound → IsReady schema bound
      at true s h = let same : GroupReport ≡ bound = cc h in subst (IsReady schema) same tt
      at false true h = let same : SegmentReport ≡ bound = cc h in subst (IsReady schema) same tt
      at false false h = absurd (cc h)

  behind_ready : (first : NameTree) (second : Option NameTree) (bound : Bound) → report_behind first second ≡ Some bound → IsReady schema bound
  behind_ready first None bound e = absurd (cc e)
  behind_ready first (Some n) bound e = at (same_name first.bytes (codes "sys")) e
    where
      at : (sys : Bool) → cond sys (report_named n.bytes) None ≡ Some bound → IsReady schema bound
      at true h = named_ready n.bytes bound h
      at false h = absurd (cc h)

  report_ready : (statement : Statement) (bound : Bound) → report_in statement ≡ Some bound → IsReady schema bound
  report_ready statements.Begin bound e = absurd (cc e)
  report_ready statements.Commit bound e = absurd (cc e)
  report_ready statements.Rollback bound e = absurd (cc e)
  report_ready statements.SetSnapshot bound e = absurd (cc e)
  report_ready (statements.SetStatistics on) bound e = absurd (cc e)
  report_ready (statements.SetLockTimeout number) bound e = absurd (cc e)
  report_ready (statements.AlterIndex index table compress) bound e = absurd (cc e)
  report_ready (statements.Insert table names source) bound e = absurd (cc e)
  report_ready (statements.Update table sets filter) bound e = absurd (cc e)
  report_ready (statements.Delete table filter) bound e = absurd (cc e)
  report_ready (statements.Select items table filter groups order) bound e = behind_ready table.first table.second bound e

  -- what a statement is bound to
  pub bound_ready : (statement : Statement) (bound : Bound) → bound_of schema statement ≡ Ok bound → IsReady schema bound
  bound_ready statement bound e = at (report_in statement) refl e
    where
      without : (found : Option Fault) → first_fault schema statement ≡ found → unless found (plan_of schema statement) ≡ Ok bound → IsReady schema bound
      without None is h = let same : plan_of schema statement ≡ bound = cc in subst (IsReady schema) same (planned_ready statement (no_faults schema statement is))
      without (Some f) is h = absurd (cc)

      with : (whole : Bool) (report : Bound) → report_in statement ≡ Some report → reported whole report ≡ Ok bound → IsReady schema bound
      with true report is h = let same : report ≡ bound = cc h in subst (IsReady schema) same (report_ready statement report is)
      with false report is h = absurd (cc h)

      at : (report : Option Bound) → report_in statement ≡ report → bound_but_for schema statement report ≡ Ok bound → IsReady schema bound
      at None is h = without (first_fault schema statement) refl h
      at (Some report) is h = with (is_whole statement) report is h
