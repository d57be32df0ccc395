-- What a statement writes has each key once, where it is accepted.
use Rattle.std.proofs.Common.{◌≡◌, ℕ, ◌+◌, ◌≤◌, List, [], ◌∷◌, ◌++◌, map, filter, refl, sym, ap, ◌∙◌, subst, cond, Bool, true, false, ◌&&◌, ◌||◌, arith, nat_lt, T, None, Some, Result, Ok, Err, All, get_or}
use Rattle.std.specs.Prelude.{count_by}
use Rattle.std.specs.FinMap.Entries.{below_all, is_sorted}
use Rattle.std.specs.List.Sorted.{IsStrictlySortedBy}
use Rattle.std.specs.Ordering.{is_lt}
use Rattle.std.proofs.lemmas.Bool.Decides.{nat_tests}
use Rattle.std.proofs.lemmas.List.Sums.{fold-append}
use Rattle.cs_types.specs.declared.Key.{Key}
use Rattle.cs_types.specs.declared.Schema.{Schema}
use Rattle.cs_types.specs.declared.Value.{Value}
use Rattle.cs_types.specs.Keys.{key_cmp, same_key}
use Rattle.cs_model.specs.declared.entry.Bound.{Bound}
use Rattle.cs_model.specs.declared.entry.Bound.TheVariants as bound
use Rattle.cs_model.specs.declared.entry.Refusal.{Refusal}
use Rattle.cs_model.specs.declared.expr.Expr.{Expr}
use Rattle.cs_model.specs.Answers.{row_onto, rows_from, chosen, updated_row, updated_entry, at_key, deleted, writes}
use Rattle.cs_model.specs.Changes.{Edit, Table, edited, laid}
use Rattle.cs_model.specs.Kinds.{is_insert}
use Rattle.cs_model.specs.Obstacles.{has_row, keys_of, stands_twice, is_present}
use Rattle.cs_model.specs.Queries.{keeps}
use Rattle.edit_laws.proofs.Tables.{laid_ascends}
use Rattle.statement_core.proofs.Keyed.{Apart, first, second, apart_sorted, apart_once, sorted_from}

-- ---- tables are by key

sorted_laid : (edits more : List Edit) → T (is_sorted key_cmp (laid (laid [] edits) more))
sorted_laid edits more = sorted_from (laid (laid [] edits) more) (subst (λ (t : Table). IsStrictlySortedBy key_cmp (map (λ (e : Key × List Value). e.0) t)) (fold-append edited [] edits more) (laid_ascends (edits ++ more)))

both : (a b : Bool) → T a → T b → T (a && b)
both true b p q = q
both false b p q = p

-- those that a test keeps
module _ (test : Key × List Value → Bool) where
  below_kept : (key : Key) (es : Table) → T (below_all key_cmp key es) → T (below_all key_cmp key (filter test es))
  below_kept key [] h = tt
  below_kept key (e ∷ es) h = by (test e) (first (is_lt (key_cmp key e.0)) (below_all key_cmp key es) h) (below_kept key es (second (is_lt (key_cmp key e.0)) (below_all key_cmp key es) h))
    where
      by : (t : Bool) → T (is_lt (key_cmp key e.0)) → T (below_all key_cmp key (filter test es)) → T (below_all key_cmp key (cond t (e ∷ filter test es) (filter test es)))
      by true p rest = both (is_lt (key_cmp key e.0)) (below_all key_cmp key (filter test es)) p rest
      by false p rest = rest

  sorted_kept : (es : Table) → T (is_sorted key_cmp es) → T (is_sorted key_cmp (filter test es))
  sorted_kept [] h = tt
  sorted_kept (e ∷ es) h = by (test e) (below_kept e.0 es (first (below_all key_cmp e.0 es) (is_sorted key_cmp es) h)) (sorted_kept es (second (below_all key_cmp e.0 es) (is_sorted key_cmp es) h))
    where
      by : (t : Bool) → T (below_all key_cmp e.0 (filter test es)) → T (is_sorted key_cmp (filter test es)) → T (is_sorted key_cmp (cond t (e ∷ filter test es) (filter test es)))
      by true p rest = both (below_all key_cmp e.0 (filter test es)) (is_sorted key_cmp (filter test es)) p rest
      by false p rest = rest

-- ---- edits at the keys of rows

-- each key to nothing
abbrev at_nothing : Key × List Value → Edit
at_nothing entry = (entry.0, None)

below_deleted : (key : Key) (es : Table) → below_all key_cmp key (map at_nothing es) ≡ below_all key_cmp key es
below_deleted key [] = refl
below_deleted key (e ∷ es) = ap (λ b. is_lt (key_cmp key e.0) && b) (below_deleted key es)

sorted_deleted : (es : Table) → is_sorted key_cmp (map at_nothing es) ≡ is_sorted key_cmp es
sorted_deleted [] = refl
sorted_deleted (e ∷ es) = (λ i. below_deleted e.0 es i && is_sorted key_cmp (map at_nothing es)) ∙ ap (λ b. below_all key_cmp e.0 es && b) (sorted_deleted es)

-- the edits stand at the same keys
abbrev Alike : Table → List Edit → Type 0
Alike es edits = ((key : Key) → below_all key_cmp key edits ≡ below_all key_cmp key es) × (is_sorted key_cmp edits ≡ is_sorted key_cmp es)

alike_onto : (n : ℕ) (e : Key × List Value) (es : Table) (row : Result (List Value) (ℕ × ℕ)) (rest : Result (List Edit) Refusal) (edits : List Edit) → ((more : List Edit) → rest ≡ Ok more → Alike es more)
    → row_onto n (at_key e.0 row) rest ≡ Ok edits → Alike (e ∷ es) edits
alike_onto n e es (Err refusal) rest edits h is = absurd (cc is)
alike_onto n e es (Ok row) (Err refusal) edits h is = absurd (cc is)
alike_onto n e es (Ok row) (Ok more) edits h is =
    let a = h more refl in
    let same : (e.0, Some row) ∷ more ≡ edits = cc is in
    subst (Alike (e ∷ es)) same (
      λ key. ap (λ b. is_lt (key_cmp key e.0) && b) (a.0 key),
      (λ i. a.0 e.0 i && is_sorted key_cmp more) ∙ ap (λ b. below_all key_cmp e.0 es && b) a.1,
    )

alike_updated : (schema : Schema) (sets : List (ℕ × Expr)) (n : ℕ) (es : Table) (edits : List Edit) → rows_from (updated_entry schema sets) n es ≡ Ok edits → Alike es edits
alike_updated schema sets n [] edits is = let same : [] ≡ edits = cc is in subst (Alike []) same (λ key. refl, refl)
alike_updated schema sets n (e ∷ es) edits is =
    alike_onto n e es (updated_row schema sets e.1) (rows_from (updated_entry schema sets) (n + 1) es) edits (λ more. alike_updated schema sets (n + 1) es more) is

-- ---- what a statement writes

-- an UPDATE and a DELETE write each key once
kept_apart : (schema : Schema) (t : Table) (b : Bound) (edits : List Edit) → T (is_sorted key_cmp t) → is_insert b ≡ false → writes schema t b ≡ Ok edits → Apart edits
kept_apart schema t bound.Begin edits up not is = let same : [] ≡ edits = cc is in subst Apart same tt
kept_apart schema t bound.Commit edits up not is = let same : [] ≡ edits = cc is in subst Apart same tt
kept_apart schema t bound.Rollback edits up not is = let same : [] ≡ edits = cc is in subst Apart same tt
kept_apart schema t bound.Nothing edits up not is = let same : [] ≡ edits = cc is in subst Apart same tt
kept_apart schema t (bound.Statistics on) edits up not is = let same : [] ≡ edits = cc is in subst Apart same tt
kept_apart schema t (bound.Insert plan) edits up not is = absurd (cc not)
kept_apart schema t (bound.Update plan) edits up not is =
    let a = alike_updated schema plan.sets 1 (chosen schema plan.filter t) edits is in
    apart_sorted edits (subst T (sym a.1) (sorted_kept (λ (entry : Key × List Value). keeps schema plan.filter entry.1) t up))
kept_apart schema t (bound.Delete condition) edits up not is =
    let same : deleted schema condition t ≡ edits = cc is in
    subst Apart same (apart_sorted (deleted schema condition t) (subst T (sym (sorted_deleted (chosen schema condition t))) (sorted_kept (λ (entry : Key × List Value). keeps schema condition entry.1) t up)))
kept_apart schema t (bound.Select query) edits up not is = let same : [] ≡ edits = cc is in subst Apart same tt
kept_apart schema t bound.GroupReport edits up not is = let same : [] ≡ edits = cc is in subst Apart same tt
kept_apart schema t bound.SegmentReport edits up not is = let same : [] ≡ edits = cc is in subst Apart same tt
kept_apart schema t (bound.Reorganize all) edits up not is = let same : [] ≡ edits = cc is in subst Apart same tt
kept_apart schema t (bound.Refused refusal) edits up not is = let same : [] ≡ edits = cc is in subst Apart same tt

-- an INSERT does, where no key is present
once_absent : (b : Bound) (edits : List Edit) (t : Table) (key : Key) → is_insert b ≡ true → is_present b edits t key ≡ false → count_by (λ other. same_key key other) (keys_of edits) ≤ 1
once_absent b edits t key insert absent = by (has_row t key) (stands_twice (keys_of edits) key) refl (sym (ap (λ i. i && (has_row t key || stands_twice (keys_of edits) key)) insert) ∙ absent)
  where
    by : (h s : Bool) → nat_lt 1 (count_by (λ other. same_key key other) (keys_of edits)) ≡ s → (h || s) ≡ false → count_by (λ other. same_key key other) (keys_of edits) ≤ 1
    by true s is e = absurd (cc e)
    by false true is e = absurd (cc e)
    by false false is e = grind (arith, nat_tests, is)

-- each key is written once
pub writes_apart : (schema : Schema) (before own edits : List Edit) (b : Bound) → writes schema (laid (laid [] before) own) b ≡ Ok edits → All (λ key. is_present b edits (laid (laid [] before) own) key ≡ false) (keys_of edits) → Apart edits
writes_apart schema before own edits b is absent = by (is_insert b) refl
  where
    by : (t : Bool) → is_insert b ≡ t → Apart edits
    by true insert = apart_once edits (λ k d lt. once_absent b edits (laid (laid [] before) own) (get_or (keys_of edits) k d) insert (absent k d lt))
    by false not = kept_apart schema (laid (laid [] before) own) b edits (sorted_laid before own) not is
