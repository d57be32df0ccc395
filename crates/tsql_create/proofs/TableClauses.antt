-- The clauses of reading a table, from those of reading its tree and of judging it.
use Rattle.std.proofs.Common.{◌≡◌, ℕ, List, [], length, Some, Result, Ok, Err, refl, sym, ap, subst, ◌∙◌, inl, inr}
use Rattle.std.specs.Prelude.{IfOk, IfErr, IsErrAnd, MatchResult}
use Rattle.cs_types.specs.declared.Schema.{Schema}
use Rattle.cs_types.specs.Schemas.{IsSchema}
use Rattle.tsql_create.specs.declared.tree.CreateTree.{CreateTree}
use Rattle.tsql_create.specs.Creates.{IsCreate, IsNoCreate}
use Rattle.tsql_exprs.specs.declared.refusal.ReadRefusal.{ReadRefusal}
use Rattle.tsql_exprs.specs.declared.refusal.ReadRefusal.TheVariants as refusal
use Rattle.tsql_exprs.specs.Refusals.{AnswersOnly}
use Rattle.tsql_exprs.specs.Leftmost.{leftmost}
use Rattle.tsql_create.specs.Faults.{faults}
use Rattle.tsql_create.specs.Tables.{schema_of, Means, IsTable, IsFaulty, IsNoTable, RefusesTable, JudgesTable}
use Rattle.tsql_create.proofs.Sound.{is_schema}

-- a statement without faults is refused nowhere
not_faulty : (size : ℕ) (tree : CreateTree) (number at : ℕ) → faults size tree ≡ [] → IsFaulty size tree number at → ⊥
not_faulty size tree number at none (n, left) =
    let f : leftmost [] ≡ Some at = subst (λ z. leftmost z ≡ Some at) none left in cc

same_schema : (size : ℕ) (tree : CreateTree) (s t : Schema) → Means size tree s → Means size tree t → s ≡ t
same_schema size tree s t (n, (k, is, e)) (m, (l, at, f)) =
    let one : k ≡ l = cc in e ∙ ap (schema_of tree) one ∙ sym f

module _ (text : List ℕ) (tree : CreateTree) (is : IsCreate text tree) where
  pub ok_found : (r : Result Schema ReadRefusal) → JudgesTable (length text) tree r → IfOk r (λ s. IsTable text s)
  ok_found (Ok s) means = (tree, is, means)
  ok_found (Err e) f = tt

  pub ok_schema : (r : Result Schema ReadRefusal) → JudgesTable (length text) tree r → IfOk r (λ s. IsSchema s)
  ok_schema (Ok s) (none, (key, at, e)) = subst IsSchema (sym e) (is_schema (length text) tree key none at)
  ok_schema (Err e) f = tt

  pub ok_refused : (r : Result Schema ReadRefusal) → JudgesTable (length text) tree r → IfErr r (λ e. RefusesTable text e)
  ok_refused (Ok s) means = tt
  ok_refused (Err refusal.Memory) f = tt
  ok_refused (Err (refusal.At number at)) f = inr (tree, is, f)

  module _ (one : (other : CreateTree) → IsCreate text other → tree ≡ other) where
    pub ok_only : (r : Result Schema ReadRefusal) → JudgesTable (length text) tree r → (other : Schema) → IsTable text other
        → MatchResult r (λ s. s ≡ other) (λ e. e ≡ refusal.Memory)
    ok_only (Ok s) means other (t, has, meant) =
        same_schema (length text) tree s other means (subst (λ z. Means (length text) z other) (sym (one t has)) meant)
    ok_only (Err refusal.Memory) f other table = refl
    ok_only (Err (refusal.At number at)) f other (t, has, meant) =
        absurd (not_faulty (length text) tree number at (subst (λ z. Means (length text) z other) (sym (one t has)) meant).0 f)

    faulty_place : (r : Result Schema ReadRefusal) → JudgesTable (length text) tree r → (number at : ℕ) → IsFaulty (length text) tree number at
        → MatchResult r (λ s. ⊥) (λ e. AnswersOnly number at e)
    faulty_place (Ok s) means number at faulty = not_faulty (length text) tree number at means.0 faulty
    faulty_place (Err refusal.Memory) f number at faulty = tt
    faulty_place (Err (refusal.At n p)) (m, left) number at (k, there) = let same : p ≡ at = cc in (m ∙ sym k, same)

    pub ok_place : ((number at : ℕ) → IsNoCreate text number at → ⊥) → (r : Result Schema ReadRefusal) → JudgesTable (length text) tree r
        → (number at : ℕ) → IsNoTable text number at → MatchResult r (λ s. ⊥) (λ e. AnswersOnly number at e)
    ok_place never r f number at (inl not) = absurd (never number at not)
    ok_place never r f number at (inr (t, has, faulty)) =
        faulty_place r f number at (subst (λ z. IsFaulty (length text) z number at) (sym (one t has)) faulty)

-- ---- a text that has no tree

module _ (text : List ℕ) (e : ReadRefusal) where
  pub err_only : (r : Result Schema ReadRefusal) → IsErrAnd r (λ d. d ≡ e) → ((other : CreateTree) → IsCreate text other → e ≡ refusal.Memory)
      → (other : Schema) → IsTable text other → MatchResult r (λ s. s ≡ other) (λ d. d ≡ refusal.Memory)
  err_only (Ok s) is only other table = absurd is
  err_only (Err d) is only other (tree, has, means) = is ∙ only tree has

  pub err_place : (r : Result Schema ReadRefusal) → IsErrAnd r (λ d. d ≡ e) → ((other : CreateTree) → IsCreate text other → e ≡ refusal.Memory)
      → ((number at : ℕ) → IsNoCreate text number at → AnswersOnly number at e) → (number at : ℕ) → IsNoTable text number at
      → MatchResult r (λ s. ⊥) (λ d. AnswersOnly number at d)
  err_place (Ok s) is only place number at table = absurd is
  err_place (Err d) is only place number at (inl not) = subst (λ z. AnswersOnly number at z) (sym is) (place number at not)
  err_place (Err d) is only place number at (inr (tree, has, faulty)) = subst (λ z. AnswersOnly number at z) (sym (is ∙ only tree has)) tt
