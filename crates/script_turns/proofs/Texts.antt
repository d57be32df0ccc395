-- What a text means, from what reading and binding answered; and that it can be run.
use Rattle.std.proofs.Common.{◌≡◌, ℕ, List, refl, sym, ap, subst, ◌∙◌, inl, inr}
use Rattle.std.specs.Prelude.{IfOk, Result, Ok, Err}
use Rattle.cs_base.specs.declared.memory.Memory.{Memory}
use Rattle.cs_types.specs.declared.Schema.{Schema}
use Rattle.cs_model.specs.declared.entry.Bound.{Bound}
use Rattle.cs_model.specs.declared.entry.Bound.TheVariants.{Refused}
use Rattle.cs_model.specs.declared.entry.Refusal.TheVariants.{Reading}
use Rattle.cs_model.specs.Ready.{IsReady}
use Rattle.tsql_trees.specs.declared.statement.Statement.{Statement}
use Rattle.tsql_exprs.specs.declared.refusal.ReadRefusal.{ReadRefusal}
use Rattle.tsql_exprs.specs.declared.refusal.ReadRefusal.TheVariants as refusal
use Rattle.tsql_exprs.specs.Refusals.{AnswersOnly}
use Rattle.tsql_reader.specs.Statements.{IsStatement, IsNoStatement}
use Rattle.bind_faults.specs.declared.fault.Fault.{Fault}
use Rattle.tsql_binder.specs.Meaning.{bound_of}
use Rattle.tsql_binder.proofs.Ready.{bound_ready}
use Rattle.script_turns.specs.Texts.{bound_or, Means}

module _ (schema : Schema) (text : List ℕ) where
  pub read_found : (statement : Statement) (r : Result Bound Memory) → IsStatement text statement → IfOk r (λ b. b ≡ bound_or (bound_of schema statement)) → IfOk r (Means schema text)
  read_found statement (Ok b) is e = inl (statement, is, e)
  read_found statement (Err m) is e = tt

  pub read_only : (statement : Statement) (r : Result Bound Memory) → ((other : Statement) → IsStatement text other → statement ≡ other) → ((number at : ℕ) → IsNoStatement text number at → ⊥)
      → IfOk r (λ b. b ≡ bound_or (bound_of schema statement)) → (other : Bound) → Means schema text other → IfOk r (λ b. b ≡ other)
  read_only statement (Ok b) only place e other (inl m) = e ∙ ap (λ s. bound_or (bound_of schema s)) (only m.0 m.1) ∙ sym m.2
  read_only statement (Ok b) only place e other (inr m) = absurd (place m.0 m.1 m.2)
  read_only statement (Err m) only place e other means = tt

  pub unread_found : (r : Result Bound Memory) → IfOk r (λ b. (number : ℕ) × (at : ℕ) × IsNoStatement text number at × (b ≡ Refused (Reading number at))) → IfOk r (Means schema text)
  unread_found (Ok b) h = inr h
  unread_found (Err m) h = tt

  -- no two refusals are one
  not_both : (b : Bound) → b ≡ Refused (Reading 0 0) → b ≡ Refused (Reading 1 1) → ⊥
  not_both b e f = absurd (cc)

  pub unread_only : (e : ReadRefusal) (r : Result Bound Memory) → ((other : Statement) → IsStatement text other → e ≡ refusal.Memory) → ((number at : ℕ) → IsNoStatement text number at → AnswersOnly number at e)
      → ((number at : ℕ) → AnswersOnly number at e → IfOk r (λ b. b ≡ Refused (Reading number at))) → (other : Bound) → Means schema text other → IfOk r (λ b. b ≡ other)
  unread_only e (Ok b) only place answers other (inl m) =
      let none = only m.0 m.1 in
      absurd (not_both b (answers 0 0 (subst (AnswersOnly 0 0) (sym none) tt)) (answers 1 1 (subst (AnswersOnly 1 1) (sym none) tt)))
  unread_only e (Ok b) only place answers other (inr m) = answers m.0 m.1 (place m.0 m.1 m.2) ∙ sym m.3
  unread_only e (Err m) only place answers other means = tt

  -- ---- it can be run

  meant_ready : (bound : Bound) → Means schema text bound → IsReady schema bound
  meant_ready bound (inl h) = subst (IsReady schema) (sym h.2) (at (bound_of schema h.0) refl)
    where
      at : (wanted : Result Bound Fault) → bound_of schema h.0 ≡ wanted → IsReady schema (bound_or wanted)
      at (Ok b) e = bound_ready schema h.0 b e
      at (Err f) e = tt
  meant_ready bound (inr h) = subst (IsReady schema) (sym h.3) tt

  pub ready_of : (r : Result Bound Memory) → IfOk r (Means schema text) → IfOk r (IsReady schema)
  ready_of (Ok bound) means = meant_ready bound means
  ready_of (Err memory) means = tt
