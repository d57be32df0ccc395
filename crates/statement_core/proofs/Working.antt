-- What the work of a statement may count on.
use Rattle.std.proofs.Common.{◌≡◌, ℕ, List, [], ◌∷◌, sym, subst, cond, Bool, true, false, All, Option, None, Some, nat_le}
use Rattle.std.specs.List.Sorted.{IsStrictlySortedBy}
use Rattle.std.proofs.lemmas.List.Elements.{All-nil, All-cons, All-head, All-tail}
use Rattle.cs_types.specs.declared.Schema.{Schema}
use Rattle.cs_types.specs.Keys.{key_cmp}
use Rattle.cs_types.specs.Schemas.{IsSchema}
use Rattle.cs_model.specs.Changes.{Change, until}
use Rattle.cs_model.specs.Held.{IsFit, IsWhole}
use Rattle.cs_model.specs.Obstacles.{keys_of}
use Rattle.cs_model.specs.Ready.{IsReady}
use Rattle.cs_model.specs.State.{State, Txn}
use Rattle.cs_model.proofs.Tables.{sorted_none}
use Rattle.log_laws.specs.Laws.{IsByKey}
use Rattle.log_laws.specs.Started.{Begun, own_in}
use Rattle.statement_core.specs.Begun.{MayWork}
use Rattle.statement_core.specs.Fit.{IsFitting, IsFitTxn, IsFitState}

-- the changes of a snapshot are some of these
module _ (P : Change → Type 0) (s : ℕ) where
  until_all : (changes : List Change) → All P changes → All P (until s changes)
  until_all [] all = All-nil P
  until_all (change ∷ changes) all = by (nat_le change.commit s) (until_all changes (All-tail P change changes all))
    where
      by : (t : Bool) → All P (until s changes) → All P (cond t (change ∷ until s changes) (until s changes))
      by true rest = All-cons P change (until s changes) (All-head P change changes all) rest
      by false rest = rest

own_fits : (schema : Schema) (o : Option Txn) → IsFitTxn schema o → All (IsFitting schema) (own_in o)
own_fits schema None fit = All-nil (IsFitting schema)
own_fits schema (Some txn) fit = fit

own_by_key : (o : Option Txn) → IsByKey o → IsStrictlySortedBy key_cmp (keys_of (own_in o))
own_by_key None up = sorted_none
own_by_key (Some txn) up = up

pub may_work : (schema : Schema) (changes : List Change) (after : State) (s : ℕ) (begun : Begun) → begun.schema ≡ schema → begun.own ≡ own_in (after.txns s) → begun.changes ≡ until begun.snapshot changes
    → IsSchema schema → IsReady schema begun.bound → IsFitState schema after → IsByKey (after.txns s) → All (λ (change : Change). IsFitting schema change.edit) changes → MayWork begun
may_work schema changes after s begun same own among table ready fit up all =
    let some = until_all (λ (change : Change). IsFitting schema change.edit) begun.snapshot changes all in
    let mine = own_fits schema (after.txns s) (fit.txns s) in
    record {
      schema = subst IsSchema (sym same) table;
      ready = subst (λ (x : Schema). IsReady x begun.bound) (sym same) ready;
      fit = subst (λ (x : Schema). All (λ (change : Change). IsFit x change.edit) begun.changes) (sym same) (subst (All (λ (change : Change). IsFit schema change.edit)) (sym among) (λ k d lt. (some k d lt).0));
      whole = subst (λ (x : Schema). All (λ (change : Change). IsWhole x change.edit) begun.changes) (sym same) (subst (All (λ (change : Change). IsWhole schema change.edit)) (sym among) (λ k d lt. (some k d lt).1));
      own_fit = subst (λ (x : Schema). All (IsFit x) begun.own) (sym same) (subst (All (IsFit schema)) (sym own) (λ k d lt. (mine k d lt).0));
      own_whole = subst (λ (x : Schema). All (IsWhole x) begun.own) (sym same) (subst (All (IsWhole schema)) (sym own) (λ k d lt. (mine k d lt).1));
      by_key = subst (λ es. IsStrictlySortedBy key_cmp (keys_of es)) (sym own) (own_by_key (after.txns s) up);
    }
