use Rattle.std.proofs.Common.{◌≡◌, sym, ap, subst, ◌∙◌, cond, Bool}
use Rattle.cs_model.specs.Steps.{ends_txn, gone, refused}
use Rattle.txn_table.specs.Txns.{txn_of}
use Rattle.statement_core.specs.declared.core_state.CoreState.{CoreState}
use Rattle.statement_core.specs.CoreState.{state_of}
use Rattle.statement_core.proofs.finish.refuse.Goals.{then-ends_txn, else-ends_txn}
use Rattle.statement_core.proofs.finish.refuse.Goals as goal

pub returns-clause-state : goal.returns-clause-state
returns-clause-state c = λ changes.
    let m = state_of changes c.args.held.now in
    let s = c.args.session in
    let ends : c.ends_txn.result ≡ ends_txn (m.txns s) c.args.refusal = c.ends_txn.ensures (txn_of c.args.held.now.directory.txns s) c.depth.ensures in
    elim c.if-ends_txn.branch [
      | then-ends_txn w ↦ subst (λ (x : CoreState). state_of changes x ≡ refused m s c.args.refusal) (sym w.held-is) (w.roll_back.ensures.state changes ∙ sym (ap (λ (t : Bool). cond t (gone m s) m) (sym ends ∙ w.if-ends_txn.true)))
      | else-ends_txn w ↦ subst (λ (x : CoreState). state_of changes x ≡ refused m s c.args.refusal) (sym w.held-is) (sym (ap (λ (t : Bool). cond t (gone m s) m) (sym ends ∙ w.if-ends_txn.false)))
    ]
