use Rattle.std.proofs.Common.{refl, ap, sym, subst, ◌∙◌, Option, Some, ℕ}
use Rattle.std.specs.Prelude.{IsSome}
use Rattle.txn_table.specs.declared.txn.Txn.{Txn}
use Rattle.txn_table.specs.Txns.{txn_of, opened, own_of}
use Rattle.group_directory.specs.declared.directory.Directory.{Directory}
use Rattle.statement_core.proofs.Placing.{with_own}
use Rattle.statement_core.proofs.States.{state_opened}
use Rattle.statement_core.proofs.core_state.open.Goals as goal

pub returns-clause-state : goal.returns-clause-state
returns-clause-state c = λ changes.
    state_opened changes c.args.held.now (record c.args.held.now { directory = c.begin.new.self }) c.args.session c.args.depth refl refl (ap (λ (d : Directory). d.clock) c.begin.ensures.rest) c.begin.ensures.txns c.begin.ensures.next

pub returns-clause-open : goal.returns-clause-open
returns-clause-open c =
    let old = c.args.held.now.directory.txns in
    let at = ap (λ (f : ℕ → Option Txn). f c.args.session) c.begin.ensures.txns ∙ with_own (txn_of old) c.args.session (Some (opened old.next c.args.depth)) in
    subst (λ (o : Option Txn). IsSome o) (sym at) refl

pub returns-clause-own : goal.returns-clause-own
returns-clause-own c =
    let old = c.args.held.now.directory.txns in
    ap (λ (f : ℕ → Option Txn). own_of (f c.args.session)) c.begin.ensures.txns ∙ ap own_of (with_own (txn_of old) c.args.session (Some (opened old.next c.args.depth)))
