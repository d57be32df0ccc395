use Rattle.std.proofs.Common.{refl, ap, ◌∙◌, ℕ, Option}
use Rattle.std.proofs.lemmas.Result.{on_ok_weaker, on_err_weaker}
use Rattle.txn_table.specs.declared.txn.Txn.{Txn}
use Rattle.txn_table.specs.Txns.{txn_of, widened}
use Rattle.group_directory.specs.declared.directory.Directory.{Directory}
use Rattle.statement_core.proofs.Placing.{with_own}
use Rattle.statement_core.proofs.States.{state_with, state_kept}
use Rattle.statement_core.proofs.Stills.{same_from}
use Rattle.statement_core.proofs.core_state.stage.Goals as goal

pub returns-clause-ok : goal.returns-clause-ok
returns-clause-ok c =
    let old = txn_of c.args.held.now.directory.txns in
    on_ok_weaker c.stage.result (λ ok changes. state_with changes c.args.held.now (record c.args.held.now { directory = c.stage.new.self }) c.args.session (widened c.args.writes.items (old c.args.session)) refl refl
    (ap (λ (d : Directory). d.clock) c.stage.ensures.rest) ok c.stage.ensures.next) c.stage.ensures.ok

pub returns-clause-own : goal.returns-clause-own
returns-clause-own c =
    let old = txn_of c.args.held.now.directory.txns in
    on_ok_weaker c.stage.result (λ ok. ap (λ (f : ℕ → Option Txn). f c.args.session) ok ∙ with_own old c.args.session (widened c.args.writes.items (old c.args.session))) c.stage.ensures.ok

pub returns-clause-err : goal.returns-clause-err
returns-clause-err c = on_err_weaker c.stage.result (λ same changes. state_kept changes c.args.held.now (record c.args.held.now { directory = c.stage.new.self }) refl refl (ap (λ (d : Directory). d.clock) c.stage.ensures.rest) same c.stage.ensures.next) c.stage.ensures.err

pub returns-clause-same : goal.returns-clause-same
returns-clause-same c = same_from c.args.held.now (record c.args.held.now { directory = c.stage.new.self }) c.stage.ensures.rest
