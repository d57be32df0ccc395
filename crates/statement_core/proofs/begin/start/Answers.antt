use Rattle.std.proofs.Common.{◌≡◌, sym, ap, subst, ◌∙◌, true, false, Some, rules}
use Rattle.std.specs.declared.alloc.Global.{Global}
use Rattle.std.specs.declared.sync.Arc.{Arc}
use Rattle.cs_types.specs.declared.Schema.{Schema}
use Rattle.cs_model.specs.Kinds.{is_of_table}
use Rattle.cs_model.specs.State.{Half, half_set}
use Rattle.txn_table.specs.Txns.{txn_of}
use Rattle.statement_core.specs.CoreState.{groups_of, state_of}
use Rattle.statement_core.specs.Reorganizes.{reorganizes, IsLedgerFor}
use Rattle.statement_core.specs.Taken.{opened_for, IsPinOrNone}
use Rattle.statement_core.proofs.Taking.{taken, is_zero, implicit_depth}
use Rattle.statement_core.proofs.begin.start.Goals as goal

pub returns-clause-ok : goal.returns-clause-ok
returns-clause-ok c = λ begin changes j same.
    let mid = c.take-pinned.new.held in
    let still = c.take-pinned.ensures.still in
    let kept = still.same in
    let listed : c.deref.result.now ≡ c.args.bound.value = search rules in
    let is : c.deref-2.result.now ≡ c.args.bound.value = search rules in
    let zero : c.eq-implicit.result ≡ is_zero c.depth.result = search rules in
    taken begin changes c.args.held.now mid c.set_half.new.held c.args.session c.args.bound.value c.take-pinned.result.1 c.new-half.result.note c.take-pinned.result.0 c.in_ok-own.own c.eq-implicit.result c.in_ok-ledger.ledger
    (ap (λ (s : Arc Schema Global). s.value) kept.schema ∙ same) (subst (λ b. state_of changes mid ≡ opened_for (state_of changes c.args.held.now) c.args.session b c.take-pinned.result.1) is (c.take-pinned.ensures.state changes))
    (c.set_half.ensures.state changes ∙ ap (λ (half : Half). half_set (state_of changes mid) c.args.session (Some half)) (c.new-half.ensures (state_of changes c.args.held.now)))
    (ap (λ (half : Half). half.note) (c.new-half.ensures (state_of changes c.args.held.now)))
    (subst (λ b. c.take-pinned.result.1 ≡ true → is_of_table b ≡ true) is c.take-pinned.ensures.why)
    (c.in_ok-own.ensures ∙ sym c.take-pinned.ensures.own) (implicit_depth (txn_of mid.directory.txns c.args.session) c.depth.result c.eq-implicit.result c.depth.ensures zero)
    (subst (λ b. is_of_table b ≡ true → c.take-pinned.result.1 ≡ false → IsPinOrNone changes mid.directory c.args.session c.take-pinned.result.0) is (c.take-pinned.ensures.pinned changes j)) kept.groups
    (subst (λ b. IsLedgerFor (groups_of c.args.held.now) (reorganizes b) c.in_ok-ledger.ledger) listed c.in_ok-ledger.ensures)
