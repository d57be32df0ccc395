use Rattle.std.proofs.Common.{◌≡◌, refl, sym, ap, ◌∙◌, inr, Some, None, rules}
use Rattle.std.specs.Prelude.{IsSome}
use Rattle.cs_model.specs.declared.entry.Bound.TheVariants.{Commit}
use Rattle.cs_model.specs.declared.entry.Refusal.TheVariants.{NoTxn}
use Rattle.cs_model.specs.declared.entry.Reply.TheVariants.{Done}
use Rattle.cs_model.specs.Steps.{done_in}
use Rattle.txn_table.specs.Txns.{txn_of, depth_of}
use Rattle.group_directory.specs.Obstacles.{txn_in}
use Rattle.statement_core.specs.CoreState.{state_of}
use Rattle.statement_core.proofs.Ending.{ends_settled, ends_refused}
use Rattle.statement_core.proofs.Finishing.{never_short, ends_commit, parcel_of_commit}
use Rattle.statement_core.proofs.States.{deepened_unwound, done_some}
use Rattle.statement_core.proofs.finish.unwind.Goals as goal

pub returns-in_default : goal.returns-in_default
returns-in_default c = λ begin changes half d.
    let none : txn_of c.args.held.now.directory.txns c.args.session ≡ None = search rules in
    let still = c.refuse.ensures.still in
    ends_refused begin.schema changes c.args.held.now c.refuse.new.held c.args.session (record half { bound = Commit }) c.refuse.result (NoTxn 3902) (still.stands changes d.stands) still.same (never_short Commit half.short d.why refl) c.refuse.ensures.reply
    (sym (ap (λ o. done_in (txn_in o) 3902) none)) (c.refuse.ensures.state changes)

pub returns-then-depth-gt1 : goal.returns-then-depth-gt1
returns-then-depth-gt1 c = λ begin changes half d.
    let own = txn_of c.args.held.now.directory.txns c.args.session in
    let deep : depth_of own ≡ Some c.in-Some.depth = search rules in
    let there : IsSome own = search rules in
    let still = c.deepen.ensures.still in
    ends_settled begin.schema changes c.args.held.now c.deepen.new.held c.args.session (record half { bound = Commit }) Done (still.stands changes d.stands) still.same (never_short Commit half.short d.why refl) (λ k. absurd (cc k)) (record {
      reply = inr (sym (done_some own 3902 there));
      state = c.deepen.ensures.state changes ∙ deepened_unwound (state_of changes c.args.held.now) c.args.session own c.in-Some.depth deep c.if-depth-gt1.true;
    })

pub returns : goal.returns
returns c = λ begin changes half d.
    let own = txn_of c.args.held.now.directory.txns c.args.session in
    let deep : depth_of own ≡ Some c.in-Some.depth = search rules in
    ends_commit begin.schema changes c.args.held.now c.commit_with.new.held c.args.session half c.in-Some.depth c.commit_with.result (never_short Commit half.short d.why refl) d.stands deep c.if-depth-gt1.false (c.commit_with.ensures changes d.stands)

pub commit_with-requires-clause-stands : goal.commit_with-requires-clause-stands
commit_with-requires-clause-stands c = let d = c.requires.done.3 in (c.requires.done.1, d.stands)

pub commit_with-requires-clause-parcel : goal.commit_with-requires-clause-parcel
commit_with-requires-clause-parcel c = let done = c.requires.done in parcel_of_commit done.0 done.1 c.args.held.now c.args.session (record done.2 { bound = Commit }) c.args.parcel done.3
