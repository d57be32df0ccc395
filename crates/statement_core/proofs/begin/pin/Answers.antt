use Rattle.std.proofs.Common.{refl, sym, ap, ◌∙◌, ℕ, Option}
use Rattle.cs_model.specs.State.{txn_set}
use Rattle.txn_table.specs.declared.txn.Txn.{Txn}
use Rattle.txn_table.specs.Txns.{Table, txn_of, fixed, own_of}
use Rattle.group_directory.specs.declared.directory.Directory.{Directory}
use Rattle.statement_core.specs.CoreState.{state_of}
use Rattle.statement_core.proofs.Placing.{with_own}
use Rattle.statement_core.proofs.States.{state_with, state_kept, fixed_as, takes, own_fixed}
use Rattle.statement_core.proofs.Stills.{still_then}
use Rattle.statement_core.proofs.Taking.{pin_of}
use Rattle.statement_core.proofs.begin.pin.Goals as goal

pub pin-requires-clause-held : goal.pin-requires-clause-held
pin-requires-clause-held c = let still = c.open_implicit.ensures.still in let j = still.stands c.requires.stands.0 c.requires.stands.1 in j.held

pub returns-in-Ok-clause-state : goal.returns-in-Ok-clause-state
returns-in-Ok-clause-state c = λ changes.
    let mid = c.open_implicit.new.held in
    let s = c.args.session in
    let own = txn_of mid.directory.txns s in
    state_with changes mid (record mid { directory = c.pin.new.self }) s (fixed mid.directory.clock own) refl refl c.pin.ensures.clock c.in-Ok.ensures.txns c.pin.ensures.next
    ∙ ap (txn_set (state_of changes mid) s) (fixed_as own mid.directory.clock)
    ∙ takes (state_of changes c.args.held.now) (state_of changes mid) s (c.open_implicit.ensures.state changes)

pub returns-in-Err-clause-state : goal.returns-in-Err-clause-state
returns-in-Err-clause-state c = λ changes.
    let mid = c.open_implicit.new.held in
    state_kept changes mid (record mid { directory = c.pin.new.self }) refl refl c.pin.ensures.clock (ap (λ (t : Table). txn_of t) c.in-Err.ensures.err) c.pin.ensures.next
    ∙ c.open_implicit.ensures.state changes

pub returns-in-Ok-clause-own : goal.returns-in-Ok-clause-own
returns-in-Ok-clause-own c =
    let mid = c.open_implicit.new.held.directory in
    let own = txn_of mid.txns c.args.session in
    ap (λ (f : ℕ → Option Txn). own_of (f c.args.session)) c.in-Ok.ensures.txns ∙ ap own_of (with_own (txn_of mid.txns) c.args.session (fixed mid.clock own)) ∙ own_fixed mid.clock own ∙ c.open_implicit.ensures.own

pub returns-in-Err-clause-own : goal.returns-in-Err-clause-own
returns-in-Err-clause-own c = ap (λ (t : Table). own_of (txn_of t c.args.session)) c.in-Err.ensures.err ∙ c.open_implicit.ensures.own

pub returns-in-Ok-clause-pinned : goal.returns-in-Ok-clause-pinned
returns-in-Ok-clause-pinned c = λ changes j some.
    let mid = c.open_implicit.new.held.directory in
    let still = c.open_implicit.ensures.still in
    let own = txn_of mid.txns c.args.session in
    let facts = c.in-Ok.ensures in
    let now = ap (λ (f : ℕ → Option Txn). f c.args.session) facts.txns ∙ with_own (txn_of mid.txns) c.args.session (fixed mid.clock own) in
    let stands = still.stands changes j in
    pin_of changes mid c.pin.new.self c.args.session c.in-Ok.pinned stands (ap (λ (d : Directory). d.schema) c.pin.ensures.rest) c.pin.ensures.clock c.pin.ensures.book facts.look (facts.view changes stands) (facts.shows changes stands) facts.snapshot now
    (facts.own ∙ sym (own_fixed mid.clock own) ∙ sym (ap own_of now))

pub returns-in-Ok-clause-still : goal.returns-in-Ok-clause-still
returns-in-Ok-clause-still c =
    let mid = c.open_implicit.new.held in
    still_then c.args.held.now mid (record mid { directory = c.pin.new.self }) c.open_implicit.ensures.still (record {
      stands = c.pin.ensures.stands;
      same = record {
        claims = c.pin.ensures.claims;
        groups = c.pin.ensures.book;
        sizes = ap (λ (d : Directory). d.sizes) c.pin.ensures.rest;
        schema = ap (λ (d : Directory). d.schema) c.pin.ensures.rest;
        clock = c.pin.ensures.clock;
      };
    })

pub returns-in-Err-clause-still : goal.returns-in-Err-clause-still
returns-in-Err-clause-still c =
    let mid = c.open_implicit.new.held in
    still_then c.args.held.now mid (record mid { directory = c.pin.new.self }) c.open_implicit.ensures.still (record {
      stands = c.pin.ensures.stands;
      same = record {
        claims = c.pin.ensures.claims;
        groups = c.pin.ensures.book;
        sizes = ap (λ (d : Directory). d.sizes) c.pin.ensures.rest;
        schema = ap (λ (d : Directory). d.schema) c.pin.ensures.rest;
        clock = c.pin.ensures.clock;
      };
    })
