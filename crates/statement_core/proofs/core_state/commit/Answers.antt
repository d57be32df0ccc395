use Rattle.std.proofs.Common.{◌≡◌, ◌≢◌, ◌+◌, ◌++◌, List, [], refl, sym, ap, subst, ◌∙◌, Err}
use Rattle.cs_model.specs.Steps.{numbered}
use Rattle.edit_laws.specs.Edits.{edits_of}
use Rattle.write_set.specs.declared.write.Write.{Write}
use Rattle.txn_table.specs.Txns.{txn_of, own_of}
use Rattle.group_book.specs.Commits.{draws_past}
use Rattle.group_view.specs.Books.{book_of}
use Rattle.group_directory.specs.declared.committing.CommitRefusal.{CommitRefusal}
use Rattle.group_directory.specs.declared.committing.CommitRefusal.TheVariants.{Full}
use Rattle.group_directory.specs.Calls.{replaced_in}
use Rattle.group_directory.specs.Committing.{after_parcel}
use Rattle.group_directory.specs.Stands.{Stands}
use Rattle.statement_core.proofs.Committed.{past_is, not_past, committed_leaves, own_leaves, still_refused, state_refused}
use Rattle.statement_core.proofs.core_state.commit.Goals as goal

pub returns-in-Ok-clause-ok : goal.returns-in-Ok-clause-ok
returns-in-Ok-clause-ok c = λ changes j.
    let old = c.args.held.now in
    let new = record old { directory = c.commit.new.self } in
    let d = old.directory in
    let own = own_of (txn_of d.txns c.args.session) in
    let facts = c.in-Ok.ensures in
    let agree = j.txns in
    own_leaves changes old new c.args.session (txn_of d.txns c.args.session) refl c.requires.open (λ txn has.
    committed_leaves changes old new c.args.session c.in-Ok.field-0 j own (replaced_in own) refl c.args.parcel c.requires.parcel (agree.replaced c.args.session) refl refl c.commit.ensures.rest facts.clock facts.number facts.txns
    c.commit.ensures.next c.commit.ensures.claims facts.book facts.none
    (not_past c.in-Ok.field-0 (own ≢ []) (draws_past (book_of d.list) (after_parcel d.sizes.group_rows (d.clock + 1) (replaced_in own) c.args.parcel (book_of d.list))) (λ e. cc e) facts.full.1)
    txn (subst (λ (ws : List Write). Stands new.directory (changes ++ numbered (d.clock + 1) txn.number (edits_of ws))) (sym (ap own_of has)) (facts.stands changes txn j has)))

pub returns-in-Err-clause-full : goal.returns-in-Err-clause-full
returns-in-Err-clause-full c = λ changes j e.
    let d = c.args.held.now.directory in
    let own = own_of (txn_of d.txns c.args.session) in
    let agree = j.txns in
    let same : c.in-Err.refusal ≡ Full = cc e in
    let is : c.commit.result ≡ Err Full = c.in-Err.is ∙ ap (λ (x : CommitRefusal). Err x) same in
    let p = c.commit.ensures.full.0 is in
    (p.0, past_is changes d j own (replaced_in own) refl c.args.parcel c.requires.parcel (agree.replaced c.args.session) ∙ p.1)

pub returns-in-Err-clause-err : goal.returns-in-Err-clause-err
returns-in-Err-clause-err c = λ changes. state_refused changes c.args.held.now (record c.args.held.now { directory = c.commit.new.self }) refl refl c.in-Err.ensures.same

pub returns-in-Err-clause-still : goal.returns-in-Err-clause-still
returns-in-Err-clause-still c = still_refused c.args.held.now (record c.args.held.now { directory = c.commit.new.self }) c.commit.ensures.claims c.in-Err.ensures.refused c.in-Err.ensures.same c.commit.ensures.rest
