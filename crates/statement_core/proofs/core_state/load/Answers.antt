use Rattle.std.proofs.Common.{◌≡◌, ◌≢◌, ◌+◌, [], refl, ap, ◌∙◌, Err}
use Rattle.write_set.specs.Writes.{write_keys}
use Rattle.group_book.specs.Commits.{draws_past}
use Rattle.group_view.specs.Books.{book_of}
use Rattle.group_directory.specs.declared.committing.CommitRefusal.{CommitRefusal}
use Rattle.group_directory.specs.declared.committing.CommitRefusal.TheVariants.{Full}
use Rattle.group_directory.specs.Committing.{after_parcel}
use Rattle.group_directory.proofs.CommitLaws.{none_written}
use Rattle.statement_core.proofs.Committed.{past_is, not_past, number_of_keys, committed_leaves, still_refused, state_refused}
use Rattle.statement_core.proofs.core_state.load.Goals as goal

pub returns-in-Ok-clause-ok : goal.returns-in-Ok-clause-ok
returns-in-Ok-clause-ok c = λ changes list txn j is has.
    let old = c.args.held.now in
    let d = old.directory in
    let keys = c.args.keys.now in
    let facts = c.in-Ok.ensures in
    let may = is.may in
    committed_leaves changes old (record old { directory = c.load.new.self }) c.args.session c.in-Ok.field-0 j list [] is.replaced c.args.parcel is.parcel may.replaces refl refl c.load.ensures.rest facts.clock
    (facts.number ∙ number_of_keys d.clock keys list is.keys) facts.txns c.load.ensures.next c.load.ensures.claims facts.book (λ none. facts.none (is.keys ∙ ap write_keys none))
    (λ some. not_past c.in-Ok.field-0 (keys ≢ []) (draws_past (book_of d.list) (after_parcel d.sizes.group_rows (d.clock + 1) [] c.args.parcel (book_of d.list))) (λ e. cc e) facts.full.1 (λ none. some (none_written keys list none is.keys)))
    txn (facts.stands changes list txn j is has)

pub returns-in-Err-clause-full : goal.returns-in-Err-clause-full
returns-in-Err-clause-full c = λ changes list j is e.
    let d = c.args.held.now.directory in
    let may = is.may in
    let same : c.in-Err.refusal ≡ Full = cc e in
    let was : c.load.result ≡ Err Full = c.in-Err.is ∙ ap (λ (x : CommitRefusal). Err x) same in
    let p = c.load.ensures.full.0 was in
    (λ none. p.0 (is.keys ∙ ap write_keys none), past_is changes d j list [] is.replaced c.args.parcel is.parcel may.replaces ∙ p.1)

pub returns-in-Err-clause-err : goal.returns-in-Err-clause-err
returns-in-Err-clause-err c = λ changes. state_refused changes c.args.held.now (record c.args.held.now { directory = c.load.new.self }) refl refl c.in-Err.ensures.same

pub returns-in-Err-clause-still : goal.returns-in-Err-clause-still
returns-in-Err-clause-still c = still_refused c.args.held.now (record c.args.held.now { directory = c.load.new.self }) c.load.ensures.claims c.in-Err.ensures.refused c.in-Err.ensures.same c.load.ensures.rest
