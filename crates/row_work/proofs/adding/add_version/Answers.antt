use Rattle.std.proofs.Common.{◌∙◌, ◌≡◌, ◌++◌, ◌∷◌, [], List, sym, subst}
use Rattle.std.specs.Prelude.{OnOk}
use Rattle.std.specs.Borrow.{Bor}
use Rattle.std.specs.Option.{option_and_then}
use Rattle.std.proofs.lemmas.List.{append-nil}
use Rattle.cs_types.specs.declared.Key.{Key}
use Rattle.cs_types.specs.declared.Value.{Value}
use Rattle.batch_aggregate.specs.Standing.{StandsFor}
use Rattle.group_view.specs.Views.{version_at}
use Rattle.row_work.specs.Reads.{read_row}
use Rattle.row_work.proofs.Found.{at_place}
use Rattle.row_work.proofs.Scanned.{more_none, more_some}
use Rattle.row_work.proofs.Sieved.{passed_by}
use Rattle.row_work.proofs.adding.add_version.Goals as goal

pub returns-then-not-is_kept-clause-added : goal.returns-then-not-is_kept-clause-added
returns-then-not-is_kept-clause-added c =
    let pinned = c.args.pinned.now in
    let place = c.args.place in
    passed_by c.args.width pinned c.args.partial.now (version_at pinned.view place)
    (λ rowed at. c.requires.sieved place.position rowed (sym (at_place pinned.view place.group place.position) ∙ at) (sym c.is_kept.ensures ∙ c.if-not-is_kept.true))

pub returns-in-Some-clause-added : goal.returns-in-Some-clause-added
returns-in-Some-clause-added c = λ rows stands.
    let pinned = c.args.pinned.now in
    let read = option_and_then (read_row c.args.width pinned) (version_at pinned.view c.args.place) in
    let entry : Key × Bor (List Value) → Key × List Value = λ found. (found.0, found.1.now) in
    let After : List (List Value) → Type 0 = λ all. OnOk c.add.result (StandsFor c.add.new.self all) in
    more_some (λ all. all ≡ rows) After [] entry _ _ read c.in_ok-_key.ensures c.in-Some.is
    (λ all same. subst (λ l. After (l ++ c.in-Some.row.now ∷ [])) (sym same) (c.add.ensures.added rows stands)) rows (append-nil rows)

pub returns-clause-added : goal.returns-clause-added
returns-clause-added c = λ rows stands.
    let pinned = c.args.pinned.now in
    let read = option_and_then (read_row c.args.width pinned) (version_at pinned.view c.args.place) in
    let entry : Key × Bor (List Value) → Key × List Value = λ found. (found.0, found.1.now) in
    let After : List (List Value) → Type 0 = λ all. StandsFor c.args.partial.now all in
    more_none After After [] entry _ read c.in_ok-_key.ensures c.in-None.is (λ all same. same) rows (subst After (sym (append-nil rows)) stands)
