use Rattle.std.proofs.Common.{◌≡◌, ◌∙◌, ◌+◌, ◌++◌, ◌∷◌, [], List, take, map, get_or, ap, sym, arith}
use Rattle.std.specs.Prelude.{Some, slice_get}
use Rattle.std.specs.List.{filter_map}
use Rattle.std.specs.Map.{values_of}
use Rattle.std.specs.Option.{option_and_then, option_to_list}
use Rattle.std.proofs.lemmas.List.{take_all}
use Rattle.std.proofs.lemmas.Option.{slice_get-get_or}
use Rattle.cs_types.specs.declared.Key.{Key}
use Rattle.cs_types.specs.declared.Value.{Value}
use Rattle.group_view.specs.declared.view.Place.{Place}
use Rattle.batch_aggregate.specs.Tallies.{all_joined, tally_of}
use Rattle.batch_aggregate.proofs.TallyLemmas.{tallies-append}
use Rattle.batch_scan.specs.Reads.{is_read}
use Rattle.row_work.specs.Reads.{rowed_at}
use Rattle.row_work.specs.Stores.{read_at_position}
use Rattle.row_work.proofs.Scanned.{read_more, values_append}
use Rattle.row_work.proofs.Stored.{row_there, stands_there}
use Rattle.row_work.proofs.listed.tallies_at.Goals as goal

pub row_at-requires : goal.row_at-requires
row_at-requires c =
    let pinned = c.args.pinned.now in
    let n = c.loop-position.position-index in
    stands_there pinned (is_read pinned) (record { group = c.args.group; position = get_or c.args.positions.now n 0 }) (c.requires n 0 c.loop-position-test.true)

pub loop-position-preserved : goal.loop-position-preserved
loop-position-preserved c =
    let pinned = c.args.pinned.now in
    let items = c.args.items.now in
    let f = read_at_position c.args.width pinned (rowed_at pinned.view c.args.group) in
    let positions = c.args.positions.now in
    let n = c.loop-position.position-index in
    let row = c.in_ok-row.row.now in
    let place : Place = record { group = c.args.group; position = get_or positions n 0 } in
    let there = row_there c.args.width pinned place row (c.requires n 0 c.loop-position-test.true) c.in_ok-row.ensures in
    let entry : Key × List Value = (there.0, row) in
    let front = filter_map f (take n positions) in
    let last : option_and_then f (slice_get positions n) ≡ Some entry = ap (option_and_then f) (slice_get-get_or positions n 0 c.loop-position-test.true) ∙ there.1 in
    let more : values_of front ++ row ∷ [] ≡ values_of (filter_map f (take (n + 1) positions)) =
    sym (values_append front (entry ∷ [])) ∙ ap (λ o. values_of (front ++ option_to_list o)) (sym last) ∙ ap values_of (sym (read_more f positions n)) in
    c.in_ok-add.ensures ∙ ap (λ tallies. all_joined tallies (map (tally_of (row ∷ [])) items)) c.loop-position.invariant ∙ tallies-append (values_of front) (row ∷ []) items
    ∙ ap (λ rows. map (tally_of rows) items) more

pub returns : goal.returns
returns c =
    let pinned = c.args.pinned.now in
    let f = read_at_position c.args.width pinned (rowed_at pinned.view c.args.group) in
    c.loop-position.invariant ∙ ap (λ list. map (tally_of (values_of (filter_map f list))) c.args.items.now) (take_all c.loop-position.position-index c.args.positions.now (omega (arith, c.loop-position-test.false)))
