use Rattle.std.proofs.Common.{◌∙◌, ◌++◌, List, take, get_or, ap, sym, subst, refl, arith}
use Rattle.std.specs.Prelude.{Some, slice_get}
use Rattle.std.specs.List.{filter_map}
use Rattle.std.specs.Map.{values_of}
use Rattle.std.specs.Option.{option_and_then}
use Rattle.std.proofs.lemmas.List.{take_all}
use Rattle.std.proofs.lemmas.Option.{slice_get-get_or}
use Rattle.cs_types.specs.declared.Key.{Key}
use Rattle.cs_types.specs.declared.Value.{Value}
use Rattle.batch_aggregate.specs.Standing.{StandsFor}
use Rattle.group_view.specs.declared.view.Place.{Place}
use Rattle.batch_scan.specs.Reads.{is_read}
use Rattle.row_work.specs.Reads.{rowed_at}
use Rattle.row_work.specs.Stores.{read_at_position}
use Rattle.row_work.proofs.Scanned.{more_some, read_more}
use Rattle.row_work.proofs.Stored.{row_there, stands_there}
use Rattle.row_work.proofs.listed.add_at_positions.Goals as goal

pub row_at-requires : goal.row_at-requires
row_at-requires c =
    let pinned = c.args.pinned.now in
    let n = c.loop-position.position-index in
    stands_there pinned (is_read pinned) (record { group = c.args.group; position = get_or c.args.positions.now n 0 }) (c.requires n 0 c.loop-position-test.true)

pub loop-position-preserved : goal.loop-position-preserved
loop-position-preserved c =
    let pinned = c.args.pinned.now in
    let f = read_at_position c.args.width pinned (rowed_at pinned.view c.args.group) in
    let positions = c.args.positions.now in
    let n = c.loop-position.position-index in
    let front = filter_map f (take n positions) in
    let last = option_and_then f (slice_get positions n) in
    let at = ap (option_and_then f) (slice_get-get_or positions n 0 c.loop-position-test.true) in
    let more = read_more f positions n in
    let place : Place = record { group = c.args.group; position = get_or positions n 0 } in
    let there = row_there c.args.width pinned place c.in_ok-row.row.now (c.requires n 0 c.loop-position-test.true) c.in_ok-row.ensures in
    let entry : Key × List Value = (there.0, c.in_ok-row.row.now) in
    let itself : Key × List Value → Key × List Value = λ e. e in
    let made = sym (at ∙ there.1) in
    record {
      schema = c.in_ok-add.ensures.schema ∙ c.loop-position.invariant.schema;
      query = c.in_ok-add.ensures.query ∙ c.loop-position.invariant.query;
      added = λ rows stands.
          subst (λ l. StandsFor c.add.new.self (rows ++ values_of l)) (sym more)
          (more_some (StandsFor c.loop-position.partial) (StandsFor c.add.new.self) front itself (Some entry) entry last made refl (λ front_rows before. rw c.in_ok-add.was at (c.add.ensures.added front_rows before)) rows
          (c.loop-position.invariant.added rows stands));
    }

pub returns-clause-added : goal.returns-clause-added
returns-clause-added c = λ rows stands.
    let pinned = c.args.pinned.now in
    let f = read_at_position c.args.width pinned (rowed_at pinned.view c.args.group) in
    subst (λ l. StandsFor c.loop-position.partial (rows ++ values_of (filter_map f l))) (take_all c.loop-position.position-index c.args.positions.now (omega (arith, c.loop-position-test.false))) (c.loop-position.invariant.added rows stands)
