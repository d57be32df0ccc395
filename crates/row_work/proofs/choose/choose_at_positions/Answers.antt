use Rattle.std.proofs.Common.{◌≡◌, ◌∙◌, ◌++◌, ℕ, List, take, get_or, map, ap, sym, subst, arith}
use Rattle.std.specs.Prelude.{slice_get}
use Rattle.std.specs.List.{filter_map}
use Rattle.std.specs.Option.{option_and_then}
use Rattle.std.proofs.lemmas.List.{take_all}
use Rattle.std.proofs.lemmas.Option.{slice_get-get_or}
use Rattle.cs_model.specs.Queries.{keeps}
use Rattle.group_view.specs.declared.view.Place.{Place}
use Rattle.row_work.specs.declared.choose.Chosen.{Chosen}
use Rattle.row_work.specs.declared.choose.Source.TheVariants.{Shown}
use Rattle.row_work.specs.Reads.{read_row, rowed_at}
use Rattle.row_work.specs.Sources.{chosen_edit, IsShown}
use Rattle.row_work.specs.Stores.{read_at_position}
use Rattle.row_work.proofs.Found.{at_place}
use Rattle.row_work.proofs.Scanned.{chose_some, picked, read_more, read_stands, shown_more}
use Rattle.row_work.proofs.choose.choose_at_positions.Goals as goal

pub loop-position-preserved : goal.loop-position-preserved
loop-position-preserved c =
    let schema = c.args.schema.now in
    let condition = c.args.condition.now in
    let pinned = c.args.pinned.now in
    let width = c.len-width.result in
    let f = read_at_position width pinned (rowed_at pinned.view c.args.group) in
    let positions = c.args.positions.now in
    let n = c.loop-position.position-index in
    let p = get_or positions n 0 in
    let place : Place = record { group = c.args.group; position = p } in
    let key = c.in_ok-key.key in
    let row = c.in_ok-key.row.now in
    let one : Chosen = record { key = key; source = Shown place } in
    let initial = map (chosen_edit width pinned) c.args.chosen.now.items in
    let at = ap (option_and_then f) (slice_get-get_or positions n 0 c.loop-position-test.true) in
    let stands = read_stands width pinned place (key, row) (ap (option_and_then (read_row width pinned)) (at_place pinned.view c.args.group p) ∙ c.in_ok-key.ensures) in
    record {
      rows =
          chose_some width pinned schema condition c.loop-position.chosen.items c.choose_read.new.chosen.items initial (filter_map f (take n positions)) (option_and_then f (slice_get positions n)) one row
          (at ∙ c.in_ok-key.ensures) (ap (λ o. (key, o)) stands.0) c.loop-position.invariant.rows c.in_ok-choose_read.ensures
          ∙ ap (λ l. initial ++ picked schema condition l) (sym (read_more f positions n));
      shown = shown_more (IsShown pinned) (keeps schema condition row) c.loop-position.chosen.items c.choose_read.new.chosen.items one c.loop-position.invariant.shown stands.1 c.in_ok-choose_read.ensures;
    }

pub returns-clause-rows : goal.returns-clause-rows
returns-clause-rows c =
    let schema = c.args.schema.now in
    let condition = c.args.condition.now in
    let pinned = c.args.pinned.now in
    let positions = c.args.positions.now in
    let new = c.loop-position.chosen.items in
    let old = c.args.chosen.now.items in
    let after = λ (width : ℕ) (list : List ℕ). map (chosen_edit width pinned) old ++ picked schema condition (filter_map (read_at_position width pinned (rowed_at pinned.view c.args.group)) list) in
    let all = c.loop-position.invariant.rows ∙ ap (after c.len-width.result) (take_all c.loop-position.position-index positions (omega (arith, c.loop-position-test.false))) in
    subst (λ (width : ℕ). map (chosen_edit width pinned) new ≡ after width positions) c.len-width.ensures all
