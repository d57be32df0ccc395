use Rattle.std.proofs.Common.{◌∙◌, ◌++◌, List, take, map, ap, sym, subst}
use Rattle.std.specs.Prelude.{slice_get}
use Rattle.std.specs.Borrow.{Bor}
use Rattle.std.specs.List.{All, filter_map}
use Rattle.std.specs.Option.{option_and_then, option_map}
use Rattle.cs_types.specs.declared.Key.{Key}
use Rattle.cs_types.specs.declared.Value.{Value}
use Rattle.cs_model.specs.Queries.{keeps}
use Rattle.group_view.specs.declared.view.Place.{Place}
use Rattle.row_work.specs.declared.choose.Chosen.{Chosen}
use Rattle.row_work.specs.declared.choose.Source.TheVariants.{Shown}
use Rattle.row_work.specs.Reads.{read_row, rowed_at}
use Rattle.row_work.specs.Sources.{chosen_edit, IsShown}
use Rattle.row_work.proofs.Found.{at_place}
use Rattle.row_work.proofs.Scanned.{chose_none, chose_some, picked, read_more, read_stands, shown_more}
use Rattle.row_work.proofs.choose.choose_versions.Goals as goal
use Rattle.row_work.proofs.choose.choose_versions.Goals.{in-Some+in_ok-choose_read, in_default}

pub loop-position-preserved : goal.loop-position-preserved
loop-position-preserved c =
    let schema = c.args.schema.now in
    let condition = c.args.condition.now in
    let pinned = c.args.pinned.now in
    let width = c.len-width.result in
    let f = read_row width pinned in
    let versions = rowed_at pinned.view c.args.group in
    let n = c.loop-position.position in
    let place : Place = record { group = c.args.group; position = n } in
    let front = filter_map f (take n versions) in
    let last = option_and_then f (slice_get versions n) in
    let initial = map (chosen_edit width pinned) c.args.chosen.now.items in
    let entry : Key × Bor (List Value) → Key × List Value = λ read. (read.0, read.1.now) in
    let at = ap (option_and_then f) (at_place pinned.view c.args.group n) in
    let more = ap (λ l. initial ++ picked schema condition l) (sym (read_more f versions n)) in
    elim c.match-branch-2.branch [
      | in-Some+in_ok-choose_read w ↦
          let key = w.in-Some.key in
          let row = w.in-Some.row.now in
          let one : Chosen = record { key = key; source = Shown place } in
          let was = sym c.in_ok-key.ensures ∙ ap (option_map entry) w.in-Some.is in
          let stands = read_stands width pinned place (key, row) was in
          record {
            rows = ap (λ list. map (chosen_edit width pinned) list.items) w.chosen-is
                ∙ chose_some width pinned schema condition c.loop-position.chosen.items w.choose_read.new.chosen.items initial front last one row (sym at ∙ was) (ap (λ o. (key, o)) stands.0) c.loop-position.invariant.rows w.in_ok-choose_read.ensures
                ∙ more;
            shown = subst (λ list. All (IsShown pinned) list.items) (sym w.chosen-is)
                (shown_more (IsShown pinned) (keeps schema condition row) c.loop-position.chosen.items w.choose_read.new.chosen.items one c.loop-position.invariant.shown stands.1 w.in_ok-choose_read.ensures);
          }
      | in_default w ↦ record {
        rows = ap (λ list. map (chosen_edit width pinned) list.items) w.chosen-is
            ∙ chose_none width pinned schema condition c.loop-position.chosen.items initial front last (sym at ∙ sym c.in_ok-key.ensures ∙ ap (option_map entry) w.in_default.is) c.loop-position.invariant.rows ∙ more;
        shown = subst (λ list. All (IsShown pinned) list.items) (sym w.chosen-is) c.loop-position.invariant.shown;
      }
    ]
