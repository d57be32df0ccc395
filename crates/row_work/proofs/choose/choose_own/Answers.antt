use Rattle.std.proofs.Common.{◌∙◌, ◌++◌, List, length, take, map, ap, sym, subst}
use Rattle.std.specs.Prelude.{slice_get}
use Rattle.std.specs.List.{All, filter_map}
use Rattle.std.specs.Option.{option_and_then, option_map}
use Rattle.cs_types.specs.declared.Value.{Value}
use Rattle.cs_model.specs.Queries.{keeps}
use Rattle.write_set.specs.declared.write.Write.{Write}
use Rattle.row_work.specs.declared.choose.Chosen.{Chosen}
use Rattle.row_work.specs.declared.choose.Source.TheVariants.{Own}
use Rattle.row_work.specs.Reads.{own_row}
use Rattle.row_work.specs.Sources.{chosen_edit, IsShown}
use Rattle.row_work.proofs.Scanned.{chose_none, chose_some, picked, read_more, shown_more}
use Rattle.row_work.proofs.choose.choose_own.Goals as goal
use Rattle.row_work.proofs.choose.choose_own.Goals.{in-Some+in_ok-choose_read, in_default}

pub loop-i-preserved : goal.loop-i-preserved
loop-i-preserved c =
    let schema = c.args.schema.now in
    let condition = c.args.condition.now in
    let pinned = c.args.pinned.now in
    let own = pinned.own in
    let width = length schema.columns in
    let n = c.loop-i.i in
    let write = c.get-write.result.now in
    let front = filter_map own_row (take n own) in
    let last = option_and_then own_row (slice_get own n) in
    let initial = map (chosen_edit width pinned) c.args.chosen.now.items in
    let there = c.get-write.ensures in
    let at = ap (option_and_then own_row) there in
    let more = ap (λ l. initial ++ picked schema condition l) (sym (read_more own_row own n)) in
    elim c.match-write.branch [
      | in-Some+in_ok-choose_read w ↦
          let row = w.in-Some.row in
          let one : Chosen = record { key = write.key; source = Own n } in
          let stands = ap (option_and_then (λ (wrote : Write). wrote.row)) there ∙ w.in-Some.is in
          record {
            rows = ap (λ list. map (chosen_edit width pinned) list.items) w.chosen-is
                ∙ chose_some width pinned schema condition c.loop-i.chosen.items w.choose_read.new.chosen.items initial front last one row (at ∙ ap (option_map (λ (r : List Value). (write.key, r))) w.in-Some.is)
                (ap (λ o. (write.key, o)) stands) c.loop-i.invariant.rows w.in_ok-choose_read.ensures
                ∙ more;
            shown = subst (λ list. All (IsShown pinned) list.items) (sym w.chosen-is)
                (shown_more (IsShown pinned) (keeps schema condition row) c.loop-i.chosen.items w.choose_read.new.chosen.items one c.loop-i.invariant.shown tt w.in_ok-choose_read.ensures);
          }
      | in_default w ↦ record {
        rows = ap (λ list. map (chosen_edit width pinned) list.items) w.chosen-is
            ∙ chose_none width pinned schema condition c.loop-i.chosen.items initial front last (at ∙ ap (option_map (λ (r : List Value). (write.key, r))) w.in_default.is) c.loop-i.invariant.rows ∙ more;
        shown = subst (λ list. All (IsShown pinned) list.items) (sym w.chosen-is) c.loop-i.invariant.shown;
      }
    ]
