use Rattle.std.proofs.Common.{◌∙◌, [], List, take, map, get_or, pos, ap, sym, subst}
use Rattle.std.specs.Prelude.{slice_get}
use Rattle.std.specs.Borrow.{Bor}
use Rattle.std.specs.List.{All, filter_map}
use Rattle.std.specs.Option.{option_and_then, option_map}
use Rattle.std.proofs.lemmas.Option.{slice_get-get_or}
use Rattle.cs_types.specs.declared.Key.{Key}
use Rattle.cs_types.specs.declared.Value.{Value}
use Rattle.cs_model.specs.Queries.{keeps}
use Rattle.row_work.specs.declared.choose.Chosen.{Chosen}
use Rattle.row_work.specs.declared.choose.Source.{Source}
use Rattle.row_work.specs.Named.{entry_at}
use Rattle.row_work.specs.Reads.{read_by}
use Rattle.row_work.specs.Sources.{chosen_edit, IsShown}
use Rattle.row_work.proofs.Scanned.{chose_none, chose_some, picked, read_more, shown_more}
use Rattle.row_work.proofs.choose.choose_at_keys.Goals as goal
use Rattle.row_work.proofs.choose.choose_at_keys.Goals.{in-Some+in_ok-choose_read, in_default}

-- what a slice is read with past its end
abbrev d : Key
d = record { 0 = pos 0 }

pub loop-key-preserved : goal.loop-key-preserved
loop-key-preserved c =
    let schema = c.args.schema.now in
    let condition = c.args.condition.now in
    let pinned = c.args.pinned.now in
    let width = c.len-width.result in
    let f = entry_at (read_by width pinned) in
    let keys = c.args.keys.now in
    let n = c.loop-key.key-index in
    let key = get_or keys n d in
    let front = filter_map f (take n keys) in
    let last = option_and_then f (slice_get keys n) in
    let row_of_read : Source × Bor (List Value) → List Value = λ found. found.1.now in
    let under : List Value → Key × List Value = λ row. (key, row) in
    let at = ap (option_and_then f) (slice_get-get_or keys n d c.loop-key-test.true) in
    let more = ap (picked schema condition) (sym (read_more f keys n)) in
    elim c.match-branch-2.branch [
      | in-Some+in_ok-choose_read w ↦
          let row = w.in-Some.row.now in
          let one : Chosen = record { key = key; source = w.in-Some.source } in
          let was = ap (option_map under) (sym c.in_ok-source.ensures.row ∙ ap (option_map row_of_read) w.in-Some.is) in
          let stands = rw w.in-Some.is at c.in_ok-source.ensures.stands in
          record {
            rows = ap (λ list. map (chosen_edit width pinned) list.items) w.chosen-is
                ∙ chose_some width pinned schema condition c.loop-key.chosen.items w.choose_read.new.chosen.items [] front last one row (at ∙ was) (ap (λ o. (key, o)) stands) c.loop-key.invariant.rows w.in_ok-choose_read.ensures
                ∙ more;
            shown = subst (λ list. All (IsShown pinned) list.items) (sym w.chosen-is)
                (shown_more (IsShown pinned) (keeps schema condition row) c.loop-key.chosen.items w.choose_read.new.chosen.items one c.loop-key.invariant.shown (rw w.in-Some.is at c.in_ok-source.ensures.shown) w.in_ok-choose_read.ensures);
          }
      | in_default w ↦ record {
        rows = ap (λ list. map (chosen_edit width pinned) list.items) w.chosen-is
            ∙ chose_none width pinned schema condition c.loop-key.chosen.items [] front last (at ∙ ap (option_map under) (sym c.in_ok-source.ensures.row ∙ ap (option_map row_of_read) w.in_default.is)) c.loop-key.invariant.rows ∙ more;
        shown = subst (λ list. All (IsShown pinned) list.items) (sym w.chosen-is) c.loop-key.invariant.shown;
      }
    ]
