use Rattle.std.proofs.Common.{◌≡◌, ◌+◌, ◌<◌, ◌≤◌, length, get_or, map, drop, zip, min, Option, None, Some, Err, sym, ap, subst, ◌∙◌, arith}
use Rattle.std.proofs.lemmas.List.{get_or_default}
use Rattle.std.proofs.lemmas.Slice.Zip.{length-zip}
use Rattle.cs_types.specs.declared.Loose.{Loose}
use Rattle.cs_model.specs.declared.plan.Item.{Item}
use Rattle.cs_model.specs.declared.plan.Item.TheVariants.{Column}
use Rattle.cs_model.specs.Queries.{values_from}
use Rattle.batch_aggregate.specs.declared.tally.Tally.{Tally}
use Rattle.batch_aggregate.specs.Tallies.{shown}
use Rattle.batch_aggregate.specs.Standing.{with_front, GivesRow}
use Rattle.batch_aggregate.proofs.RowLemmas.{pair_there, value-more, value-refused, values-end}
use Rattle.batch_aggregate.proofs.shown.entry_row.Goals as goal

pub returns-in-None : goal.returns-in-None
returns-in-None c =
    let items = c.args.query.now.items in
    let tallies = c.args.entry.now.1 in
    let f : Item × Tally → Option Loose = λ pair. shown c.args.schema.now c.args.query.now.groups c.args.entry.now.0 pair.0 pair.1 in
    let place = c.loop-place.place in
    let item = get_or c.as_slice-items.result.now place (Column 0) in
    let tally = c.index-tallies-place.result in
    let within : place < min (length items) (length tallies) =
    omega (arith, c.loop-place-test.true, c.min-place-end.ensures, ap length c.as_slice-items.ensures, ap length c.as_slice-tallies.ensures) in
    let there : place < length c.as_slice-items.result.now = omega (arith, c.loop-place-test.true, c.min-place-end.ensures) in
    let at_item : get_or items place item ≡ item = ap (λ l. get_or l place item) (sym c.as_slice-items.ensures) ∙ get_or_default c.as_slice-items.result.now place item (Column 0) there in
    let at_tally : get_or tallies place tally ≡ tally = ap (λ l. get_or l place tally) (sym c.as_slice-tallies.ensures) ∙ sym c.index-tallies-place.is in
    let none : f (item, tally) ≡ None =
    ap (λ columns. shown c.args.schema.now columns c.args.entry.now.0 item tally) (sym c.as_slice-groups.ensures) ∙ sym c.in_ok-value.ensures ∙ c.in-None.is in
    let whole = value-refused f (zip items tallies) place (item, tally) (pair_there items tallies place item tally within at_item at_tally) (place + 1) c.loop-place.values _ none c.loop-place.invariant in
    subst (GivesRow c.args.row (Err c.refused.result)) (sym whole) c.refused.ensures

pub loop-place-preserved : goal.loop-place-preserved
loop-place-preserved c =
    let items = c.args.query.now.items in
    let tallies = c.args.entry.now.1 in
    let f : Item × Tally → Option Loose = λ pair. shown c.args.schema.now c.args.query.now.groups c.args.entry.now.0 pair.0 pair.1 in
    let place = c.loop-place.place in
    let item = get_or c.as_slice-items.result.now place (Column 0) in
    let tally = c.index-tallies-place.result in
    let within : place < min (length items) (length tallies) =
    omega (arith, c.loop-place-test.true, c.min-place-end.ensures, ap length c.as_slice-items.ensures, ap length c.as_slice-tallies.ensures) in
    let there : place < length c.as_slice-items.result.now = omega (arith, c.loop-place-test.true, c.min-place-end.ensures) in
    let at_item : get_or items place item ≡ item = ap (λ l. get_or l place item) (sym c.as_slice-items.ensures) ∙ get_or_default c.as_slice-items.result.now place item (Column 0) there in
    let at_tally : get_or tallies place tally ≡ tally = ap (λ l. get_or l place tally) (sym c.as_slice-tallies.ensures) ∙ sym c.index-tallies-place.is in
    let some : f (item, tally) ≡ Some c.in-Some.value =
    ap (λ columns. shown c.args.schema.now columns c.args.entry.now.0 item tally) (sym c.as_slice-groups.ensures) ∙ sym c.in_ok-value.ensures ∙ c.in-Some.is in
    ap (λ values. with_front values (values_from ((place + 1) + 1) (map f (drop (place + 1) (zip items tallies))))) c.in_ok-push-in-Some.ensures.ok
    ∙ value-more f (zip items tallies) place (item, tally) (pair_there items tallies place item tally within at_item at_tally) (place + 1) c.loop-place.values c.in-Some.value _ some c.loop-place.invariant

pub returns : goal.returns
returns c =
    let items = c.args.query.now.items in
    let tallies = c.args.entry.now.1 in
    let f : Item × Tally → Option Loose = λ pair. shown c.args.schema.now c.args.query.now.groups c.args.entry.now.0 pair.0 pair.1 in
    let place = c.loop-place.place in
    let all : length (zip items tallies) ≤ place =
    omega (arith, length-zip items tallies, c.loop-place-test.false, c.min-place-end.ensures, ap length c.as_slice-items.ensures, ap length c.as_slice-tallies.ensures) in
    values-end f (zip items tallies) place (place + 1) c.loop-place.values _ all c.loop-place.invariant
