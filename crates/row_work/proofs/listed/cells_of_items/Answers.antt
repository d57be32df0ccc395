use Rattle.std.proofs.Common.{◌≡◌, ◌≤◌, List, map, sym, subst, arith}
use Rattle.std.specs.List.{All}
use Rattle.std.proofs.Math.Nat.{le-max_left, le-max_right, max-le}
use Rattle.std.proofs.lemmas.List.{take_all}
use Rattle.std.proofs.lemmas.List.Elements.{All-more}
use Rattle.cs_types.specs.Rows.{padded}
use Rattle.cs_model.specs.declared.plan.Item.{Item}
use Rattle.batch_aggregate.specs.Tallies.{tally_of}
use Rattle.row_work.proofs.Narrow.{same_each}
use Rattle.row_work.proofs.listed.cells_of_items.Goals as goal

pub loop-item-preserved : goal.loop-item-preserved
loop-item-preserved c =
    let items = c.args.items.now in
    let i = c.loop-item.item-index in
    let width = c.args.width in
    let more = c.cells_of_item.result in
    let count = c.loop-item.count in
    record {
      within = subst (λ k. k ≤ width) (sym c.max-count.ensures) (max-le c.cells_of_item.ensures.within c.loop-item.invariant.within);
      enough = λ n rows most within.
          let left : more ≤ c.max-count.result = subst (λ k. more ≤ k) (sym c.max-count.ensures) (le-max_left more count) in
          let right : count ≤ c.max-count.result = subst (λ k. count ≤ k) (sym c.max-count.ensures) (le-max_right more count) in
          All-more (λ (item : Item). tally_of (map (padded n) rows) item ≡ tally_of (map (padded width) rows) item) items i _ c.loop-item-test.true
          (c.loop-item.invariant.enough n rows (omega (arith, right, most)) within)
          (c.cells_of_item.ensures.enough n rows (omega (arith, left, most)) within);
    }

pub returns : goal.returns
returns c = λ rows.
    let items = c.args.items.now in
    let count = c.loop-item.count in
    let all = c.loop-item.invariant.enough count rows (omega arith) c.loop-item.invariant.within in
    let P : List Item → Type 0 = All (λ (item : Item). tally_of (map (padded count) rows) item ≡ tally_of (map (padded c.args.width) rows) item) in
    same_each (tally_of (map (padded count) rows)) (tally_of (map (padded c.args.width) rows)) items
    (subst P (take_all c.loop-item.item-index items (omega (arith, c.loop-item-test.false))) all)
