use Rattle.std.proofs.Common.{◌≡◌, ◌≤◌, ℕ, List, map, take}
use Rattle.std.specs.List.{All}
use Rattle.cs_types.specs.declared.Value.{Value}
use Rattle.cs_types.specs.Rows.{padded}
use Rattle.cs_model.specs.declared.plan.Item.{Item}
use Rattle.batch_aggregate.specs.Tallies.{tally_of}
use Rattle.row_work.proofs.listed.cells_of_items.Given as goal

abbrev pub invariant-loop-item : goal.invariant-loop-item
invariant-loop-item l = record {
  within : l.count ≤ l.width;
  enough : (n : ℕ) (rows : List (List Value)) → l.count ≤ n → n ≤ l.width → All (λ (item : Item). tally_of (map (padded n) rows) item ≡ tally_of (map (padded l.width) rows) item) (take l.item-index l.items);
}
