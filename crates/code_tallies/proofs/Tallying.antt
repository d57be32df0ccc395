-- The tallies of a key number by the counts, sums and codes of a column.
use Rattle.std.proofs.Common.{◌≡◌, ℕ, ℤ, length, ◌∙◌, ap}
use Rattle.cs_model.specs.declared.plan.Item.TheVariants as item
use Rattle.cs_model.specs.Items.{present}
use Rattle.row_group.specs.Groups.{Group}
use Rattle.batch_aggregate.specs.declared.tally.Tally.TheVariants as tally
use Rattle.batch_aggregate.specs.Tallies.{tally_of}
use Rattle.code_tallies.specs.declared.chosen.Chosen.{Chosen}
use Rattle.code_tallies.specs.declared.column.Column.{Column}
use Rattle.code_tallies.specs.Shown.{rows_at}
use Rattle.code_tallies.specs.Columns.{IsColumnOf, shown_code}
use Rattle.code_tallies.specs.Keys.{key_at}
use Rattle.code_tallies.specs.Tables.{is_chosen, present_positions, key_positions, sum_at, least_at, greatest_at}
use Rattle.code_tallies.proofs.First.{InOrder}
use Rattle.code_tallies.proofs.Present.{count-is, sum-is}
use Rattle.code_tallies.proofs.Picked.{least-is, greatest-is}

module _ (group : Group) (place : ℕ) (column : Column) (is : IsColumnOf group place column) (chosen : Chosen) (long : chosen.length ≡ length group.rows) (k count : ℕ) (counted : count ≡ length (present_positions chosen column k chosen.length)) where
  counts : count ≡ length (present place (rows_at group (key_positions chosen k)))
  counts = counted ∙ count-is group place column (is_chosen chosen) (key_at chosen.keys.items) k chosen.length is long

  pub count-tally : tally.Count count ≡ tally_of (rows_at group (key_positions chosen k)) (item.Count place)
  count-tally = ap tally.Count counts

  pub sum-tally : (sum : ℤ) → sum ≡ sum_at column (present_positions chosen column k chosen.length) → tally.Sum (count, sum) ≡ tally_of (rows_at group (key_positions chosen k)) (item.Sum place)
  sum-tally sum summed =
      ap (λ n. tally.Sum (n, sum)) counts
      ∙ ap (λ s. tally.Sum (length (present place (rows_at group (key_positions chosen k))), s)) (summed ∙ sum-is group place column (is_chosen chosen) (key_at chosen.keys.items) k chosen.length is long)

  pub least-tally : InOrder → (code : ℕ) → code ≡ least_at column (present_positions chosen column k chosen.length) → tally.Least (shown_code column count code) ≡ tally_of (rows_at group (key_positions chosen k)) (item.Min place)
  least-tally in_order code kept =
      ap (λ n. tally.Least (shown_code column n code)) counted
      ∙ ap (λ c. tally.Least (shown_code column (length (present_positions chosen column k chosen.length)) c)) kept
      ∙ ap tally.Least (least-is group place column is in_order (is_chosen chosen) (key_at chosen.keys.items) k chosen.length long)

  pub greatest-tally : InOrder → (code : ℕ) → code ≡ greatest_at column (present_positions chosen column k chosen.length) → tally.Greatest (shown_code column count code) ≡ tally_of (rows_at group (key_positions chosen k)) (item.Max place)
  greatest-tally in_order code kept =
      ap (λ n. tally.Greatest (shown_code column n code)) counted
      ∙ ap (λ c. tally.Greatest (shown_code column (length (present_positions chosen column k chosen.length)) c)) kept
      ∙ ap tally.Greatest (greatest-is group place column is in_order (is_chosen chosen) (key_at chosen.keys.items) k chosen.length long)
