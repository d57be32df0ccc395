-- What the tallies of groups show is the answer.
use Rattle.std.proofs.Common.{◌≡◌, ℕ, Bool, List, [], ◌∷◌, map, zip, refl, ap, ◌∙◌}
use Rattle.cs_types.specs.declared.Schema.{Schema}
use Rattle.cs_types.specs.declared.Value.{Value}
use Rattle.cs_model.specs.declared.plan.Item.{Item}
use Rattle.cs_model.specs.declared.plan.Item.TheVariants as item
use Rattle.cs_model.specs.declared.plan.Query.{Query}
use Rattle.cs_model.specs.Queries.{group_order, group_row, answer_rows, values_from, grouped_answer}
use Rattle.cs_model.specs.Groups.{Group, groups_of}
use Rattle.cs_model.specs.Items.{group_item}
use Rattle.cs_model.specs.Order.{in_order, comes_before}
use Rattle.answer_laws.proofs.Sorts.{in_order-map}
use Rattle.batch_aggregate.specs.declared.tally.Tally.{Tally}
use Rattle.batch_aggregate.specs.Tallies.{tally_of, shown}
use Rattle.batch_aggregate.specs.Standing.{Entry, entry_of, entries_of, entry_row, answer_of}

module _ (schema : Schema) (columns : List ℕ) (g : Group) where
  item-shown : (kind : Item) → shown schema columns g.0 kind (tally_of g.1 kind) ≡ group_item schema columns g kind
  item-shown (item.Column i) = refl
  item-shown item.CountAll = refl
  item-shown (item.Count i) = refl
  item-shown (item.Sum i) = refl
  item-shown (item.Min i) = refl
  item-shown (item.Max i) = refl
  item-shown (item.Avg i) = refl

  items-shown : (items : List Item) → map (λ (pair : Item × Tally). shown schema columns g.0 pair.0 pair.1) (zip items (map (tally_of g.1) items)) ≡ map (group_item schema columns g) items
  items-shown [] = refl
  items-shown (kind ∷ items) =
      ap (λ x. x ∷ map (λ (pair : Item × Tally). shown schema columns g.0 pair.0 pair.1) (zip items (map (tally_of g.1) items))) (item-shown kind)
      ∙ ap (λ xs. group_item schema columns g kind ∷ xs) (items-shown items)

rows-shown : (schema : Schema) (query : Query) (gs : List Group) → map (entry_row schema query) (map (entry_of query.items) gs) ≡ map (group_row schema query) gs
rows-shown schema query [] = refl
rows-shown schema query (g ∷ gs) =
    ap (λ values. values_from 1 values ∷ map (entry_row schema query) (map (entry_of query.items) gs)) (items-shown schema query.groups g query.items)
    ∙ ap (λ rs. group_row schema query g ∷ rs) (rows-shown schema query gs)

pub entries-shown : (schema : Schema) (query : Query) (rows : List (List Value)) → answer_of schema query (entries_of query rows) ≡ grouped_answer schema query rows
entries-shown schema query rows =
    let less : Group → Group → Bool = λ a b. comes_before (group_order query) a.0 b.0 in
    let below : Entry → Entry → Bool = λ a b. comes_before (group_order query) a.0 b.0 in
    ap (λ es. answer_rows 1 (map (entry_row schema query) es)) (in_order-map (entry_of query.items) less below (λ a b. refl) (groups_of query.groups rows))
    ∙ ap (answer_rows 1) (rows-shown schema query (in_order less (groups_of query.groups rows)))
