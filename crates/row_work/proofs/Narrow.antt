-- Rows in no more cells than items read.
use Rattle.std.proofs.Common.{◌≡◌, ◌∙◌, ℕ, suc, ◌<◌, inl, inr, Bool, true, false, not, cond, List, [], ◌∷◌, filter, length, map, refl, sym, ap}
use Rattle.std.specs.Prelude.{◌⊎◌, Option, None, Some, slice_get}
use Rattle.std.specs.List.{All, cons_option, filter_map}
use Rattle.std.specs.Map.{values_of}
use Rattle.std.specs.Option.{option_and_then}
use Rattle.std.proofs.lemmas.List.Elements.{All-head, All-tail}
use Rattle.cs_types.specs.declared.Value.{Value}
use Rattle.cs_types.specs.Rows.{cell_at, padded}
use Rattle.cs_types.proofs.PaddedLemmas.{padded_cell}
use Rattle.cs_model.specs.declared.plan.Item.{Item}
use Rattle.cs_model.specs.declared.plan.Item.TheVariants as item
use Rattle.cs_model.specs.Items.{greatest_of, is_null, least_of, present, sum_of}
use Rattle.batch_aggregate.specs.declared.tally.Tally.TheVariants.{Count, Sum, Least, Greatest}
use Rattle.batch_aggregate.specs.Tallies.{tally_of}
use Rattle.group_view.specs.declared.view.Pinned.{Pinned}
use Rattle.group_view.specs.Parts.{Rowed}
use Rattle.group_view.specs.Laws.{shown_row}
use Rattle.batch_scan.specs.Reads.{is_read}
use Rattle.row_work.specs.Reads.{read_row}
use Rattle.row_work.specs.Stores.{read_at_position}

-- ---- the cells of a column

cells_among : (n m column : ℕ) → column < n → column < m → (rows : List (List Value)) → map (λ row. cell_at row column) (map (padded n) rows) ≡ map (λ row. cell_at row column) (map (padded m) rows)
cells_among n m column in_n in_m [] = refl
cells_among n m column in_n in_m (row ∷ rows) =
    λ k. (padded_cell n row column in_n ∙ sym (padded_cell m row column in_m)) k ∷ cells_among n m column in_n in_m rows k

present_among : (n m column : ℕ) → column < n → column < m → (rows : List (List Value)) → present column (map (padded n) rows) ≡ present column (map (padded m) rows)
present_among n m column in_n in_m rows = ap (filter (λ cell. not (is_null cell))) (cells_among n m column in_n in_m rows)

as_many : (n m : ℕ) (rows : List (List Value)) → length (map (padded n) rows) ≡ length (map (padded m) rows)
as_many n m [] = refl
as_many n m (row ∷ rows) = ap suc (as_many n m rows)

-- ---- what items tally

abbrev IsReadBefore : ℕ → Item → Type 0
IsReadBefore n (item.Column i) = Unit {0}
IsReadBefore n item.CountAll = Unit {0}
IsReadBefore n (item.Count i) = i < n
IsReadBefore n (item.Sum i) = i < n
IsReadBefore n (item.Min i) = i < n
IsReadBefore n (item.Max i) = i < n
IsReadBefore n (item.Avg i) = i < n

same_tally : (n m : ℕ) (rows : List (List Value)) (one : Item) → IsReadBefore n one → IsReadBefore m one → tally_of (map (padded n) rows) one ≡ tally_of (map (padded m) rows) one
same_tally n m rows (item.Column i) in_n in_m = refl
same_tally n m rows item.CountAll in_n in_m = ap Count (as_many n m rows)
same_tally n m rows (item.Count i) in_n in_m = ap (λ cells. Count (length cells)) (present_among n m i in_n in_m rows)
same_tally n m rows (item.Sum i) in_n in_m = ap (λ cells. Sum (length cells, sum_of cells)) (present_among n m i in_n in_m rows)
same_tally n m rows (item.Min i) in_n in_m = ap (λ cells. Least (least_of cells)) (present_among n m i in_n in_m rows)
same_tally n m rows (item.Max i) in_n in_m = ap (λ cells. Greatest (greatest_of cells)) (present_among n m i in_n in_m rows)
same_tally n m rows (item.Avg i) in_n in_m = ap (λ cells. Sum (length cells, sum_of cells)) (present_among n m i in_n in_m rows)

same_as : (n m : ℕ) (rows : List (List Value)) (one other : Item) → one ≡ other → IsReadBefore n other → IsReadBefore m other → tally_of (map (padded n) rows) one ≡ tally_of (map (padded m) rows) one
same_as n m rows one other is in_n in_m = ap (tally_of (map (padded n) rows)) is ∙ same_tally n m rows other in_n in_m ∙ sym (ap (tally_of (map (padded m) rows)) is)

-- an item that names a column
pub same_named : (n m column : ℕ) (rows : List (List Value)) (one : Item) → column < n → column < m
    → (one ≡ item.Count column) ⊎ ((one ≡ item.Sum column) ⊎ ((one ≡ item.Min column) ⊎ ((one ≡ item.Max column) ⊎ (one ≡ item.Avg column))))
    → tally_of (map (padded n) rows) one ≡ tally_of (map (padded m) rows) one
same_named n m column rows one in_n in_m (inl is) = same_as n m rows one (item.Count column) is in_n in_m
same_named n m column rows one in_n in_m (inr (inl is)) = same_as n m rows one (item.Sum column) is in_n in_m
same_named n m column rows one in_n in_m (inr (inr (inl is))) = same_as n m rows one (item.Min column) is in_n in_m
same_named n m column rows one in_n in_m (inr (inr (inr (inl is)))) = same_as n m rows one (item.Max column) is in_n in_m
same_named n m column rows one in_n in_m (inr (inr (inr (inr is)))) = same_as n m rows one (item.Avg column) is in_n in_m

-- functions that agree on each element
pub same_each : {X Y : Type 0} (f g : X → Y) (xs : List X) → All (λ x. f x ≡ g x) xs → map f xs ≡ map g xs
same_each f g [] all = refl
same_each f g (x ∷ xs) all = λ k. All-head (λ y. f y ≡ g y) x xs all k ∷ same_each f g xs (All-tail (λ y. f y ≡ g y) x xs all) k

-- ---- the rows that are read at positions

module _ (pinned : Pinned) where
  abbrev whole_row : Rowed → Option (List Value)
  whole_row rowed = cond (is_read pinned rowed) (Some rowed.row) None

  module _ (versions : List Rowed) where
    abbrev pub whole_rows : List ℕ → List (List Value)
    whole_rows = filter_map (λ position. option_and_then whole_row (slice_get versions position))

    -- in so many cells they are the whole ones in as many
    pub in_cells : (n : ℕ) (positions : List ℕ) → values_of (filter_map (read_at_position n pinned versions) positions) ≡ map (padded n) (whole_rows positions)
    in_cells n [] = refl
    in_cells n (position ∷ positions) = step (slice_get versions position) (in_cells n positions)
      where
        one : (rowed : Rowed) (t : Bool) → values_of (filter_map (read_at_position n pinned versions) positions) ≡ map (padded n) (whole_rows positions)
            → values_of (cons_option (cond t (Some (shown_row n rowed)) None) (filter_map (read_at_position n pinned versions) positions)) ≡ map (padded n) (cons_option (cond t (Some rowed.row) None) (whole_rows positions))
        one rowed true rest = ap (λ (rows : List (List Value)). padded n rowed.row ∷ rows) rest
        one rowed false rest = rest

        step : (o : Option Rowed) → values_of (filter_map (read_at_position n pinned versions) positions) ≡ map (padded n) (whole_rows positions)
            → values_of (cons_option (option_and_then (read_row n pinned) o) (filter_map (read_at_position n pinned versions) positions)) ≡ map (padded n) (cons_option (option_and_then whole_row o) (whole_rows positions))
        step None rest = rest
        step (Some rowed) rest = one rowed (is_read pinned rowed) rest
