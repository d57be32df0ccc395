-- The least and the greatest cell of a segment are those of all rows.
use Rattle.std.proofs.Common.{◌≡◌, ◌≢◌, ℕ, zero, suc, ◌<◌, ◌⊎◌, ◌∙◌, List, length, [], ◌∷◌, Bool, true, false, not, ◌&&◌, ◌||◌, cond, map, filter, fold, refl, sym, ap, subst, arith, true≢false, inl, inr, All, Contains}
use Rattle.std.specs.Prelude.{slice_index_or, ◌==◌}
use Rattle.std.specs.List.{range_with_len}
use Rattle.std.proofs.lemmas.List.{ext_get_or, get_or-map, length-map}
use Rattle.std.proofs.lemmas.List.FromFn.{length-map-range_with_len, get_or-map-range_with_len}
use Rattle.std.specs.declared.cmp.Ordering.{Ordering}
use Rattle.std.specs.declared.cmp.Ordering.TheVariants.{Less, Equal, Greater}
use Rattle.std.specs.Ordering.{is_lt, is_gt, is_eq, ordering_reverse}
use Rattle.std.proofs.lemmas.Bool.{cases_Bool, cond-true, cond-false}
use Rattle.std.proofs.lemmas.List.Elements.{All-head, All-tail, All-weaker}
use Rattle.cs_types.specs.declared.Value.{Value}
use Rattle.cs_types.specs.declared.Value.TheVariants.{Null, Number, Text}
use Rattle.cs_types.specs.Values.{value_cmp}
use Rattle.cs_types.specs.Rows.{cell_at}
use Rattle.cs_model.specs.declared.plan.Item.TheVariants as item
use Rattle.cs_model.specs.Items.{is_null, present, least_of, greatest_of}
use Rattle.answer_laws.proofs.Orders.{value_total, value_decides}
use Rattle.column_segment.specs.Cells.{IsLeastCell, IsGreatestCell}
use Rattle.row_group.specs.Groups.{Group}
use Rattle.row_group.specs.Rows.{column_of}
use Rattle.batch_aggregate.specs.declared.tally.Tally.TheVariants as tally
use Rattle.batch_aggregate.specs.Tallies.{tally_of}
use Rattle.code_tallies.specs.declared.chosen.Chosen.{Chosen}
use Rattle.code_tallies.specs.Shown.{cells_at, rows_at}
use Rattle.code_tallies.specs.Keys.{key_at, key_count}
use Rattle.code_tallies.specs.Tables.{is_chosen, key_positions}

abbrev no_nulls : List Value → List Value
no_nulls = filter (λ cell. not (is_null cell))

null_is : (v : Value) → is_null v ≡ true → v ≡ Null
null_is Null e = refl
null_is (Number n) e = absurd (true≢false (sym e))
null_is (Text t) e = absurd (true≢false (sym e))

is_none : (v : Value) → v ≢ Null → is_null v ≡ false
is_none Null some = absurd (some refl)
is_none (Number n) some = refl
is_none (Text t) some = refl

none_is : (v : Value) → is_null v ≡ false → v ≢ Null
none_is v e same = true≢false (sym (ap is_null same) ∙ e)

-- one of the cells that is not NULL, before which none comes
module _ (before : Value → Value → Bool) (one : (x y : Value) → before x y ≡ false → before y x ≡ false → x ≡ y) (best : Value) (some : is_null best ≡ false) where
  abbrev step : Value → Value → Value
  step a b = cond (is_null a || before b a) b a

  abbrev NoneBefore : List Value → Type 0
  NoneBefore cells = All (λ cell. cell ≢ Null → before cell best ≡ false) cells

  stays : (cells : List Value) → NoneBefore cells → fold step best (no_nulls cells) ≡ best
  stays [] none = refl
  stays (cell ∷ cells) none = elim (cases_Bool (is_null cell)) [
    | inl null ↦ ap (fold step best) (cond-false _ _ _ (ap not null)) ∙ stays cells (All-tail (λ cell. cell ≢ Null → before cell best ≡ false) cell cells none)
    | inr there ↦
        ap (fold step best) (cond-true _ _ _ (ap not there))
        ∙ ap (λ v. fold step v (no_nulls cells))
        (ap (λ n. cond (n || before cell best) cell best) some
        ∙ cond-false _ cell best (All-head (λ cell. cell ≢ Null → before cell best ≡ false) cell cells none (none_is cell there)))
        ∙ stays cells (All-tail (λ cell. cell ≢ Null → before cell best ≡ false) cell cells none)
  ]

  -- not a cell after it
  abbrev IsLow : Value → Type 0
  IsLow v = (is_null v ≡ true) ⊎ (before v best ≡ false)

  at_best : (v : Value) → IsLow v → step v best ≡ best
  at_best v (inl null) = cond-true _ best v (ap (λ n. n || before best v) null)
  at_best v (inr low) = elim (cases_Bool (is_null v)) [
    | inl null ↦ cond-true _ best v (ap (λ n. n || before best v) null)
    | inr there ↦ elim (cases_Bool (before best v)) [
      | inl first ↦ cond-true _ best v (ap (λ n. n || before best v) there ∙ first)
      | inr tied ↦ cond-false _ best v (ap (λ n. n || before best v) there ∙ tied) ∙ one v best low tied
    ]
  ]

  low_after : (v cell : Value) → IsLow v → before cell best ≡ false → IsLow (step v cell)
  low_after v cell low next = elim (cases_Bool (is_null v || before cell v)) [
    | inl taken ↦ subst IsLow (sym (cond-true _ cell v taken)) (inr next)
    | inr kept ↦ subst IsLow (sym (cond-false _ cell v kept)) low
  ]

  reached_at : (cells : List Value) (k : ℕ) → k < length cells → slice_index_or cells k best ≡ best → NoneBefore cells → (v : Value) → IsLow v → fold step v (no_nulls cells) ≡ best
  reached_at [] k within here none v low = absurd (omega (arith, within))
  reached_at (cell ∷ cells) zero within here none v low =
      ap (fold step v) (cond-true _ _ _ (ap (λ c. not (is_null c)) here ∙ ap not some))
      ∙ ap (λ w. fold step w (no_nulls cells)) (ap (step v) here ∙ at_best v low)
      ∙ stays cells (All-tail (λ cell. cell ≢ Null → before cell best ≡ false) cell cells none)
  reached_at (cell ∷ cells) (suc k) within here none v low = elim (cases_Bool (is_null cell)) [
    | inl null ↦
        ap (fold step v) (cond-false _ _ _ (ap not null))
        ∙ reached_at cells k (omega (arith, within)) here (All-tail (λ cell. cell ≢ Null → before cell best ≡ false) cell cells none) v low
    | inr there ↦
        ap (fold step v) (cond-true _ _ _ (ap not there))
        ∙ reached_at cells k (omega (arith, within)) here (All-tail (λ cell. cell ≢ Null → before cell best ≡ false) cell cells none) (step v cell)
        (low_after v cell low (All-head (λ cell. cell ≢ Null → before cell best ≡ false) cell cells none (none_is cell there)))
  ]

  is-best : (cells : List Value) → Contains cells best → NoneBefore cells → fold step Null (no_nulls cells) ≡ best
  is-best cells there none = reached_at cells there.0 there.1 there.2 none Null (inl refl)

-- where all are NULL there is none
none-best : (before : Value → Value → Bool) (cells : List Value) → All (λ cell. cell ≡ Null) cells → fold (λ a b. cond (is_null a || before b a) b a) Null (no_nulls cells) ≡ Null
none-best before [] all = refl
none-best before (cell ∷ cells) all =
    ap (fold (λ a b. cond (is_null a || before b a) b a) Null) (cond-false _ _ _ (ap (λ c. not (is_null c)) (All-head (λ cell. cell ≡ Null) cell cells all)))
    ∙ none-best before cells (All-tail (λ cell. cell ≡ Null) cell cells all)

not_less : (r : Ordering) → ordering_reverse r ≢ Greater → is_lt r ≡ false
not_less Less other = absurd (other refl)
not_less Equal other = refl
not_less Greater other = refl

not_greater : (r : Ordering) → r ≢ Greater → is_gt r ≡ false
not_greater Less other = refl
not_greater Equal other = refl
not_greater Greater other = absurd (other refl)

tied : (x y : Value) (r : Ordering) → value_cmp x y ≡ r → is_lt r ≡ false → is_gt r ≡ false → x ≡ y
tied x y Less e low high = absurd (true≢false low)
tied x y Equal e low high = (value_decides x y).0 (ap is_eq e)
tied x y Greater e low high = absurd (true≢false high)

turned : (r : Ordering) → is_lt (ordering_reverse r) ≡ is_gt r
turned Less = refl
turned Equal = refl
turned Greater = refl

turned_too : (r : Ordering) → is_gt (ordering_reverse r) ≡ is_lt r
turned_too Less = refl
turned_too Equal = refl
turned_too Greater = refl

less_one : (x y : Value) → is_lt (value_cmp x y) ≡ false → is_lt (value_cmp y x) ≡ false → x ≡ y
less_one x y low high = tied x y (value_cmp x y) refl low (sym (turned (value_cmp x y)) ∙ ap is_lt (sym (value_total.antisymm y x)) ∙ high)

more_one : (x y : Value) → is_gt (value_cmp x y) ≡ false → is_gt (value_cmp y x) ≡ false → x ≡ y
more_one x y high low = tied x y (value_cmp x y) refl (sym (turned_too (value_cmp x y)) ∙ ap is_gt (sym (value_total.antisymm y x)) ∙ low) high

pub least-cell : (cells : List Value) (least : Value) → IsLeastCell cells least → least_of (no_nulls cells) ≡ least
least-cell cells least is = elim (cases_Bool (is_null least)) [
  | inl null ↦ none-best (λ x y. is_lt (value_cmp x y)) cells (is.0 (null_is least null)) ∙ sym (null_is least null)
  | inr there ↦
      let found = is.1 (none_is least there) in
      is-best (λ x y. is_lt (value_cmp x y)) less_one least there cells found.0
      (All-weaker (λ cell. cell ≢ Null → value_cmp least cell ≢ Greater) (λ cell. cell ≢ Null → is_lt (value_cmp cell least) ≡ false)
      (λ cell first some. not_less (value_cmp cell least) (λ e. first some (value_total.antisymm least cell ∙ e))) cells found.1)
]

pub greatest-cell : (cells : List Value) (greatest : Value) → IsGreatestCell cells greatest → greatest_of (no_nulls cells) ≡ greatest
greatest-cell cells greatest is = elim (cases_Bool (is_null greatest)) [
  | inl null ↦ none-best (λ x y. is_gt (value_cmp x y)) cells (is.0 (null_is greatest null)) ∙ sym (null_is greatest null)
  | inr there ↦
      let found = is.1 (none_is greatest there) in
      is-best (λ x y. is_gt (value_cmp x y)) more_one greatest there cells found.0
      (All-weaker (λ cell. cell ≢ Null → value_cmp cell greatest ≢ Greater) (λ cell. cell ≢ Null → is_gt (value_cmp cell greatest) ≡ false)
      (λ cell last some. not_greater (value_cmp cell greatest) (last some)) cells found.1)
]

kept_all : (p : ℕ → Bool) → ((i : ℕ) → p i ≡ true) → (at : List ℕ) → filter p at ≡ at
kept_all p passes [] = refl
kept_all p passes (i ∷ at) = cond-true _ _ _ (passes i) ∙ ap (λ l. i ∷ l) (kept_all p passes at)

-- the cells of a column in all rows
cells_of_all : (group : Group) (place n : ℕ) → n ≡ length group.rows → map (λ row. cell_at row place) (rows_at group (range_with_len 0 n)) ≡ column_of group.rows place
cells_of_all group place n all =
    let at = rows_at group (range_with_len 0 n) in
    let counted : length at ≡ n = length-map-range_with_len (cells_at group) 0 n in
    ext_get_or Null (map (λ row. cell_at row place) at) (column_of group.rows place)
    (length-map at (λ row. cell_at row place) ∙ counted ∙ all ∙ sym (length-map group.rows (λ row. cell_at row.cells place)))
    (λ i within.
    let below : i < n = omega (arith, within, length-map at (λ row. cell_at row place), counted) in
    get_or-map (λ row. cell_at row place) at i [] Null (omega (arith, below, counted))
    ∙ ap (λ row. cell_at row place) (get_or-map-range_with_len (cells_at group) 0 n i i [] below (omega arith))
    ∙ sym (get_or-map (λ row. cell_at row.cells place) group.rows i (record { cells = []; begin = 0 }) Null (omega (arith, below, all))))

-- where each row is chosen and has the one key number there is
module _ (chosen : Chosen) (each : (i : ℕ) → is_chosen chosen i ≡ true) (alone : chosen.keys.items ≡ []) where
  no_key : (k : ℕ) → k < chosen.size → (i : ℕ) → (is_chosen chosen i && key_at chosen.keys.items i == k) ≡ true
  no_key k within i =
      let none : k ≡ 0 = omega (arith, within, chosen.sized, ap key_count alone) in
      ap (λ b. b && key_at chosen.keys.items i == k) (each i)
      ∙ ap (λ columns. key_at columns i == k) alone
      ∙ ap (λ j. 0 == j) none

  all_positions : (k : ℕ) → k < chosen.size → key_positions chosen k ≡ range_with_len 0 chosen.length
  all_positions k within = kept_all (λ i. is_chosen chosen i && key_at chosen.keys.items i == k) (no_key k within) (range_with_len 0 chosen.length)

  module _ (group : Group) (place : ℕ) (long : chosen.length ≡ length group.rows) (k : ℕ) (within : k < chosen.size) where
    all_present : present place (rows_at group (key_positions chosen k)) ≡ no_nulls (column_of group.rows place)
    all_present = ap (λ at. present place (rows_at group at)) (all_positions k within) ∙ ap no_nulls (cells_of_all group place chosen.length long)

    pub whole-least : (least : Value) → IsLeastCell (column_of group.rows place) least → tally.Least least ≡ tally_of (rows_at group (key_positions chosen k)) (item.Min place)
    whole-least least is = ap tally.Least (sym (ap least_of all_present ∙ least-cell (column_of group.rows place) least is))

    pub whole-greatest : (greatest : Value) → IsGreatestCell (column_of group.rows place) greatest → tally.Greatest greatest ≡ tally_of (rows_at group (key_positions chosen k)) (item.Max place)
    whole-greatest greatest is = ap tally.Greatest (sym (ap greatest_of all_present ∙ greatest-cell (column_of group.rows place) greatest is))
