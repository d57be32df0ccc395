-- Cells of lists.
use Rattle.std.proofs.Common.{◌≡◌, ◌≢◌, ℕ, zero, suc, ◌<◌, List, [], ◌∷◌, length, refl, ap, sym, ◌∙◌, arith, false, true, Bool, true≢false, ◌||◌, get_or, ◌+◌, ◌≤◌, take, drop}
use Rattle.std.specs.List.{list_any}
use Rattle.std.proofs.lemmas.Bool.{false_from_ne_true}
use Rattle.std.proofs.lemmas.List.Folds.{list_any_at}
use Rattle.std.proofs.lemmas.List.{get_or-drop, get_or-take, length-drop, length-take-le}
use Rattle.cs_types.specs.declared.Value.{Value}
use Rattle.cs_types.specs.declared.Value.TheVariants.{Null}
use Rattle.cs_types.specs.Rows.{cell_at}
use Rattle.batch_kernels.specs.Masks.{same_as}
use Rattle.batch_filter.specs.Named.{lone_row}

-- the cell of a row with no other one
pub lone_cell : (column : ℕ) (cell : Value) → cell_at (lone_row column cell) column ≡ cell
lone_cell zero cell = refl
lone_cell (suc column) cell = lone_cell column cell

-- its other cells
pub lone_null : (column other : ℕ) (cell : Value) → other ≢ column → cell_at (lone_row column cell) other ≡ Null
lone_null zero zero cell apart = absurd (apart refl)
lone_null zero (suc other) cell apart = refl
lone_null (suc column) zero cell apart = refl
lone_null (suc column) (suc other) cell apart = lone_null column other cell (λ same. apart (ap suc same))

-- no place is as wanted where a search finds none
pub none_wanted : (wanted : Bool) (mask : List Bool) → list_any (same_as wanted) mask ≡ false → (i : ℕ) → i < length mask → same_as wanted (get_or mask i false) ≡ false
none_wanted wanted mask none i l =
    false_from_ne_true (same_as wanted (get_or mask i false)) (λ same. true≢false (sym (list_any_at (same_as wanted) mask i false l same) ∙ none))

-- none is left out where each is chosen
pub none_left_out : (mask : List Bool) → ((i : ℕ) → i < length mask → get_or mask i false ≡ true) → list_any (same_as false) mask ≡ false
none_left_out [] each = refl
none_left_out (b ∷ bs) each = ap (λ c. same_as false c || list_any (same_as false) bs) (each 0 (omega arith)) ∙ none_left_out bs (λ i below. each (suc i) (omega (arith, below)))

-- nor is one chosen at these places of the list
pub none_between : (mask : List Bool) (from count n : ℕ) → n ≡ count → from + count ≤ length mask → list_any (same_as true) (take n (drop from mask)) ≡ false
    → (i : ℕ) → i < count → get_or mask (from + i) false ≡ false
none_between mask from count n same within none i l =
    let here : i < n = omega arith in
    let long : n ≤ length (drop from mask) = omega (arith, length-drop from mask) in
    sym (get_or-drop from mask i false) ∙ sym (get_or-take n (drop from mask) i false here)
    ∙ none_wanted true (take n (drop from mask)) none i (omega (arith, length-take-le n (drop from mask) long))
