-- Rows in so many cells.
use Rattle.std.proofs.Common.{◌≡◌, ℕ, ◌+◌, ◌<◌, List, [], ◌∷◌, ◌++◌, length, sym, ap, subst, ◌∙◌, arith, IsTrue}
use Rattle.std.proofs.lemmas.List.FromFn.{fill_by_all, get_or-map-range_with_len, length-map-range_with_len, map-range_with_len_more}
use Rattle.std.proofs.lemmas.Option.{slice_get_within, unwrap_or-slice_get}
use Rattle.cs_types.specs.declared.Key.{Key}
use Rattle.cs_types.specs.declared.Schema.{Schema}
use Rattle.cs_types.specs.declared.Value.{Value}
use Rattle.cs_types.specs.declared.Value.TheVariants.{Null}
use Rattle.cs_types.specs.Rows.{cell_at, key_in, number_in, padded}
use Rattle.cs_types.specs.Schemas.{may_hold, IsRowOf}

pub padded_length : (width : ℕ) (cells : List Value) → length (padded width cells) ≡ width
padded_length width cells = length-map-range_with_len (cell_at cells) 0 width

-- the cells that are there stay
pub padded_cell : (width : ℕ) (cells : List Value) (column : ℕ) → column < width → cell_at (padded width cells) column ≡ cell_at cells column
padded_cell width cells column within = unwrap_or-slice_get (padded width cells) column Null ∙ get_or-map-range_with_len (cell_at cells) 0 width column column Null within (omega arith)

pub padded_key : (width : ℕ) (cells : List Value) (column : ℕ) → column < width → key_in column (padded width cells) ≡ key_in column cells
padded_key width cells column within = ap (λ (cell : Value). let key : Key = record { 0 = number_in cell } in key) (padded_cell width cells column within)

-- a row of so many cells is itself
pub padded_itself : (width : ℕ) (cells : List Value) → length cells ≡ width → cells ≡ padded width cells
padded_itself width cells same = fill_by_all (cell_at cells) cells width Null same (λ k below. sym (unwrap_or-slice_get cells k Null))

pub padded_again : (width : ℕ) (cells : List Value) → padded width (padded width cells) ≡ padded width cells
padded_again width cells = sym (padded_itself width (padded width cells) (padded_length width cells))

pub padded_more : (cells : List Value) (n : ℕ) → padded (n + 1) cells ≡ padded n cells ++ cell_at cells n ∷ []
padded_more cells n = map-range_with_len_more (cell_at cells) 0 n n (omega arith)

-- a row that fits does with NULL past its end
pub padded_fits : (schema : Schema) (cells : List Value) → IsRowOf schema cells → IsRowOf schema (padded (length schema.columns) cells)
padded_fits schema cells fit = record {
  short = let all = padded_length (length schema.columns) cells in omega (arith, all);
  held = λ i column found.
      let within = slice_get_within schema.columns i column found in
      subst (λ (cell : Value). IsTrue (may_hold column cell)) (sym (padded_cell (length schema.columns) cells i within)) (fit.held i column found);
}
