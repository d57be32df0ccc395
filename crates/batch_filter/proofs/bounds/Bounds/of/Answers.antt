use Rattle.std.proofs.Common.{◌≡◌, nat_lt, Some, None, length, slice_get, arith, rules, ap}
use Rattle.std.proofs.lemmas.List.Elements.{All-contains}
use Rattle.batch_filter.proofs.BoundLemmas.{column_bounds, missing_bounds, no_column, no_cell}
use Rattle.batch_filter.proofs.bounds.Bounds.of.Goals as goal
use Rattle.batch_filter.proofs.bounds.Bounds.of.Goals.{in_default-via-in-Some+else-column-width, in_default-via-in_default}

pub returns-in-Some : goal.returns-in-Some
returns-in-Some c =
    let s = c.segment.result.now in
    let there : slice_get c.args.schema.now.columns c.args.column ≡ Some c.in-Some.found.now = search rules in
    column_bounds c.args.schema.now c.args.packed.now.rows c.args.column c.in-Some.found.now s.length s.body s.least s.greatest s.nulls _ _ _ there c.bounds_of.ensures.least c.bounds_of.ensures.greatest c.bounds_of.ensures.nulls c.segment.ensures.cells

pub returns-in_default : goal.returns-in_default
returns-in_default c = missing_bounds c.args.schema.now c.args.packed.now.rows c.args.column _ (λ row held. elim c.in_default.branch [
  | in_default-via-in-Some+else-column-width w ↦
      let wide : length row.cells ≡ c.args.packed.now.width = All-contains (λ r. length r.cells ≡ c.args.packed.now.width) c.args.packed.now.rows row w.width.ensures.rows held in
      no_cell c.args.schema.now c.args.column row.cells (omega (arith, wide, w.width.ensures.value, w.if-column-width.false))
  | in_default-via-in_default w ↦
      let none : slice_get c.args.schema.now.columns c.args.column ≡ None = search rules in
      no_column c.args.schema.now c.args.column _ none
]) (ap (nat_lt 0) c.len.ensures)
