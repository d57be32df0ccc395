use Rattle.std.proofs.Common.{◌≡◌, ◌-◌, ◌∙◌, ◌++◌, length, map, take, ap, arith}
use Rattle.cs_types.specs.Rows.{number_cell}
use Rattle.row_group.proofs.CellLemmas.{take-parts}
use Rattle.row_group.proofs.cells.Cells.truncate.Goals as goal

pub returns : goal.returns
returns c =
    let numbers = c.self.inside.numbers.items in
    let values = c.self.inside.values.items in
    let count = c.args.count in
    let left : c.saturating_sub.result ≡ count - length numbers = omega (arith, c.saturating_sub.ensures, c.len.ensures) in
    ap (λ ns. map number_cell ns ++ c.truncate.new.self.items) c.truncate-2.ensures.items
    ∙ ap (λ vs. map number_cell (take count numbers) ++ vs) (c.truncate.ensures.items ∙ ap (λ k. take k values) left)
    ∙ take-parts count numbers values ∙ ap (take count) c.self.view_is
