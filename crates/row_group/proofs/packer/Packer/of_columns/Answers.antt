use Rattle.std.proofs.Common.{◌≡◌, ◌∙◌, ℕ, List, length, map, get_or, sym, ap, subst}
use Rattle.std.specs.List.{All}
use Rattle.std.proofs.lemmas.List.{length-map, length-replicate}
use Rattle.std.proofs.lemmas.List.Elements.{All-map}
use Rattle.cs_types.specs.declared.Value.{Value}
use Rattle.cs_types.specs.Rows.{number_cell}
use Rattle.row_group.proofs.packer.Packer.of_columns.Goals as goal

pub invariant_of-result : goal.invariant_of-result
invariant_of-result c =
    let columns = c.args.columns.items in
    let begins = c.in_ok-vec.field-0.items in
    let count : length begins ≡ c.args.count = ap length (c.in_ok-vec.ensures.items_if_clones_equal (λ y same. same)) ∙ length-replicate {A = ℕ} c.args.count c.args.begin in
    let is_even = λ (column : List Value). length column ≡ length begins in
    subst (λ (made : List (List Value)). All is_even made) (sym c.in_ok-numbered_columns.ensures)
    (All-map is_even (λ column. map number_cell column.items) columns (λ k d l. length-map (get_or columns k d).items number_cell ∙ c.requires k d l ∙ sym count))
