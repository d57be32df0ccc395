use Rattle.std.proofs.Common.{◌≡◌, ◌∙◌, ◌∷◌, [], length, map, ap, sym, subst}
use Rattle.std.proofs.lemmas.Result.{on_ok_weaker}
use Rattle.batch_aggregate.specs.Standing.{entries_in, entry_at, with_tallies, IsBy}
use Rattle.batch_aggregate.proofs.EntryLemmas.{one_cell}
use Rattle.batch_aggregate.proofs.entries.add_tallies.Goals as goal

pub returns-in-ByCell-clause-added : goal.returns-in-ByCell-clause-added
returns-in-ByCell-clause-added c =
    let cells = c.args.cells in
    let tallies = c.args.tallies in
    on_ok_weaker c.join_by_cell.result
    (λ is columns by wide.
    let one : columns ≡ c.in-ByCell.column ∷ [] = subst (IsBy columns) c.in-ByCell.is by in
    let same : c.take.result ∷ [] ≡ cells = ap (λ v. v ∷ []) c.take.ensures.taken ∙ sym (one_cell cells (wide ∙ ap length one)) in
    is ∙ ap (λ k. with_tallies k tallies (map entry_at c.in-ByCell.groups.entries)) same ∙ ap (λ e. with_tallies cells tallies (entries_in e)) (sym c.in-ByCell.is))
    c.join_by_cell.ensures
