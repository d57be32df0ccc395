use Rattle.std.proofs.Common.{rules, sym, ◌≡◌, ◌∙◌, None}
use Rattle.std.proofs.lemmas.List.Quantifiers.{position-Some}
use Rattle.std.proofs.lemmas.Result.{on_ok_weaker}
use Rattle.std.specs.Cmp.Lexicographic.{pointwise}
use Rattle.std.specs.Map.{lookup}
use Rattle.cs_types.specs.contracts.ValuePartialEq.TheImpl.{eq-value}
use Rattle.batch_aggregate.proofs.EntryLemmas.{changed_by_cells, put_last_by_cells, not_some}
use Rattle.batch_aggregate.proofs.entries.join_by_cells.Goals as goal

pub returns-in-Some : goal.returns-in-Some
returns-in-Some c =
    let cells = c.args.cells in
    on_ok_weaker c.join.result
    (λ is. changed_by_cells cells c.args.tallies c.args.groups.now.entries c.in-Some.known cells _ _
    (position-Some (pointwise eq-value.it cells) _ c.in-Some.known cells (sym c.in-Some.ensures.index))
    c.index_mut.ensures.value is)
    c.join.ensures

pub returns : goal.returns
returns c =
    let entries = c.args.groups.now.entries in
    let none : lookup (pointwise eq-value.it c.args.cells) entries ≡ None = not_some _ (search rules) in
    c.in_ok-insert.ensures.entries ∙ put_last_by_cells c.args.cells c.args.tallies entries none
