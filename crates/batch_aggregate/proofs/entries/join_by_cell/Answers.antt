use Rattle.std.proofs.Common.{rules, sym, ◌≡◌, ◌∙◌, ap, map, None}
use Rattle.std.proofs.lemmas.List.Quantifiers.{position-Some}
use Rattle.std.proofs.lemmas.Result.{on_ok_weaker}
use Rattle.std.specs.Map.{lookup}
use Rattle.cs_types.specs.contracts.ValuePartialEq.TheImpl.{eq-value}
use Rattle.batch_aggregate.specs.Standing.{entry_at}
use Rattle.batch_aggregate.proofs.EntryLemmas.{changed_by_cell, put_last_by_cell, not_some}
use Rattle.batch_aggregate.proofs.entries.join_by_cell.Goals as goal

pub returns-in-Some : goal.returns-in-Some
returns-in-Some c =
    let cell = c.args.cell in
    on_ok_weaker c.join.result
    (λ is. changed_by_cell cell c.args.tallies c.args.groups.now.entries c.in-Some.known cell _ _
    (position-Some (eq-value.it cell) _ c.in-Some.known cell (sym c.in-Some.ensures.index))
    c.index_mut.ensures.value is)
    c.join.ensures

pub returns : goal.returns
returns c =
    let entries = c.args.groups.now.entries in
    let none : lookup (eq-value.it c.args.cell) entries ≡ None = not_some _ (search rules) in
    ap (map entry_at) c.in_ok-insert.ensures.entries ∙ put_last_by_cell c.args.cell c.args.tallies entries none
