use Rattle.std.proofs.Common.{rules, sym, ◌≡◌, ◌∙◌, ◌∷◌, [], ap, map, None}
use Rattle.std.proofs.lemmas.List.Quantifiers.{position-Some}
use Rattle.std.proofs.lemmas.Result.{on_ok_weaker}
use Rattle.std.specs.Map.{lookup}
use Rattle.indexmap.specs.IndexMap.{insert_entry}
use Rattle.cs_types.specs.contracts.ValuePartialEq.TheImpl.{eq-value}
use Rattle.batch_aggregate.specs.Standing.{entry_at, with_tallies}
use Rattle.batch_aggregate.specs.Tallies.{tally_of}
use Rattle.batch_aggregate.proofs.EntryLemmas.{changed_by_cell, put_last_by_cell, not_some}
use Rattle.batch_aggregate.proofs.entries.add_by_cell.Goals as goal

pub returns-in-Some : goal.returns-in-Some
returns-in-Some c =
    let entries = c.args.groups.now.entries in
    let tallies = map (tally_of (c.args.row.now ∷ [])) c.args.items.now in
    let cell = c.cell-cell.result.now in
    on_ok_weaker c.add.result
    (λ is. changed_by_cell cell tallies entries c.in-Some.place cell _ _
    (position-Some (eq-value.it cell) _ c.in-Some.place cell (sym c.in-Some.ensures.index))
    c.index_mut.ensures.value is ∙ ap (λ v. with_tallies (v ∷ []) tallies (map entry_at entries)) c.cell-cell.ensures)
    c.add.ensures

pub returns : goal.returns
returns c =
    let entries = c.args.groups.now.entries in
    let tallies = map (tally_of (c.args.row.now ∷ [])) c.args.items.now in
    let cell = c.cell-cell.result.now in
    let none : lookup (eq-value.it cell) entries ≡ None = not_some _ (search rules) in
    ap (map entry_at)
    (c.in_ok-insert.ensures.entries ∙ ap (λ k. insert_entry eq-value.it entries k c.in_ok-tallies.tallies) c.in_ok-key.ensures ∙ ap (insert_entry eq-value.it entries cell) c.in_ok-tallies.ensures)
    ∙ put_last_by_cell cell tallies entries none ∙ ap (λ v. with_tallies (v ∷ []) tallies (map entry_at entries)) c.cell-cell.ensures
