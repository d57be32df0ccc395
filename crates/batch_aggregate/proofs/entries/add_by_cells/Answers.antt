use Rattle.std.proofs.Common.{rules, sym, ◌≡◌, ◌∙◌, ◌∷◌, [], ap, map, None}
use Rattle.std.proofs.lemmas.List.Quantifiers.{position-Some}
use Rattle.std.proofs.lemmas.Result.{on_ok_weaker}
use Rattle.std.specs.Cmp.Lexicographic.{pointwise}
use Rattle.std.specs.Map.{lookup}
use Rattle.indexmap.specs.IndexMap.{insert_entry}
use Rattle.cs_types.specs.contracts.ValuePartialEq.TheImpl.{eq-value}
use Rattle.batch_aggregate.specs.Tallies.{tally_of}
use Rattle.batch_aggregate.proofs.EntryLemmas.{changed_by_cells, put_last_by_cells, not_some}
use Rattle.batch_aggregate.proofs.entries.add_by_cells.Goals as goal

pub returns-in-Some : goal.returns-in-Some
returns-in-Some c =
    let cells = c.args.cells in
    let tallies = map (tally_of (c.args.row.now ∷ [])) c.args.items.now in
    on_ok_weaker c.add.result
    (λ is. changed_by_cells cells tallies c.args.groups.now.entries c.in-Some.place cells _ _
    (position-Some (pointwise eq-value.it cells) _ c.in-Some.place cells (sym c.in-Some.ensures.index))
    c.index_mut.ensures.value is)
    c.add.ensures

pub returns : goal.returns
returns c =
    let cells = c.args.cells in
    let entries = c.args.groups.now.entries in
    let tallies = map (tally_of (c.args.row.now ∷ [])) c.args.items.now in
    let none : lookup (pointwise eq-value.it cells) entries ≡ None = not_some _ (search rules) in
    c.in_ok-insert.ensures.entries ∙ ap (insert_entry (pointwise eq-value.it) entries cells) c.in_ok-tallies.ensures
    ∙ put_last_by_cells cells tallies entries none
