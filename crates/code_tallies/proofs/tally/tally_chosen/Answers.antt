use Rattle.std.proofs.Common.{length, map, slice_index, sym, ap, subst, ◌∙◌}
use Rattle.std.specs.Prelude.{IfSome}
use Rattle.std.specs.List.{All}
use Rattle.cs_model.specs.declared.plan.Query.{Query}
use Rattle.batch_aggregate.specs.Tallies.{tally_of}
use Rattle.code_tallies.specs.Shown.{rows_at}
use Rattle.code_tallies.specs.Tables.{AreTablesOf, HasEntry, key_positions, tally_in}
use Rattle.code_tallies.proofs.Whole.{tables-entries, tables-tallies}
use Rattle.code_tallies.proofs.tally.tally_chosen.Goals as goal

pub add_groups-requires-clause-tables : goal.add_groups-requires-clause-tables
add_groups-requires-clause-tables c = λ k within.
    let group = c.args.packed.now in
    let chosen = c.args.chosen.now in
    let are = subst (λ f. IfSome f (λ tables. AreTablesOf c.args.packed.now c.args.chosen.now c.as_slice-items.result.now tables.items)) c.in-Some.is c.in_ok-tables.ensures in
    subst (All (HasEntry k)) (sym c.deref-2.ensures.value) (tables-entries group chosen c.as_slice-items.result.now c.in-Some.tables.items are k within)

pub returns-clause-tallied : goal.returns-clause-tallied
returns-clause-tallied c = λ rows grouped columns kept stands done.
    let group = c.args.packed.now in
    let chosen = c.args.chosen.now in
    let are = subst (λ f. IfSome f (λ tables. AreTablesOf c.args.packed.now c.args.chosen.now c.as_slice-items.result.now tables.items)) c.in-Some.is c.in_ok-tables.ensures in
    c.in_ok-add_groups.ensures.added group rows
    (record {
      grouped = grouped;
      long = c.requires.length;
      kept = kept;
      columns = columns;
      counted = λ k within. ap (λ l. slice_index l k) c.deref.ensures.value ∙ c.in_ok-counts.ensures.each k within;
      tallies = λ k within.
          ap (map (λ table. tally_in (length (key_positions chosen k)) table k)) c.deref-2.ensures.value
          ∙ tables-tallies group chosen c.as_slice-items.result.now c.in-Some.tables.items are k within
          ∙ ap (map (tally_of (rows_at group (key_positions chosen k)))) c.as_slice-items.ensures
          ∙ ap (λ (q : Query). map (tally_of (rows_at group (key_positions chosen k))) q.items) c.query.ensures;
    })
    stands
