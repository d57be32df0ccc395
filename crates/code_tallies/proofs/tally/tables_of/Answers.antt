use Rattle.std.proofs.Common.{◌+◌, ◌<◌, ℕ, [], ◌∷◌, ◌++◌, length, take, sym, subst, arith}
use Rattle.std.specs.List.{AllZip}
use Rattle.std.proofs.lemmas.List.{take_more}
use Rattle.code_tallies.specs.Tables.{AreTablesOf, IsTableOf}
use Rattle.code_tallies.proofs.BatchSteps.{zip-push}
use Rattle.code_tallies.proofs.tally.tables_of.Goals as goal

pub loop-item-preserved : goal.loop-item-preserved
loop-item-preserved c =
    let group = c.args.packed.now in
    let chosen = c.args.chosen.now in
    let items = c.args.items.now in
    let i : ℕ = c.loop-item.item-index in
    let tables = c.loop-item.tables.items in
    let within : i < length items = omega arith in
    let here = rw c.in-Some.is at c.in_ok-table_of.ensures in
    let all = zip-push (IsTableOf group chosen) (take i items) tables _ c.in-Some.table c.loop-item.invariant here in
    subst (λ l. AreTablesOf group chosen (take (i + 1) items) l) (sym c.in_ok-push-in-Some.ensures.items)
    (subst (λ l. AllZip (IsTableOf group chosen) l (tables ++ c.in-Some.table ∷ [])) (sym (take_more items i _ within)) all)
