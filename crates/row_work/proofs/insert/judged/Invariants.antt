use Rattle.std.proofs.Common.{◌≡◌, ◌++◌}
use Rattle.std.specs.Vec.Iter.{into_iter_items}
use Rattle.edit_laws.specs.Edits.{edits_of}
use Rattle.row_work.specs.Inserts.{AreJudged}
use Rattle.row_work.proofs.insert.judged.Given as goal

abbrev pub invariant-loop-row : goal.invariant-loop-row
invariant-loop-row l = record {
  are : AreJudged l.pinned (edits_of l.yielded) l.writes.items l.present.items;
  rest : l.yielded ++ into_iter_items l.row-iterator ≡ l.fn.rows.items;
}
