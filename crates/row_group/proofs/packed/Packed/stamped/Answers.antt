use Rattle.std.proofs.Common.{ℕ, List, map, sym, subst}
use Rattle.row_group.specs.Rows.{PackedRow}
use Rattle.row_group.specs.Groups.{Group}
use Rattle.row_group.specs.Fields.{AreStamps, shown_rows}
use Rattle.row_group.proofs.ShownLemmas.{stamps-shown}
use Rattle.row_group.proofs.packed.Packed.stamped.Goals as goal

pub returns : goal.returns
returns c =
    let f = c.self.inside in
    subst (λ (group : Group). AreStamps (map (λ (row : PackedRow). row.begin) group.rows) group.base c.as_slice.result.now) c.self.view_is
    (subst (λ (late : List (ℕ × ℕ)). AreStamps (map (λ (row : PackedRow). row.begin) (shown_rows f.segments f.late f.base f.length)) f.base late) (sym c.as_slice.ensures)
    (stamps-shown f.segments f.late f.base f.length c.self.invariant.rising c.self.invariant.own))
