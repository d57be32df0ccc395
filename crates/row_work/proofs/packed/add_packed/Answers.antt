use Rattle.std.proofs.Common.{◌∙◌, ◌++◌, List, length, map, sym, ap, subst}
use Rattle.std.proofs.lemmas.List.{append-nil}
use Rattle.batch_aggregate.specs.Standing.{StandsFor}
use Rattle.batch_scan.specs.Reads.{is_read, AreShown}
use Rattle.group_view.specs.Parts.{Rowed, packed_versions}
use Rattle.row_work.specs.Sieved.{read_in}
use Rattle.row_work.proofs.Sieved.{packed_rows, shown_nowhere}
use Rattle.row_work.proofs.packed.add_packed.Goals as goal

pub returns-in-Nowhere-clause-added : goal.returns-in-Nowhere-clause-added
returns-in-Nowhere-clause-added c = λ rows stands.
    let pinned = c.args.pinned.now in
    let group = c.args.packed.now in
    let versions = packed_versions group.key group.rows c.args.marks.now in
    let all = subst (AreShown (map (is_read pinned) versions)) c.in-Nowhere.is c.in_ok-shown.ensures in
    let none = ap (read_in (length c.args.schema.now.columns) pinned) c.requires.versions ∙ shown_nowhere (length c.args.schema.now.columns) pinned versions all in
    subst (λ l. StandsFor c.args.partial.now (rows ++ l)) (sym none) (subst (StandsFor c.args.partial.now) (sym (append-nil rows)) stands)

pub add_positions-requires-clause-rows : goal.add_positions-requires-clause-rows
add_positions-requires-clause-rows c =
    let group = c.args.packed.now in
    ap (map (λ (rowed : Rowed). rowed.row)) c.requires.versions ∙ packed_rows group.key group.rows c.args.marks.now c.requires.marks

pub add_positions-requires-clause-shown : goal.add_positions-requires-clause-shown
add_positions-requires-clause-shown c =
    subst (λ (versions : List Rowed). AreShown (map (is_read c.args.pinned.now) versions) c.in_ok-shown.shown) (sym c.requires.versions) c.in_ok-shown.ensures
