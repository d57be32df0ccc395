use Rattle.std.proofs.Common.{◌≡◌, ◌++◌, ℕ, true, false, subst}
use Rattle.std.specs.Prelude.{OnOk}
use Rattle.batch_aggregate.specs.Standing.{StandsFor}
use Rattle.row_work.specs.Reads.{rowed_at}
use Rattle.row_work.specs.Sieved.{read_in}
use Rattle.row_work.proofs.Known.{packed_known}
use Rattle.row_work.proofs.select.add_whole.Goals as goal

pub add_by_codes-requires-clause-versions : goal.add_by_codes-requires-clause-versions
add_by_codes-requires-clause-versions c = (packed_known c.args.pinned.now c.args.group c.in-Packed.packed c.in-Packed.marks c.requires.there c.requires.may.snapshot.view.fitting (rw c.in-Packed.is at c.group.ensures)).1

pub add_by_codes-requires-clause-marks : goal.add_by_codes-requires-clause-marks
add_by_codes-requires-clause-marks c = (packed_known c.args.pinned.now c.args.group c.in-Packed.packed c.in-Packed.marks c.requires.there c.requires.may.snapshot.view.fitting (rw c.in-Packed.is at c.group.ensures)).0

pub add_versions-requires-clause-sieved : goal.add_versions-requires-clause-sieved
add_versions-requires-clause-sieved c = λ i rowed at out. let no : true ≡ false = out in absurd cc

pub returns-in-Store-clause-added : goal.returns-in-Store-clause-added
returns-in-Store-clause-added c = λ rows stands.
    subst (λ (width : ℕ). OnOk c.add_versions.result (StandsFor c.add_versions.new.partial (rows ++ read_in width c.args.pinned.now (rowed_at c.args.pinned.now.view c.args.group)))) c.len-width.ensures
    (c.add_versions.ensures.added rows stands)
