use Rattle.batch_scan.proofs.Lent.{packed_known}
use Rattle.row_work.proofs.choose.choose_in_whole.Goals as goal

pub choose_in_packed-requires-clause-fits : goal.choose_in_packed-requires-clause-fits
choose_in_packed-requires-clause-fits c = (packed_known c.args.pinned.now c.args.group c.in-Packed.packed c.in-Packed.marks c.requires.there c.requires.may.snapshot.view.fitting (rw c.in-Packed.is at c.group.ensures)).0

pub choose_in_packed-requires-clause-versions : goal.choose_in_packed-requires-clause-versions
choose_in_packed-requires-clause-versions c = (packed_known c.args.pinned.now c.args.group c.in-Packed.packed c.in-Packed.marks c.requires.there c.requires.may.snapshot.view.fitting (rw c.in-Packed.is at c.group.ensures)).1
