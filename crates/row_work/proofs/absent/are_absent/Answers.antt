use Rattle.row_work.proofs.Absence.{none_within}
use Rattle.row_work.proofs.absent.are_absent.Goals as goal

pub returns-then-branch : goal.returns-then-branch
returns-then-branch c = λ yes width.
    none_within c.args.pinned.now c.requires.bare c.in-Some.bounds (c.in_ok-are_apart.ensures c.if-branch.true) c.requires.snapshot c.args.keys.now c.in-Some.ensures.some width
