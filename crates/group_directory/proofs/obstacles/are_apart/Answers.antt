use Rattle.group_directory.proofs.ObstacleLaws.{none_noted}
use Rattle.group_directory.proofs.obstacles.are_apart.Goals as goal

pub returns-in-Some-Some : goal.returns-in-Some-Some
returns-in-Some-Some c = λ yes.
    none_noted c.args.keys.now c.requires c.args.recent.now.changes c.in-Some-Some.least.now c.in-Some-Some.greatest.now (c.in-Some-Some.ensures.item.1) (c.in-Some-Some.ensures'.item.1) (c.is_apart.ensures.apart yes)
