use Rattle.std.proofs.Common.{◌≡◌, arith}
use Rattle.std.specs.FinMap as finite
use Rattle.group_directory.proofs.commits.forget.Goals as goal

pub returns-else-keys-gt-UNPRUNED : goal.returns-else-keys-gt-UNPRUNED
returns-else-keys-gt-UNPRUNED c =
    let none : finite.len c.args.recent.now.changes ≡ 0 = omega (arith, c.len.ensures.keys, c.if-len-gt0.false) in
    finite.empty_of_len c.args.recent.now.changes none
