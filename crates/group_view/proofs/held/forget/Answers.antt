use Rattle.std.proofs.Common.{arith}
use Rattle.group_view.proofs.ShareLemmas.{forgot, forgot_past}
use Rattle.group_view.proofs.held.forget.Goals as goal

pub returns-then-chunk-len : goal.returns-then-chunk-len
returns-then-chunk-len c = λ old new others shared. forgot old new c.args.shares.now.items c.args.chunk others shared

pub returns-else-chunk-len : goal.returns-else-chunk-len
returns-else-chunk-len c = λ old new others shared.
    let past = c.if-chunk-len.false in
    let len = c.len.ensures in
    forgot_past old new c.args.shares.now.items c.args.chunk (omega (arith, past, len)) others shared
