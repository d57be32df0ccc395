use Rattle.std.proofs.Common.{◌≡◌, length, sym, subst, List, Option, arith}
use Rattle.group_view.specs.Shares.{Share, AreShared}
use Rattle.group_view.proofs.ShareLemmas.{kept_here, kept_last}
use Rattle.group_view.proofs.held.keep.Goals as goal

pub returns-in_err-push-clause-shared : goal.returns-in_err-push-clause-shared
returns-in_err-push-clause-shared c = λ all shared is. subst (λ (l : List (Option Share)). AreShared all l) (sym c.in_err-push.ensures.items) shared

pub returns-then-chunk-len-clause-shared : goal.returns-then-chunk-len-clause-shared
returns-then-chunk-len-clause-shared c = λ all shared is.
    let last : c.args.chunk ≡ length c.args.shares.now.items = let same = c.if-chunk-len.true in let len = c.len.ensures in omega (arith, same, len) in
    subst (λ (l : List (Option Share)). AreShared all l) (sym c.in_ok-push.ensures.items) (kept_last all c.args.shares.now.items c.args.chunk c.args.share shared is last)

pub returns-clause-shared : goal.returns-clause-shared
returns-clause-shared c = λ all shared is. kept_here all c.args.shares.now.items c.args.chunk c.args.share shared is
