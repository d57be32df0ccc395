use Rattle.std.proofs.Common.{arith}
use Rattle.batch_scan.proofs.hidden.hidden_positions.Goals as goal

pub returns-clause-within : goal.returns-clause-within
returns-clause-within c =
    c.in_ok-add_own.ensures.within (c.in_ok-add_ended.ensures.within (c.in_ok-add_late.ensures.within (λ k d there. absurd (omega (arith, there)))))
