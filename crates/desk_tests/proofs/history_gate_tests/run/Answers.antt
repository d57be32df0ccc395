use Rattle.std.proofs.Common.{◌+◌, ◌<◌, subst}
use Rattle.history_gate.proofs.PassLaws.{first_has_all}
use Rattle.desk_tests.proofs.history_gate_tests.run.Goals as goal

pub close-requires-clause-all : goal.close-requires-clause-all
close-requires-clause-all g c =
    let ok = c.in_ok-gate.ensures.ok in
    λ n lt. c.scoped-pass.ensures.1.1 n (first_has_all (c.args.count + 1) c.in_ok-gate.pass ok.2 ok.3 n (subst (λ z. n < z) ok.0 lt))
