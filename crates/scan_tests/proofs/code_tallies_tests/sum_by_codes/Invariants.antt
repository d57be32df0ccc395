use Rattle.std.proofs.Common.{◌≡◌}
use Rattle.scan_tests.proofs.code_tallies_tests.sum_by_codes.Given as goal

abbrev pub invariant-loop-cells : goal.invariant-loop-cells
invariant-loop-cells g l = (l.partial.schema.now ≡ l.initial.partial.schema.now) × (l.partial.query.now ≡ l.initial.partial.query.now)
