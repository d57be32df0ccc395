use Rattle.std.proofs.Common.{◌∙◌, not, map, ap}
use Rattle.batch_scan.proofs.Left.{both_is}
use Rattle.batch_scan.proofs.shown.in_both.Goals as goal

pub returns-clause-each : goal.returns-clause-each
returns-clause-each c =
    both_is c.args.first c.args.second.now c.complement.new.self c.complement-2.new.self c.join.new.self c.complement-3.new.self c.in_ok-complement.ensures.ok
    (c.in_ok-complement-2.ensures.ok ∙ ap (map not) c.in_ok-other.ensures) c.in_ok-join.ensures.length c.in_ok-join.ensures.ok c.in_ok-complement-3.ensures.ok c.requires
