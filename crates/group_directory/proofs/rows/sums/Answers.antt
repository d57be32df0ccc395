use Rattle.std.proofs.Common.{arith}
use Rattle.group_directory.proofs.SumLemmas.{totals_grow, ends_grow}
use Rattle.group_directory.proofs.rows.sums.Goals as goal

pub loop-group-preserved : goal.loop-group-preserved
loop-group-preserved c =
    let counted = c.counted-versions in
    let group = c.group-item.result in
    let so_far = c.loop-group.invariant in
    record {
      versions = totals_grow c.args.groups.now c.loop-group.group-index group c.loop-group.all counted.result.0 c.loop-group-test.true c.group-item.is so_far.versions counted.ensures.versions;
      ends = ends_grow c.args.groups.now c.loop-group.group-index group c.loop-group.ended counted.result.1 c.loop-group-test.true c.group-item.is so_far.ends counted.ensures.ends;
      most_versions = omega arith;
      most_ends = omega arith;
    }
