use Rattle.std.proofs.Common.{◌∙◌}
use Rattle.group_directory.proofs.SettleLemmas.{popped}
use Rattle.group_directory.proofs.settles.put_each.Goals as goal

pub loop-last-preserved : goal.loop-last-preserved
loop-last-preserved c =
    popped c.pop.new.self.items c.in-Some.last c.loop-last.marks.items c.loop-last.groups c.len.result c.index-groups-len.result c.put_marks.new.content c.args.marks.items c.args.groups.now
    c.in-Some.ensures.items (c.len.ensures ∙ c.pop.new.self.ok.0) c.put_marks.ensures c.loop-last.invariant.same c.loop-last.invariant.within
