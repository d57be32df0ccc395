use Rattle.std.proofs.Common.{◌∙◌}
use Rattle.group_view.proofs.Counted.{settling_stamps}
use Rattle.group_view.proofs.removable.has_settling.Goals as goal

pub returns : goal.returns
returns c = c.has_stamp.ensures ∙ settling_stamps c.args.floor c.stamps.result.now c.args.marks.now c.stamps.ensures.stamps
