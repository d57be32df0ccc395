use Rattle.std.proofs.Common.{sym}
use Rattle.group_view.proofs.Entries.{by_least_end, without_end}
use Rattle.group_view.proofs.lived.is_buffered.Goals as goal

pub returns-in-Some : goal.returns-in-Some
returns-in-Some c = sym (by_least_end c.args.key c.args.begin c.args.s c.args.buffer.now c.in-Some.end c.in-Some.ensures)

pub returns-in-None : goal.returns-in-None
returns-in-None c = sym (without_end c.args.key c.args.begin c.args.s c.args.buffer.now c.in-None.ensures)
