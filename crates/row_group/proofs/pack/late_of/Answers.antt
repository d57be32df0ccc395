use Rattle.row_group.proofs.StampLemmas.{stamps-none}
use Rattle.row_group.proofs.pack.late_of.Goals as goal

pub returns-then-are_all : goal.returns-then-are_all
returns-then-are_all c = rw c.new.ensures (stamps-none c.args.begins.now c.args.order.now c.args.floor c.if-are_all.ensures c.requires)
