use Rattle.std.proofs.Common.{rules, []}
use Rattle.write_set.specs.Writes.{staged}
use Rattle.write_set.proofs.Orders.{values_keyed}
use Rattle.write_set.proofs.order.sorted.Goals as goal

pub loop-write-init : goal.loop-write-init
loop-write-init c =
    let values = values_keyed (staged [] c.args.writes.items) in
    search rules
