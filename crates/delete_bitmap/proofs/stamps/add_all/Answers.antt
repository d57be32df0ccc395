use Rattle.std.proofs.Common.{◌≡◌, ◌++◌, length, take, drop, arith}
use Rattle.std.proofs.lemmas.Grind.{common_steps}
use Rattle.delete_bitmap.proofs.stamps.add_all.Goals as goal

pub returns-clause-order : goal.returns-clause-order
returns-clause-order c =
    let whole : take c.append.new.stamps.len (c.merge.new.stamps ++ drop (length c.merge.new.stamps) c.append.new.stamps.items) ≡ c.merge.new.stamps = grind (arith, common_steps) in
    rw whole c.merge.ensures.order
