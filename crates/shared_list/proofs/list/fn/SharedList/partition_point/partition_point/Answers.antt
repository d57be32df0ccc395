use Rattle.std.proofs.Common.{[], ◌∷◌, ◌∙◌}
use Rattle.shared_list.proofs.Points.{first_passes}
use Rattle.shared_list.proofs.list.fn.SharedList.partition_point.partition_point.Goals as goal

pub returns-in-Some : goal.returns-in-Some
returns-in-Some g c = λ p by.
    let called = (g.met.P.FnMut.1.post_iff _ _ _).0 c.pred.ensures in
    let first = rw (c.in-Some.is, c.as_slice.ensures) at c.first.ensures.value in
    (by.at ((c.in-Some.item, tt) ∷ []) c.pred.result called.0 called.1).0 ∙ first_passes p c.args.chunk.now.items c.in-Some.item.now first
