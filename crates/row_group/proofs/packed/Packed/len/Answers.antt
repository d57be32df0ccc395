use Rattle.std.proofs.Common.{sym}
use Rattle.row_group.proofs.ShownLemmas.{length-shown}
use Rattle.row_group.proofs.packed.Packed.len.Goals as goal

pub returns : goal.returns
returns c =
    let f = c.self.inside in
    rw (← c.self.view_is) (sym (length-shown f.segments f.late f.base f.length))
