use Rattle.std.proofs.Common.{◌<◌, List, Bool, false, set, ap, ◌∙◌}
use Rattle.delete_bitmap.proofs.BitLemmas.{length-bits_in}
use Rattle.delete_bitmap.proofs.positions.Positions.remove.Goals as goal

pub returns : goal.returns
returns c =
    let short : c.args.position < c.self.inside.length = rw (← c.self.view_is, length-bits_in) at c.requires in
    c.clear.ensures.bits c.self.inside.length short ∙ ap (λ (bits : List Bool). set bits c.args.position false) c.self.view_is
