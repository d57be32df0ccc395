use Rattle.std.proofs.Common.{sym}
use Rattle.delete_bitmap.proofs.BitLemmas.{length-bits_in}
use Rattle.delete_bitmap.proofs.positions.Positions.len.Goals as goal

pub returns : goal.returns
returns c = rw (← c.self.view_is) (sym (length-bits_in c.self.inside.length c.self.inside.words.items))
