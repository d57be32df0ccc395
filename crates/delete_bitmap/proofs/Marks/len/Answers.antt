use Rattle.std.proofs.Common.{sym, ◌∙◌}
use Rattle.delete_bitmap.proofs.EndLemmas.{length-ends_of}
use Rattle.delete_bitmap.proofs.Marks.len.Goals as goal

pub returns : goal.returns
returns c = rw (← c.self.view_is) (c.len.ensures ∙ sym (length-ends_of c.self.inside.stamps.items c.self.inside.ended))
