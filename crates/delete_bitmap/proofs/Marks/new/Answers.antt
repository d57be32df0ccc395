use Rattle.delete_bitmap.proofs.EndLemmas.{ends_of-none}
use Rattle.delete_bitmap.proofs.Marks.new.Goals as goal

pub returns : goal.returns
returns c = rw (c.new.ensures.items, c.none.ensures) (ends_of-none c.args.length)
