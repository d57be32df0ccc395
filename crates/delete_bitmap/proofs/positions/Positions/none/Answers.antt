use Rattle.delete_bitmap.proofs.BitLemmas.{bits_in-none}
use Rattle.delete_bitmap.proofs.positions.Positions.none.Goals as goal

pub returns : goal.returns
returns c = rw c.new.ensures.items (bits_in-none c.args.length)
