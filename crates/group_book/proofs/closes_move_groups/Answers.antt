use Rattle.group_book.proofs.Moves.{close_moves}
use Rattle.group_book.proofs.closes_move_groups.Goals as goal

pub returns : goal.returns
returns c = close_moves
