use Rattle.group_book.proofs.Committed.{commit_moves}
use Rattle.group_book.proofs.commits_move_groups.Goals as goal

pub returns : goal.returns
returns c = commit_moves
