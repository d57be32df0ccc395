use Rattle.std.proofs.Common.{pos, negsuc}
use Rattle.row_work.proofs.Bounded.{greatest_of_all, least_of_all}
use Rattle.row_work.proofs.KeptRange.{down_range, equal_range, up_range}
use Rattle.row_work.proofs.exact.range_beside_key.Goals as goal

pub returns-in-Equal : goal.returns-in-Equal
returns-in-Equal c = λ key small. rw c.in-Equal.is (equal_range key.0 c.args.other.0)

pub returns-in-LessEqual : goal.returns-in-LessEqual
returns-in-LessEqual c = λ key small. rw c.in-LessEqual.is (up_range key.0 c.args.other.0 (negsuc 9223372036854775807) (pos 9223372036854775807) (least_of_all key.0 small) (greatest_of_all key.0 small))

pub returns-in-GreaterEqual : goal.returns-in-GreaterEqual
returns-in-GreaterEqual c = λ key small. rw c.in-GreaterEqual.is (down_range key.0 c.args.other.0 (negsuc 9223372036854775807) (pos 9223372036854775807) (least_of_all key.0 small) (greatest_of_all key.0 small))
