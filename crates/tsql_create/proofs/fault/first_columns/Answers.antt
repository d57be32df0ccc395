use Rattle.std.proofs.Common.{sym, arith}
use Rattle.std.proofs.lemmas.List.{length-take-le, take_all}
use Rattle.tsql_create.proofs.fault.first_columns.Goals as goal

pub slice_bounds-result-end : goal.slice_bounds-result-end
slice_bounds-result-end c = sym (length-take-le 32 c.args.columns.now (omega arith))

pub returns-else-columns-gt-MOST_COLUMNS : goal.returns-else-columns-gt-MOST_COLUMNS
returns-else-columns-gt-MOST_COLUMNS c = sym (take_all 32 c.args.columns.now (omega arith))
