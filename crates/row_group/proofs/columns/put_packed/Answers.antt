use Rattle.row_group.proofs.ColumnLemmas.{cut-back}
use Rattle.row_group.proofs.columns.put_packed.Goals as goal

pub returns-in-Err-clause-err : goal.returns-in-Err-clause-err
returns-in-Err-clause-err c =
    cut-back c.args.count c.args.columns.now.items c.add_packed.new.columns.items c.cut_columns.new.columns.items c.requires.even c.in-Err.ensures.err c.cut_columns.ensures
