use Rattle.row_work.proofs.KeptRange.{beside_days, beside_numbers}
use Rattle.row_work.proofs.exact.number_beside.Goals as goal

pub returns-in-TinyInt : goal.returns-in-TinyInt
returns-in-TinyInt c = beside_numbers c.args.kind c.in-TinyInt.is c.args.constant.now c.whole_of.result c.whole_of.ensures

pub returns-in-Date : goal.returns-in-Date
returns-in-Date c = beside_days c.args.kind c.in-Date.is c.args.constant.now c.day_of.result c.day_of.ensures
