use Rattle.row_work.proofs.NamedRows.{key_on_right}
use Rattle.row_work.proofs.named.equal_constant.Goals as goal

pub returns-in-Constant-Column : goal.returns-in-Constant-Column
returns-in-Constant-Column c = λ row.
    key_on_right c.args.schema.now row c.args.left.now c.args.right.now c.in-Constant-Column.column c.in-Constant-Column.constant c.in-Constant-Column.is-0 c.in-Constant-Column.is-1 c.if-column-schema-2.true
