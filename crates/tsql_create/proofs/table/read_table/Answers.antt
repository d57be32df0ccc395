use Rattle.tsql_create.proofs.TextOrder.{columns_ascend}
use Rattle.tsql_create.proofs.TableClauses.{ok_only, ok_schema, ok_place, err_only, err_place}
use Rattle.tsql_create.proofs.table.read_table.Goals as goal

pub returns-in_err-tree-clause-only : goal.returns-in_err-tree-clause-only
returns-in_err-tree-clause-only c =
    err_only c.args.text.now c.in_err-tree.field-0.0 c.from_residual.result c.from_residual.ensures.1 c.in_err-tree.ensures.only

pub returns-in_err-tree-clause-place : goal.returns-in_err-tree-clause-place
returns-in_err-tree-clause-place c =
    err_place c.args.text.now c.in_err-tree.field-0.0 c.from_residual.result c.from_residual.ensures.1 c.in_err-tree.ensures.only c.in_err-tree.ensures.place

pub table_of-requires-clause-ordered : goal.table_of-requires-clause-ordered
table_of-requires-clause-ordered c = columns_ascend c.args.text.now c.in_ok-tree.tree c.in_ok-tree.ensures.found

pub returns-clause-only : goal.returns-clause-only
returns-clause-only c =
    ok_only c.args.text.now c.in_ok-tree.tree c.in_ok-tree.ensures.found c.in_ok-tree.ensures.only c.table_of.result c.table_of.ensures

pub returns-clause-schema : goal.returns-clause-schema
returns-clause-schema c = ok_schema c.args.text.now c.in_ok-tree.tree c.in_ok-tree.ensures.found c.table_of.result c.table_of.ensures

pub returns-clause-place : goal.returns-clause-place
returns-clause-place c =
    ok_place c.args.text.now c.in_ok-tree.tree c.in_ok-tree.ensures.found c.in_ok-tree.ensures.only c.in_ok-tree.ensures.place c.table_of.result c.table_of.ensures
