use Rattle.tsql_reader.proofs.Names.{other_ok, other_err}
use Rattle.tsql_reader.proofs.item.other_item.Goals as goal

pub returns : goal.returns
returns c =
    other_ok c.args.grammar.now.text.now c.args.reader.now.rest.now c.name.new.reader.rest.now c.requires.count c.requires.aggregate c.in_ok-name.name c.in_ok-name.ensures

pub returns-in_err-name : goal.returns-in_err-name
returns-in_err-name c =
    other_err c.args.grammar.now.text.now c.args.reader.now.rest.now c.name.new.reader.rest.now c.requires.count c.requires.aggregate c.from_residual.result c.in_err-name.field-0.0 c.from_residual.ensures.1 c.in_err-name.ensures
