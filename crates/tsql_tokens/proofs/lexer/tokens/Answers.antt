use Rattle.tsql_tokens.proofs.Steps.{gives_found, gives_spans, gives_only, gives_refused, gives_place}
use Rattle.tsql_tokens.proofs.lexer.tokens.Goals as goal

pub returns-clause-found : goal.returns-clause-found
returns-clause-found c = gives_found c.cut.result c.args.text.now c.cut.ensures

pub returns-clause-only : goal.returns-clause-only
returns-clause-only c = gives_only c.cut.result c.args.text.now c.cut.ensures

pub returns-clause-refused : goal.returns-clause-refused
returns-clause-refused c = gives_refused c.cut.result c.args.text.now c.cut.ensures

pub returns-clause-place : goal.returns-clause-place
returns-clause-place c = gives_place c.cut.result c.args.text.now c.cut.ensures

pub returns-clause-spans : goal.returns-clause-spans
returns-clause-spans c = gives_spans c.cut.result c.args.text.now c.cut.ensures
