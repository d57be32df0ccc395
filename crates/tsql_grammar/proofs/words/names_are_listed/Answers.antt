use Rattle.tsql_grammar.proofs.Names.{is_name}
use Rattle.tsql_grammar.proofs.words.names_are_listed.Goals as goal

pub returns : goal.returns
returns c = is_name
