use Rattle.std.proofs.Common.{◌≡◌, true, rules}
use Rattle.tsql_grammar.specs.Forms.{next_among}
use Rattle.tsql_grammar.specs.Grammar.{column_aggregates, aggregated}
use Rattle.tsql_reader.proofs.Items.{aggregate_read}
use Rattle.tsql_reader.proofs.item.aggregate_item.Goals as goal

pub returns : goal.returns
unfolding aggregated
returns c =
    let opened : next_among (aggregated c.args.grammar.now.text.now).first c.take_among.new.self.rest.now ≡ true = search rules in
    aggregate_read c.args.grammar.now.text.now column_aggregates (aggregated c.args.grammar.now.text.now) c.args.reader.now.rest.now c.take_among.new.self.rest.now
    c.aggregated.new.reader.rest.now c.in_ok-symbol.symbol c.aggregated.result c.in_ok-symbol.ensures opened c.aggregated.ensures
