use Rattle.std.proofs.Common.{◌≡◌, true, [], ◌∷◌, rules}
use Rattle.tsql_grammar.specs.declared.terminal.Terminal.TheVariants as terminal
use Rattle.tsql_grammar.specs.Forms.{next_among}
use Rattle.tsql_grammar.specs.Grammar.{counted}
use Rattle.tsql_reader.proofs.Items.{aggregate_read}
use Rattle.tsql_reader.proofs.item.count_item.Goals as goal

pub returns : goal.returns
unfolding counted
returns c =
    let opened : next_among (counted c.args.grammar.now.text.now).first c.take.new.self.rest.now ≡ true = search rules in
    aggregate_read c.args.grammar.now.text.now (terminal.Count ∷ []) (counted c.args.grammar.now.text.now) c.args.reader.now.rest.now c.take.new.self.rest.now
    c.counted.new.reader.rest.now c.in_ok-count.count c.counted.result c.in_ok-count.ensures opened c.counted.ensures
