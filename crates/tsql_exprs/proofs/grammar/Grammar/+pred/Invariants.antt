use Rattle.std.proofs.Common.{◌≡◌, ◌+◌, ◌*◌, length}
use Rattle.tsql_grammar.specs.declared.terminal.Terminal.TheVariants as terminal
use Rattle.tsql_grammar.specs.Forms.{many, with_front}
use Rattle.tsql_grammar.specs.Grammar.{behind, begins_part, part_at, neg_from, conj_from}
use Rattle.tsql_exprs.proofs.grammar.Grammar.+pred.Given as goal

abbrev pub decreases-part : goal.decreases-part
decreases-part l = 11 * l.self.now.depth + 1

abbrev pub decreases-neg : goal.decreases-neg
decreases-neg l = 11 * l.self.now.depth + 2

abbrev pub decreases-next_neg : goal.decreases-next_neg
decreases-next_neg l = 11 * l.self.now.depth + 3

abbrev pub decreases-more_negs : goal.decreases-more_negs
decreases-more_negs l = 11 * l.self.now.depth + 4

abbrev pub decreases-conj : goal.decreases-conj
decreases-conj l = 11 * l.self.now.depth + 5

abbrev pub decreases-next_conj : goal.decreases-next_conj
decreases-next_conj l = 11 * l.self.now.depth + 6

abbrev pub decreases-more_conjs : goal.decreases-more_conjs
decreases-more_conjs l = 11 * l.self.now.depth + 7

abbrev pub decreases-pred : goal.decreases-pred
decreases-pred l = 11 * l.self.now.depth + 8

abbrev pub decreases-nested_pred : goal.decreases-nested_pred
decreases-nested_pred l = 11 * l.self.now.depth + 9

abbrev pub invariant-more_negs-more : goal.invariant-more_negs-more
invariant-more_negs-more l = with_front l.list ((many (behind terminal.And (neg_from (begins_part (part_at l.self.text.now l.self.depth))))).reads l.reader.rest.now) ≡ (many (behind terminal.And (neg_from (begins_part (part_at l.self.text.now l.self.depth))))).reads l.fn.reader.rest.now

abbrev pub decreases-more_negs-more : goal.decreases-more_negs-more
decreases-more_negs-more l = length l.reader.rest.now

abbrev pub invariant-more_conjs-more : goal.invariant-more_conjs-more
invariant-more_conjs-more l = with_front l.list ((many (behind terminal.Or (conj_from (begins_part (part_at l.self.text.now l.self.depth))))).reads l.reader.rest.now) ≡ (many (behind terminal.Or (conj_from (begins_part (part_at l.self.text.now l.self.depth))))).reads l.fn.reader.rest.now

abbrev pub decreases-more_conjs-more : goal.decreases-more_conjs-more
decreases-more_conjs-more l = length l.reader.rest.now
