use Rattle.std.proofs.Common.{◌≡◌, ◌+◌, ◌*◌, length}
use Rattle.tsql_grammar.specs.Forms.{many, seq, with_front}
use Rattle.tsql_grammar.specs.Grammar.{sign, times, begins_primary, primary_at, factor_from, term_from}
use Rattle.tsql_exprs.proofs.grammar.Grammar.+expr.Given as goal

abbrev pub decreases-primary : goal.decreases-primary
decreases-primary l = 11 * l.self.now.depth + 1

abbrev pub decreases-factor : goal.decreases-factor
decreases-factor l = 11 * l.self.now.depth + 2

abbrev pub decreases-next_factor : goal.decreases-next_factor
decreases-next_factor l = 11 * l.self.now.depth + 3

abbrev pub decreases-more_factors : goal.decreases-more_factors
decreases-more_factors l = 11 * l.self.now.depth + 4

abbrev pub decreases-term : goal.decreases-term
decreases-term l = 11 * l.self.now.depth + 5

abbrev pub decreases-next_term : goal.decreases-next_term
decreases-next_term l = 11 * l.self.now.depth + 6

abbrev pub decreases-more_terms : goal.decreases-more_terms
decreases-more_terms l = 11 * l.self.now.depth + 7

abbrev pub decreases-expr : goal.decreases-expr
decreases-expr l = 11 * l.self.now.depth + 8

abbrev pub decreases-nested_expr : goal.decreases-nested_expr
decreases-nested_expr l = 11 * l.self.now.depth + 9

abbrev pub invariant-more_factors-more : goal.invariant-more_factors-more
invariant-more_factors-more l = with_front l.list ((many (seq times (factor_from (begins_primary (primary_at l.self.text.now l.self.depth))))).reads l.reader.rest.now) ≡ (many (seq times (factor_from (begins_primary (primary_at l.self.text.now l.self.depth))))).reads l.fn.reader.rest.now

abbrev pub decreases-more_factors-more : goal.decreases-more_factors-more
decreases-more_factors-more l = length l.reader.rest.now

abbrev pub invariant-more_terms-more : goal.invariant-more_terms-more
invariant-more_terms-more l = with_front l.list ((many (seq sign (term_from (begins_primary (primary_at l.self.text.now l.self.depth))))).reads l.reader.rest.now) ≡ (many (seq sign (term_from (begins_primary (primary_at l.self.text.now l.self.depth))))).reads l.fn.reader.rest.now

abbrev pub decreases-more_terms-more : goal.decreases-more_terms-more
decreases-more_terms-more l = length l.reader.rest.now
