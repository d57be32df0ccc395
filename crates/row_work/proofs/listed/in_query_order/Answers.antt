use Rattle.std.proofs.Common.{◌≡◌, ◌∙◌, true, false, sym}
use Rattle.std.proofs.lemmas.List.Sorted.{IsPermutation-refl}
use Rattle.row_work.proofs.listed.in_query_order.Goals as goal

pub returns-then-query-clause-same : goal.returns-then-query-clause-same
returns-then-query-clause-same c = IsPermutation-refl c.args.positions.items

pub returns-then-query-clause-order : goal.returns-then-query-clause-order
returns-then-query-clause-order c = λ flags these plain. let no : true ≡ false = sym c.if-query.true ∙ plain in absurd cc

pub returns-else-query-clause-order : goal.returns-else-query-clause-order
returns-else-query-clause-order c = λ flags these plain. c.in_order.ensures.order flags these
