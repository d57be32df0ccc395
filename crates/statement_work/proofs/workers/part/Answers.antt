use Rattle.std.proofs.Common.{◌∙◌, []}
use Rattle.statement_work.proofs.workers.part.Goals as goal

pub returns : goal.returns
returns g c = record {
  of_schema = c.in_ok-add_groups.ensures.schema ∙ c.in_ok-partial.ensures.schema;
  of_query = c.in_ok-add_groups.ensures.query ∙ c.in_ok-partial.ensures.query;
  rows = rw c.in_ok-add_groups.was at (c.add_groups.ensures.added [] c.in_ok-partial.ensures.empty);
}
