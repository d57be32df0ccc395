-- What a worker of a scan finds.
use Rattle.std.specs.Prelude.{◌≡◌, ℕ, List, length}
use Rattle.cs_types.specs.declared.Schema.{Schema}
use Rattle.cs_model.specs.declared.plan.Query.{Query}
use Rattle.group_view.specs.declared.parts.GroupPart.{GroupPart}
use Rattle.group_view.specs.declared.view.Pinned.{Pinned}
use Rattle.batch_aggregate.specs.declared.partial.Partial.{Partial}
use Rattle.batch_aggregate.specs.Standing.{StandsFor}
use Rattle.row_work.specs.Reads.{read_of}

-- a partial answer of the query that stands for the rows that are read of some groups
pub record IsPart (schema : Schema) (query : Query) (pinned : Pinned) (groups : List (ℕ × GroupPart)) (partial : Partial) : Type 0 where
  pub of_schema : partial.schema.now ≡ schema
  pub of_query : partial.query.now ≡ query
  pub rows : StandsFor partial (read_of (length schema.columns) pinned groups)
