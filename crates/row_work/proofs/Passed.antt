-- Rows that a filter leaves out.
use Rattle.std.proofs.Common.{◌≡◌, ◌++◌, List, [], filter, sym, ap, subst, ◌∙◌}
use Rattle.std.proofs.lemmas.List.{append-nil}
use Rattle.std.proofs.lemmas.List.Elements.{filter-append}
use Rattle.cs_types.specs.declared.Schema.{Schema}
use Rattle.cs_types.specs.declared.Value.{Value}
use Rattle.cs_model.specs.declared.plan.Query.{Query}
use Rattle.cs_model.specs.Queries.{keeps, kept}
use Rattle.batch_aggregate.specs.declared.partial.Partial.{Partial}
use Rattle.batch_aggregate.specs.Standing.{Keeps, StandsFor}

module _ (schema : Schema) where
  -- rows that the filter leaves out change nothing of what a partial answer stands for
  pub stands_on : (query : Query) (partial : Partial) (rows more : List (List Value)) → partial.schema.now ≡ schema → partial.query.now ≡ query → filter (keeps schema query.filter) more ≡ []
      → StandsFor partial rows → StandsFor partial (rows ++ more)
  stands_on query partial rows more of_schema of_query none stands =
      subst (Keeps partial.query.now.grouped partial) (sym all) stands
    where
      none_here : filter (keeps partial.schema.now partial.query.now.filter) more ≡ []
      none_here = (λ k. filter (keeps (of_schema k) (let q : Query = of_query k in q.filter)) more) ∙ none

      all : kept partial.schema.now partial.query.now (rows ++ more) ≡ kept partial.schema.now partial.query.now rows
      all =
          filter-append (keeps partial.schema.now partial.query.now.filter) rows more
          ∙ ap (λ l. kept partial.schema.now partial.query.now rows ++ l) none_here
          ∙ append-nil (kept partial.schema.now partial.query.now rows)
