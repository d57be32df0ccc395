use Rattle.std.proofs.Common.{◌∙◌, refl, inl, inr}
use Rattle.columnstore.specs.declared.status.Status.TheVariants as status
use Rattle.columnstore.specs.declared.way.Way.TheVariants.{OnThreads}
use Rattle.columnstore.specs.Outcome.{sizes_in}
use Rattle.columnstore.proofs.Replayed.{told_by}
use Rattle.columnstore.proofs.answer.serve.Goals as goal

pub returns-in-Ok : goal.returns-in-Ok
returns-in-Ok g c = record {
  text = told_by (OnThreads c.args.movers) c.args.script.now (sizes_in c.args.options) c.in_ok-core.core.sizes c.in-Ok.core.schema status.Done c.in-Ok.core.log c.text_of.result
      c.in_ok-core.ensures.sizes (c.in-Ok.ensures.schema ∙ c.in_ok-core.ensures.schema) (inl (refl, c.in-Ok.ensures.ran)) c.text_of.ensures.status c.text_of.ensures.text;
}

pub returns-in-Err : goal.returns-in-Err
returns-in-Err g c = record {
  text = told_by (OnThreads c.args.movers) c.args.script.now (sizes_in c.args.options) c.in_ok-core.core.sizes c.in-Err.core.schema status.Memory c.in-Err.core.log c.text_of-in-Err.result
      c.in_ok-core.ensures.sizes (c.in-Err.ensures.schema_then ∙ c.in_ok-core.ensures.schema) (inr (refl, c.in-Err.ensures.stopped)) c.text_of-in-Err.ensures.status c.text_of-in-Err.ensures.text;
}
