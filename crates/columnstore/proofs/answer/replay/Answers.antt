use Rattle.cs_model.specs.State.{begin_of}
use Rattle.group_log.specs.Followed.{ground_of}
use Rattle.script_runner.specs.Logs.{IsLogOf}
use Rattle.columnstore.specs.Outcome.{sizes_in}
use Rattle.columnstore.proofs.Replayed.{replayed}
use Rattle.columnstore.proofs.answer.replay.Goals as goal

pub returns : goal.returns
returns g c = record {
  text = replayed (λ sizes log. IsLogOf (ground_of c.args.script.now.schema sizes) c.args.script.now log) (begin_of c.args.script.now.schema) (sizes_in c.args.options) c.in_ok-runner.runner.sizes
      c.text_of_run.new.runner.log c.text_of_run.result c.in_ok-runner.ensures.sizes c.text_of_run.ensures.whole c.text_of_run.ensures.text;
}
