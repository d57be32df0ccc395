use Rattle.std.proofs.Common.{◌∙◌}
use Rattle.group_log.specs.Followed.{ground_of}
use Rattle.script_runner.specs.Schedule.{Scheduled}
use Rattle.script_runner.specs.Running.{IsFrontRun}
use Rattle.script_runner.specs.Logs.{IsLogOf, IsFrontLogOf}
use Rattle.script_runner.proofs.Steps.{log_of, front_log_of, on_ok, on_err}
use Rattle.script_runner.proofs.run.run_schedule.Goals as goal

pub returns-clause-log : goal.returns-clause-log
returns-clause-log g c =
    let script = c.args.script.now in
    let log = c.run_script-result.new.runner.log in
    on_ok (Scheduled (ground_of script.schema c.args.runner.now.sizes) script log) (IsLogOf (ground_of script.schema c.args.runner.now.sizes) script log) c.run_script-result.result
    (log_of c.args.runner.now.sizes script c.run_script-result.new.runner.schema c.run_script-result.new.runner.sizes log c.requires.runnable (c.run_script-result.ensures.schema ∙ c.requires.schema) c.run_script-result.ensures.sizes c.log-log.ensures.followed c.log-log.ensures.counted c.log-log.ensures.reorganized) c.run_script-result.ensures.scheduled

pub returns-clause-front : goal.returns-clause-front
returns-clause-front g c =
    let script = c.args.script.now in
    let log = c.run_script-result.new.runner.log in
    on_err (IsFrontRun (ground_of script.schema c.args.runner.now.sizes) script.lines log) (IsFrontLogOf (ground_of script.schema c.args.runner.now.sizes) script log) c.run_script-result.result
    (front_log_of c.args.runner.now.sizes script c.run_script-result.new.runner.schema c.run_script-result.new.runner.sizes log c.requires.runnable (c.run_script-result.ensures.schema ∙ c.requires.schema) c.run_script-result.ensures.sizes c.log-log.ensures.followed c.log-log.ensures.counted c.log-log.ensures.reorganized) c.run_script-result.ensures.front
