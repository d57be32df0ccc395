use Rattle.std.proofs.Common.{◌≡◌, ◌∙◌, List, subst, sym, All, Contains}
use Rattle.std.proofs.lemmas.List.Elements.{All-contains_itself}
use Rattle.std.specs.Prelude.{IfOk}
use Rattle.cs_types.specs.declared.Schema.{Schema}
use Rattle.cs_model.specs.declared.entry.Entry.{Entry}
use Rattle.cs_model.specs.State.{start, begin_of}
use Rattle.cs_model.specs.Steps.{Legal}
use Rattle.group_book.specs.Book.{empty}
use Rattle.group_log.specs.Followed.{ground_of}
use Rattle.group_log.proofs.Follow.{follows_leads}
use Rattle.log_summary.specs.Summary.{summary}
use Rattle.columnstore.specs.Outcome.{sizes_in, drawn_script}
use Rattle.columnstore.proofs.Replayed.{summed}
use Rattle.columnstore.proofs.drawn.load.Goals as goal

pub run_schedule-requires-clause-known : goal.run_schedule-requires-clause-known
run_schedule-requires-clause-known g c κs within =
    let script = c.in_ok-script.script in
    subst (λ served. All (λ session. Contains served session) script.sessions) (sym c.in_ok-runner.ensures.sessions) (All-contains_itself script.sessions)

pub returns : goal.returns
returns g c =
    let script = c.in_ok-script.script in
    let had = c.in_ok-runner.runner.sizes in
    let runner = c.run_schedule.new.runner in
    let run = c.in_ok-run_schedule.ensures.log in
    let history = run.history in
    let leads : Legal (begin_of script.schema) runner.log history.state = follows_leads (ground_of script.schema had) start history.state empty history.book runner.log history.followed in
    let same : runner.schema ≡ script.schema = c.run_schedule.ensures.schema ∙ c.in_ok-runner.ensures.schema in
    let counted = c.rows-rows.ensures history.state (subst (λ (schema : Schema). Legal (begin_of schema) runner.log history.state) (sym same) leads) in
    let written = subst (λ (entries : List Entry). IfOk c.print_summary.result (λ line. line ≡ summary entries c.rows-rows.result)) c.log.ensures.log c.print_summary.ensures in
    summed (sizes_in c.args.options) had (drawn_script c.args.drawn) script runner.log history.state c.rows-rows.result c.print_summary.result
    c.in_ok-runner.ensures.sizes c.in_ok-script.ensures.reads run leads counted written
