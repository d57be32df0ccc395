use Rattle.std.proofs.Common.{sym, subst, All, Contains}
use Rattle.std.proofs.lemmas.List.Elements.{All-contains_itself}
use Rattle.script_runner.proofs.made.text_of_run.Goals as goal

pub run_schedule-requires-clause-known : goal.run_schedule-requires-clause-known
run_schedule-requires-clause-known g c κs within =
    subst (λ served. All (λ session. Contains served session) c.args.script.now.sessions) (sym c.requires.sessions)
    (All-contains_itself c.args.script.now.sessions)
