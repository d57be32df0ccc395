use Rattle.std.proofs.Common.{List, ℕ, sym, subst, ◌∙◌}
use Rattle.script_reader.specs.declared.script.Mode.TheVariants.{Replay}
use Rattle.script_reader.specs.Scripts.{IsScript}
use Rattle.workload_laws.specs.Scripts.{workload_script}
use Rattle.columnstore.proofs.drawn.read_drawn.Goals as goal

pub unreachable-requires : goal.unreachable-requires
unreachable-requires c =
    let drawn = c.args.drawn in
    let sessions = c.requires.1 in
    let is = subst (λ (z : List ℕ). IsScript Replay z (workload_script drawn.number drawn.sessions drawn.statements)) (sym (c.into_vec.ensures ∙ c.in_ok-text.ensures))
    (c.workload_is_script.ensures.script drawn.number drawn.sessions drawn.statements sessions.0 sessions.1) in
    let memory = sym c.in-Err-Bad.field-0-is ∙ c.in-Err-Bad.ensures.only (workload_script drawn.number drawn.sessions drawn.statements) is in
    cc
