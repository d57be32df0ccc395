use Rattle.std.proofs.Common.{sym, subst, All, length, ◌<◌, ◌≤◌, arith}
use Rattle.cs_types.specs.Schemas.{IsSchema}
use Rattle.log_laws.specs.Laws.{AreDistinct}
use Rattle.script_turns.proofs.Sessions.{sessions_below, sessions_few, sessions_distinct}
use Rattle.script_runner.proofs.made.core_for.Goals as goal

pub new-requires : goal.new-requires
new-requires c = record {
  table = subst IsSchema (sym c.in_ok-schema.ensures) c.requires.runnable.schema;
  sizes = c.requires.sizes;
  numbers = subst (All (λ session. session < 65)) (sym c.as_slice.ensures) (sessions_below c.args.script.now c.requires.runnable);
  few = subst (λ sessions. length sessions ≤ 64) (sym c.as_slice.ensures) (sessions_few c.args.script.now c.requires.runnable);
  distinct = subst AreDistinct (sym c.as_slice.ensures) (sessions_distinct c.args.script.now c.requires.runnable);
}
