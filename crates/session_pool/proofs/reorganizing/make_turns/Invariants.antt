use Rattle.std.proofs.Common.{◌≡◌}
use Rattle.std.specs.Prelude.{None}
use Rattle.group_log.specs.Followed.{ground_of}
use Rattle.history_gate.specs.Histories.{list_of}
use Rattle.session_pool.specs.Events.{entries_in, held_in}
use Rattle.session_pool.specs.Works.{IsUnderWay, HasWorked}
use Rattle.session_pool.proofs.reorganizing.make_turns.Given as goal

-- after each turn the session holds no claim
abbrev pub invariant-turns : goal.invariant-turns
invariant-turns g l =
    HasWorked l.fn.session l.fn.pass l.pass × (held_in (list_of l.fn.session l.pass.own) ≡ None) × IsUnderWay (ground_of g.J.Made.schema g.J.Made.sizes) (entries_in l.pass.seen) l.fn.session l.course

abbrev pub decreases-turns : goal.decreases-turns
decreases-turns g l = l.course.turns
