use Rattle.std.proofs.Common.{refl, rules}
use Rattle.tsql_grammar.proofs.Loops.{goes_on, shorter}
use Rattle.tsql_exprs.proofs.Depth.{front_nil}
use Rattle.tsql_create.specs.Setup.{primary_key, mark}
use Rattle.tsql_create.proofs.SetupLines.{mark_laws}
use Rattle.tsql_create.proofs.create.marks.Goals as goal

pub more-init : goal.more-init
more-init c = rw (c.new-list.ensures) (front_nil _)

pub more-smaller : goal.more-smaller
unfolding mark primary_key
more-smaller c =
    shorter mark mark_laws refl refl c.more.reader.rest.now c.mark.new.reader.rest.now c.in_ok-next.next c.in_ok-next.ensures

pub more-preserved : goal.more-preserved
unfolding mark primary_key
more-preserved c =
    rw (c.in_ok-push.ensures.ok) (goes_on mark mark_laws refl refl
    c.more.list c.more.reader.rest.now c.mark.new.reader.rest.now c.in_ok-next.next _ (search rules) c.in_ok-next.ensures c.more.invariant)
