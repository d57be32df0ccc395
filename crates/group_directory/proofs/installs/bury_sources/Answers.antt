use Rattle.std.proofs.Common.{set, sym, ap, ◌∙◌, arith}
use Rattle.std.proofs.lemmas.List.Edits.{map_over_more}
use Rattle.group_view.specs.declared.groups.Group.{Group}
use Rattle.group_directory.specs.Installing.{buried, ids_of}
use Rattle.group_directory.proofs.installs.bury_sources.Goals as goal

pub loop-group-preserved : goal.loop-group-preserved
loop-group-preserved c =
    ap (λ (group : Group). set c.loop-group.groups c.loop-group.group-index group) (c.bury_source.ensures ∙ ap (buried (ids_of c.args.sources.now.groups)) (sym c.group-item.is))
    ∙ map_over_more (buried (ids_of c.args.sources.now.groups)) c.args.groups.now c.loop-group.groups c.loop-group.group-index c.group-item.result (omega arith) c.loop-group.invariant c.group-item.is
