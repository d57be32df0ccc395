use Rattle.std.proofs.Common.{◌≡◌, ◌++◌, map, drop}
use Rattle.bind_forms.specs.Plans.{set_of}
use Rattle.bind_forms.proofs.write.sets_of.Given as goal

abbrev pub invariant-loop-set : goal.invariant-loop-set
invariant-loop-set l = l.made ++ map (set_of l.schema) (drop l.set-index l.sets) ≡ map (set_of l.schema) l.sets
