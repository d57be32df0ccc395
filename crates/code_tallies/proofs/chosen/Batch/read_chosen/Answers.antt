use Rattle.std.proofs.Common.{◌+◌, ◌*◌, sym, subst, arith}
use Rattle.code_tallies.specs.Keys.{HasKeys}
use Rattle.code_tallies.proofs.BatchSteps.{keys-fewer}
use Rattle.code_tallies.proofs.chosen.Batch.read_chosen.Goals as goal

pub read_keys-requires-clause-there : goal.read_keys-requires-clause-there
read_keys-requires-clause-there c =
    let chosen = c.args.chosen.now in
    subst (HasKeys (1024 * c.args.number + c.count-self.result)) (sym c.deref.ensures.value)
    (keys-fewer chosen.length (1024 * c.args.number + c.count-self.result) chosen.keys.items (omega arith) c.requires.keyed)
