use Rattle.std.proofs.Common.{◌≡◌, refl, arith}
use Rattle.code_tallies.specs.Keys.{key_count}
use Rattle.code_tallies.proofs.Adding.{stands-start, stands-end}
use Rattle.code_tallies.proofs.finish.add_groups.Goals as goal

pub loop-key-init : goal.loop-key-init
loop-key-init c = record {
  schema = refl;
  query = refl;
  added = λ group rows scan stands. stands-start group c.args.partial.now c.args.chosen.now rows stands;
}

pub add_key-requires-clause-tables : goal.add_key-requires-clause-tables
add_key-requires-clause-tables c = c.requires.tables c.loop-key.key (omega (arith, c.requires.counts))

pub returns-clause-added : goal.returns-clause-added
returns-clause-added c = λ group rows scan stands.
    let all : c.loop-key.key ≡ key_count c.args.chosen.now.keys.items = omega (arith, c.requires.counts) in
    stands-end group c.loop-key.partial c.args.chosen.now rows c.loop-key.key all c.requires.keyed (c.loop-key.invariant.added group rows scan stands)
