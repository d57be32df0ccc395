use Rattle.std.proofs.Common.{◌≡◌, ◌<◌, ◌⊎◌, length, slice_index, ap, sym, subst, ◌∙◌, arith}
use Rattle.code_tallies.specs.Keys.{HasKeys, cells_of_key}
use Rattle.code_tallies.proofs.Adding.{stands-key, stands-none}
use Rattle.code_tallies.proofs.BatchSteps.{keys-fewer}
use Rattle.code_tallies.proofs.finish.add_key.Goals as goal

pub returns-then-not-is_group-clause-added : goal.returns-then-not-is_group-clause-added
returns-then-not-is_group-clause-added c = λ group first rows scan schema query stands.
    let within : c.args.key < c.args.chosen.now.size = omega (arith, c.requires.key, c.requires.counts) in
    stands-none group first c.args.partial.now c.args.chosen.now c.args.counts.now c.args.tables.now scan schema query rows c.args.key within c.if-not-is_group.ensures.none stands

pub cells_of-requires : goal.cells_of-requires
cells_of-requires c =
    let chosen = c.args.chosen.now in
    subst (HasKeys 0) (sym c.deref-2.ensures.value) (keys-fewer chosen.length 0 chosen.keys.items (omega arith) c.requires.keyed)

pub returns-clause-added : goal.returns-clause-added
returns-clause-added c = λ group first rows scan schema query stands.
    let within : c.args.key < c.args.chosen.now.size = omega (arith, c.requires.key, c.requires.counts) in
    let some : (0 < slice_index c.args.counts.now c.args.key) ⊎ (length c.args.chosen.now.keys.items ≡ 0)
    = subst (λ l. (0 < slice_index c.args.counts.now c.args.key) ⊎ (length l ≡ 0)) c.deref.ensures.value c.if-not-is_group.ensures.some in
    stands-key group first c.args.partial.now c.args.chosen.now c.args.counts.now c.args.tables.now scan schema query c.add_group.new.self rows c.args.key
    c.in_ok-cells.cells c.in_ok-tallies.tallies within
    (c.in_ok-cells.ensures ∙ ap (λ columns. cells_of_key columns c.args.key) c.deref-2.ensures.value)
    c.in_ok-tallies.ensures some c.in_ok-add_group.ensures.query c.in_ok-add_group.ensures.added stands
