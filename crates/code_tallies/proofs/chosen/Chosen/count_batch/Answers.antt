use Rattle.std.proofs.Common.{arith}
use Rattle.code_tallies.specs.Tables.{is_chosen}
use Rattle.code_tallies.proofs.Standing.{rows-skipped, counts-small, keys-below, counts-next}
use Rattle.code_tallies.proofs.chosen.Chosen.count_batch.Goals as goal

pub returns-then-not-has_rows : goal.returns-then-not-has_rows
returns-then-not-has_rows c =
    rows-skipped c.args.self.now c.args.number (omega arith) c.if-not-has_rows.ensures c.args.counts.now c.requires.before

pub count_by_key-requires : goal.count_by_key-requires
count_by_key-requires c =
    let chosen = c.args.self.now in
    let batch = c.read_chosen.new.self in
    record {
      room = (c.read_chosen.ensures.some, omega (arith, c.read_chosen.ensures.count));
      keys = keys-below chosen (is_chosen chosen) c.args.number batch c.read_chosen.ensures (omega arith) c.args.counts.now c.requires.before.long;
      small = counts-small chosen (is_chosen chosen) c.args.number batch c.read_chosen.ensures (omega arith) (omega arith) c.args.counts.now c.requires.before;
    }

pub returns : goal.returns
returns c =
    let chosen = c.args.self.now in
    counts-next chosen (is_chosen chosen) c.args.number c.read_chosen.new.self c.read_chosen.ensures (omega arith)
    c.args.counts.now c.count_by_key.new.counts c.count_by_key.auto.counts c.requires.before c.count_by_key.ensures
