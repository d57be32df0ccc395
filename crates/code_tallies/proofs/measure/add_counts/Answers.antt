use Rattle.std.proofs.Common.{arith}
use Rattle.code_tallies.specs.Tables.{is_chosen, present_in}
use Rattle.code_tallies.proofs.Standing.{cells-skipped, counts-small, keys-below, counts-next}
use Rattle.code_tallies.proofs.measure.add_counts.Goals as goal

pub returns-then-not-has_rows : goal.returns-then-not-has_rows
returns-then-not-has_rows c =
    cells-skipped c.args.chosen.now c.args.number (omega arith) c.if-not-has_rows.ensures c.args.column.now c.args.counts.now c.requires.before

pub count_by_key-requires : goal.count_by_key-requires
count_by_key-requires c =
    let chosen = c.args.chosen.now in
    let test = present_in c.args.column.now (is_chosen chosen) in
    let batch = c.read.new.self in
    record {
      room = (c.read.ensures.some, omega (arith, c.read.ensures.count));
      keys = keys-below chosen test c.args.number batch c.read.ensures (omega arith) c.args.counts.now c.requires.before.long;
      small = counts-small chosen test c.args.number batch c.read.ensures (omega arith) (omega arith) c.args.counts.now c.requires.before;
    }

pub returns : goal.returns
returns c =
    let chosen = c.args.chosen.now in
    counts-next chosen (present_in c.args.column.now (is_chosen chosen)) c.args.number c.read.new.self c.read.ensures (omega arith)
    c.args.counts.now c.count_by_key.new.counts c.count_by_key.auto.counts c.requires.before c.count_by_key.ensures
