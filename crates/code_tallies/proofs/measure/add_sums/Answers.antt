use Rattle.std.proofs.Common.{arith}
use Rattle.code_tallies.specs.Tables.{is_chosen, present_in}
use Rattle.code_tallies.proofs.Standing.{cells-skipped, sums-skipped, counts-small, sums-small, keys-below, counts-next, sums-next}
use Rattle.code_tallies.proofs.measure.add_sums.Goals as goal

pub returns-then-not-has_rows : goal.returns-then-not-has_rows
returns-then-not-has_rows c =
    let chosen = c.args.chosen.now in
    let column = c.args.column.now in
    record {
      counts = cells-skipped chosen c.args.number (omega arith) c.if-not-has_rows.ensures column c.args.counts.now c.requires.counted;
      sums = sums-skipped chosen c.args.number (omega arith) c.if-not-has_rows.ensures column c.args.sums.now c.requires.summed;
    }

pub count_by_key-requires : goal.count_by_key-requires
count_by_key-requires c =
    let chosen = c.args.chosen.now in
    let test = present_in c.args.column.now (is_chosen chosen) in
    let batch = c.read.new.self in
    record {
      room = (c.read.ensures.some, omega (arith, c.read.ensures.count));
      keys = keys-below chosen test c.args.number batch c.read.ensures (omega arith) c.args.counts.now c.requires.counted.long;
      small = counts-small chosen test c.args.number batch c.read.ensures (omega arith) (omega arith) c.args.counts.now c.requires.counted;
    }

pub sum_by_key-requires : goal.sum_by_key-requires
sum_by_key-requires c =
    let chosen = c.args.chosen.now in
    let column = c.args.column.now in
    let test = present_in column (is_chosen chosen) in
    let batch = c.read.new.self in
    record {
      room = (c.read.ensures.some, omega (arith, c.read.ensures.count));
      keys = keys-below chosen test c.args.number batch c.read.ensures (omega arith) c.args.sums.now c.requires.summed.long;
      small = sums-small chosen column c.args.number batch c.read.ensures (omega arith) (omega arith) c.args.sums.now c.requires.summed;
    }

pub returns-clause-counts : goal.returns-clause-counts
returns-clause-counts c =
    let chosen = c.args.chosen.now in
    counts-next chosen (present_in c.args.column.now (is_chosen chosen)) c.args.number c.read.new.self c.read.ensures (omega arith)
    c.args.counts.now c.count_by_key.new.counts c.count_by_key.auto.counts c.requires.counted c.count_by_key.ensures

pub returns-clause-sums : goal.returns-clause-sums
returns-clause-sums c =
    let chosen = c.args.chosen.now in
    let column = c.args.column.now in
    sums-next chosen column c.args.number c.read.new.self c.read.ensures (omega arith) c.args.sums.now c.sum_by_key.new.sums c.number_batch.new.out c.sum_by_key.auto.sums c.requires.summed
    c.number_batch.ensures.numbers c.sum_by_key.ensures.sums c.sum_by_key.ensures.bound
