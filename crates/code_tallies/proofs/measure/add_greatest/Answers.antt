use Rattle.std.proofs.Common.{arith}
use Rattle.code_tallies.specs.Tables.{is_chosen, present_in}
use Rattle.code_tallies.proofs.Standing.{cells-skipped, greatest-skipped, counts-small, keys-below, counts-next, greatest-next}
use Rattle.code_tallies.proofs.measure.add_greatest.Goals as goal

pub returns-then-not-has_rows : goal.returns-then-not-has_rows
returns-then-not-has_rows c =
    let chosen = c.args.chosen.now in
    let column = c.args.column.now in
    record {
      counts = cells-skipped chosen c.args.number (omega arith) c.if-not-has_rows.ensures column c.args.counts.now c.requires.counted;
      greatest = greatest-skipped chosen c.args.number (omega arith) c.if-not-has_rows.ensures column c.args.greatest.now c.requires.before;
    }

pub count_by_key-requires : goal.count_by_key-requires
count_by_key-requires c =
    let chosen = c.args.chosen.now in
    let test = present_in c.args.column.now (is_chosen chosen) in
    let batch = c.read_codes.new.self in
    record {
      room = (c.read_codes.ensures.batch.some, omega (arith, c.read_codes.ensures.batch.count));
      keys = keys-below chosen test c.args.number batch c.read_codes.ensures.batch (omega arith) c.args.counts.now c.requires.counted.long;
      small = counts-small chosen test c.args.number batch c.read_codes.ensures.batch (omega arith) (omega arith) c.args.counts.now c.requires.counted;
    }

pub greatest_by_key-requires : goal.greatest_by_key-requires
greatest_by_key-requires c =
    let chosen = c.args.chosen.now in
    let column = c.args.column.now in
    let test = present_in column (is_chosen chosen) in
    let batch = c.read_codes.new.self in
    record {
      room = (c.read_codes.ensures.batch.some, omega (arith, c.read_codes.ensures.batch.count));
      keys = keys-below chosen test c.args.number batch c.read_codes.ensures.batch (omega arith) c.args.greatest.now c.requires.before.long;
    }

pub returns-clause-counts : goal.returns-clause-counts
returns-clause-counts c =
    let chosen = c.args.chosen.now in
    counts-next chosen (present_in c.args.column.now (is_chosen chosen)) c.args.number c.read_codes.new.self c.read_codes.ensures.batch (omega arith)
    c.args.counts.now c.count_by_key.new.counts c.count_by_key.auto.counts c.requires.counted c.count_by_key.ensures

pub returns-clause-greatest : goal.returns-clause-greatest
returns-clause-greatest c =
    let chosen = c.args.chosen.now in
    let column = c.args.column.now in
    greatest-next chosen column c.args.number c.read_codes.new.self c.read_codes.ensures.batch (omega arith) c.args.greatest.now c.greatest_by_key.new.greatest c.greatest_by_key.auto.greatest c.read_codes.ensures.codes c.requires.before c.greatest_by_key.ensures
