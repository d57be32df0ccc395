use Rattle.std.proofs.Common.{sym, subst}
use Rattle.batch_aggregate.specs.Standing.{StandsFor}
use Rattle.row_work.specs.Stores.{AreRowsRead}
use Rattle.row_work.proofs.Stored.{rows_read}
use Rattle.row_work.proofs.select.add_by_codes.Goals as goal

pub tally_range-requires-clause-rows : goal.tally_range-requires-clause-rows
tally_range-requires-clause-rows c = subst (AreRowsRead c.args.schema.now c.args.pinned.now) c.requires.versions (rows_read c.args.schema.now c.args.pinned.now c.args.group c.requires.may)

pub returns-clause-added : goal.returns-clause-added
returns-clause-added c = λ rows stands. c.add_packed.ensures.added rows (subst (λ p. StandsFor p rows) (sym (c.in_ok-is_tallied.ensures.declined c.if-is_tallied.false)) stands)
