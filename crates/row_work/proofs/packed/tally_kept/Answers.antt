use Rattle.std.proofs.Common.{◌∙◌, sym}
use Rattle.row_work.proofs.Sieved.{no_verdict, verdict_at}
use Rattle.code_tallies.specs.Shown.{cells_at}
use Rattle.row_work.proofs.packed.tally_kept.Goals as goal

pub tally_group-requires : goal.tally_group-requires
tally_group-requires c = λ i within shown.
    verdict_at c.args.partial.now.schema.now c.args.partial.now.query.now.filter c.args.packed.now c.in-Some.sieve (sym c.in-Some.is ∙ c.requires) i within

pub tally_group-requires-in-None : goal.tally_group-requires-in-None
tally_group-requires-in-None c = λ i within shown.
    no_verdict c.args.partial.now.schema.now c.args.partial.now.query.now.filter c.args.packed.now (sym c.in-None.is ∙ c.requires) (cells_at c.args.packed.now i)
