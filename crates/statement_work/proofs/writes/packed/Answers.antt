use Rattle.statement_core.specs.Terms.{sizes_of}
use Rattle.statement_work.proofs.Given.{load_gives}
use Rattle.statement_work.proofs.writes.packed.Goals as goal

pub returns-in-Ok-clause-gives : goal.returns-in-Ok-clause-gives
returns-in-Ok-clause-gives c = λ begun written implicit same rows needs.
    let sizes = sizes_of c.args.terms.now in
    let is = rw c.deref.ensures at (c.in-Ok.ensures.parcel written) in
    load_gives sizes begun c.args.terms.now.schema.value written c.args.rows.keys c.in-Ok.parcel implicit same rows.keyed (is rows.held) needs
