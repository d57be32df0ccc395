use Rattle.std.proofs.Common.{ap, sym, ◌∙◌}
use Rattle.tsql_create.specs.Written.{columns, keys}
use Rattle.tsql_create.proofs.Leftmost.{none_found}
use Rattle.tsql_create.proofs.table.table_of.Goals as goal

pub schema_of-requires-clause-sound : goal.schema_of-requires-clause-sound
schema_of-requires-clause-sound c =
    none_found c.args.size c.args.tree.now c.in_ok-written.written.columns c.in_ok-written.written.keys
    (c.in_ok-written.ensures.columns ∙ ap columns c.as_slice.ensures) (c.in_ok-written.ensures.keys ∙ ap (keys 0) c.as_slice.ensures) (sym c.in-None.ensures)
