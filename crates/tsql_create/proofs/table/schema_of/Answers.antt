use Rattle.std.proofs.Common.{◌∙◌}
use Rattle.tsql_create.proofs.Sound.{sound_types}
use Rattle.tsql_create.proofs.table.schema_of.Goals as goal

pub schema_columns-requires : goal.schema_columns-requires
schema_columns-requires c = sound_types c.args.size c.args.tree.now c.as_slice-columns.result.now c.requires.sound (c.as_slice-columns.ensures ∙ c.requires.written.0)
