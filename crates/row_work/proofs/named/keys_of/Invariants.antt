use Rattle.std.proofs.Common.{List, take, All}
use Rattle.cs_types.specs.declared.Key.{Key}
use Rattle.cs_types.specs.declared.Schema.{Schema}
use Rattle.cs_types.specs.declared.Value.{Value}
use Rattle.cs_types.specs.Schemas.{IsSchema}
use Rattle.cs_model.specs.Cells.{loose_at}
use Rattle.cs_model.specs.Held.{IsRowAt}
use Rattle.row_work.proofs.Constants.{Listed}
use Rattle.row_work.proofs.named.keys_of.Given as goal

abbrev pub invariant-loop-constant : goal.invariant-loop-constant
invariant-loop-constant l = (schema : Schema) (key : Key) (row : List Value) → IsSchema schema → IsRowAt schema key row → All (Listed (loose_at schema row schema.key) key l.keys.items) (take l.constant-index l.constants)
