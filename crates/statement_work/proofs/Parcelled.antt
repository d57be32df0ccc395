-- Edits that fit a table, as a parcel takes them.
use Rattle.std.proofs.Common.{List, [], ◌∷◌}
use Rattle.std.specs.List.{All, AllByRecursion}
use Rattle.std.proofs.lemmas.List.Elements.{All-from_recursion, recursion_from_All}
use Rattle.cs_types.specs.declared.Schema.{Schema}
use Rattle.cs_types.specs.declared.Value.{Value}
use Rattle.cs_types.specs.Schemas.{IsRowOf}
use Rattle.cs_model.specs.Answers as spec
use Rattle.cs_model.specs.Changes.{Edit}
use Rattle.cs_model.specs.Held.{IsFit}
use Rattle.tuple_mover.specs.Inserts.{FitsIn}

pub fits_in : (schema : Schema) (edits : List Edit) → All (IsFit schema) edits → All (FitsIn schema) edits
fits_in schema edits fit = λ i d there. (fit i d there).1

held_rows : (schema : Schema) (rows : List (List Value)) → AllByRecursion (FitsIn schema) (spec.edits_of schema rows) → AllByRecursion (IsRowOf schema) rows
held_rows schema [] fit = tt
held_rows schema (row ∷ rows) fit = (fit.0.row, held_rows schema rows fit.1)

-- and their rows
pub rows_in : (schema : Schema) (rows : List (List Value)) → All (IsFit schema) (spec.edits_of schema rows) → All (IsRowOf schema) rows
rows_in schema rows fit =
    let edits = spec.edits_of schema rows in
    All-from_recursion (IsRowOf schema) rows (held_rows schema rows (recursion_from_All (FitsIn schema) edits (fits_in schema edits fit)))
