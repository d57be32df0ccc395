use Rattle.std.proofs.Common.{◌≡◌, List, map}
use Rattle.cs_types.specs.declared.Key.{Key}
use Rattle.cs_types.specs.declared.Value.{Value}
use Rattle.cs_model.specs.declared.truth.Truth.TheVariants.{True}
use Rattle.cs_model.specs.Held.{IsRowAt}
use Rattle.cs_model.specs.Truths.{all_of, truth}
use Rattle.row_work.specs.Bounds.{IsWithin}
use Rattle.row_work.proofs.bounds.+bounded.Given as goal

-- the keys of rows of which each part is True are among the bounds so far
abbrev pub invariant-bounds_of_all-loop-part : goal.invariant-bounds_of_all-loop-part
invariant-bounds_of_all-loop-part l = (key : Key) (row : List Value) → IsRowAt l.schema key row → all_of (map (λ part. truth part row l.schema) l.parts) ≡ True → IsWithin l.bounds key
