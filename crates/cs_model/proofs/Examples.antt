-- What the definitions of the model say, at examples.
use Rattle.std.proofs.Common.{◌≡◌, refl, false, Some}
use Rattle.cs_model.specs.declared.entry.Bound.TheVariants.{Begin}
use Rattle.cs_model.specs.State.{start}
use Rattle.cs_model.specs.Steps.{started}

-- after its Start in a new table a BEGIN of session 1 is half done, and its Start noted 0
begin_notes : (started start 1 Begin false).half 1 ≡ Some (record { bound = Begin; short = false; note = 0 })
begin_notes = refl
