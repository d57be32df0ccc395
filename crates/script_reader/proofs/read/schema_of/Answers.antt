use Rattle.std.proofs.Common.{refl}
use Rattle.script_reader.proofs.read.schema_of.Goals as goal

pub returns-in-Err-At-clause-refused : goal.returns-in-Err-At-clause-refused
returns-in-Err-At-clause-refused c = (refl, refl, (_, rw c.in-Err-At.field-0-is at c.in-Err-At.ensures.refused), λ schema is. let none = c.in-Err-At.ensures.only schema is in absurd (cc))
