use Rattle.std.proofs.Common.{refl}
use Rattle.row_work.proofs.Bounded.{among_all}
use Rattle.row_work.proofs.Constants.{key_small}
use Rattle.row_work.proofs.bounds.bounds_of_sides.Goals as goal

pub returns-in_default : goal.returns-in_default
returns-in_default c = λ key row stands is. among_all _ key refl refl (key_small c.args.schema.now key row c.requires stands)

pub returns-in_default-2 : goal.returns-in_default-2
returns-in_default-2 c = λ key row stands is. among_all _ key refl refl (key_small c.args.schema.now key row c.requires stands)

pub returns-in_default-3 : goal.returns-in_default-3
returns-in_default-3 c = λ key row stands is. among_all _ key refl refl (key_small c.args.schema.now key row c.requires stands)

pub returns-in_default-4 : goal.returns-in_default-4
returns-in_default-4 c = λ key row stands is. among_all _ key refl refl (key_small c.args.schema.now key row c.requires stands)
