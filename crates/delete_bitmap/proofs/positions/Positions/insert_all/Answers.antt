use Rattle.std.proofs.Common.{ap, ◌∙◌, arith}
use Rattle.delete_bitmap.specs.Bits.{with_all}
use Rattle.delete_bitmap.proofs.BitLemmas.{length-bits_in, bits_in-alike}
use Rattle.delete_bitmap.proofs.positions.Positions.insert_all.Goals as goal

pub returns-in_err-cover-clause-small : goal.returns-in_err-cover-clause-small
returns-in_err-cover-clause-small c = omega (arith, length-bits_in)

pub returns-clause-small : goal.returns-clause-small
returns-clause-small c = omega (arith, length-bits_in)

pub set_all-requires-clause-within : goal.set_all-requires-clause-within
set_all-requires-clause-within c = rw (← c.self.view_is, length-bits_in) at c.requires

pub returns-clause-ok : goal.returns-clause-ok
returns-clause-ok c =
    c.set_all.ensures.bits
    ∙ ap (with_all c.args.positions.now)
    (bits_in-alike c.self.inside.length c.cover.new.words.items c.self.inside.words.items c.cover.ensures.same ∙ c.self.view_is)
