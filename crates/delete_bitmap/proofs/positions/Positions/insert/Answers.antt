use Rattle.std.proofs.Common.{◌<◌, List, Bool, true, set, ap, ◌∙◌, arith}
use Rattle.delete_bitmap.proofs.BitLemmas.{length-bits_in, bits_in-alike}
use Rattle.delete_bitmap.proofs.positions.Positions.insert.Goals as goal

pub returns-in_err-cover-clause-small : goal.returns-in_err-cover-clause-small
returns-in_err-cover-clause-small c = omega (arith, length-bits_in)

pub returns-clause-small : goal.returns-clause-small
returns-clause-small c = omega (arith, length-bits_in)

pub set-requires : goal.set-requires
set-requires c =
    let short : c.args.position < c.self.inside.length = rw (← c.self.view_is, length-bits_in) at c.requires in
    omega (arith, c.in_ok-cover.ensures.there)

pub returns-clause-ok : goal.returns-clause-ok
returns-clause-ok c =
    let short : c.args.position < c.self.inside.length = rw (← c.self.view_is, length-bits_in) at c.requires in
    c.set.ensures.bits c.self.inside.length short
    ∙ ap (λ (bits : List Bool). set bits c.args.position true)
    (bits_in-alike c.self.inside.length c.cover.new.words.items c.self.inside.words.items c.cover.ensures.same ∙ c.self.view_is)
