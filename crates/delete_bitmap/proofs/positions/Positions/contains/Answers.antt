use Rattle.std.proofs.Common.{◌≡◌, get_or, false, sym, arith}
use Rattle.std.proofs.lemmas.Bool.Decides.{nat_tests}
use Rattle.std.proofs.lemmas.List.{get_or_past}
use Rattle.delete_bitmap.specs.Bits.{bits_in}
use Rattle.delete_bitmap.proofs.BitLemmas.{length-bits_in, get_or-bits_in}
use Rattle.delete_bitmap.proofs.positions.Positions.contains.Goals as goal

pub returns-then-position-self : goal.returns-then-position-self
returns-then-position-self c =
    rw (← c.self.view_is, c.is_set.ensures, c.deref.ensures.value)
    (sym (get_or-bits_in c.self.inside.length c.self.inside.words.items c.args.position c.if-position-self.true))

pub returns-else-position-self : goal.returns-else-position-self
returns-else-position-self c =
    let past : get_or (bits_in c.self.inside.length c.self.inside.words.items) c.args.position false ≡ false =
    get_or_past (bits_in c.self.inside.length c.self.inside.words.items) c.args.position false (omega (arith, length-bits_in c.self.inside.length c.self.inside.words.items)) in
    rw (← c.self.view_is, past) (grind (arith, nat_tests))
