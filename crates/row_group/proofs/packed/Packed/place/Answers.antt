use Rattle.std.proofs.Common.{◌<◌, length, arith, subst}
use Rattle.std.proofs.lemmas.List.{get_or_read}
use Rattle.row_group.specs.Groups.{Group, AreByKey}
use Rattle.row_group.proofs.GroupLemmas.{place-within}
use Rattle.row_group.proofs.ShownLemmas.{group_of}
use Rattle.row_group.proofs.packed.Packed.place.Goals as goal

pub returns-clause-within : goal.returns-clause-within
returns-clause-within c =
    let f = c.self.inside in
    subst (λ (group : Group). c.args.i < length group.places → c.at.result.now < length group.rows) c.self.view_is
    (λ l.
    let within = place-within (group_of f.segments f.key f.length f.base f.late f.places) c.self.invariant.by_key c.args.i l in
    omega (arith, within, get_or_read f.places c.args.i c.at.result.now l c.at.ensures.item 0))
    c.requires

pub returns-clause-by_key : goal.returns-clause-by_key
returns-clause-by_key c = subst AreByKey c.self.view_is c.self.invariant.by_key
