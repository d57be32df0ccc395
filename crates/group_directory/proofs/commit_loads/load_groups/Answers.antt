use Rattle.std.proofs.Common.{◌≡◌, ◌++◌, [], List, sym, ap, ◌∙◌, arith}
use Rattle.std.specs.Vec.Iter.{into_iter_items}
use Rattle.std.proofs.lemmas.List.{append-nil, nil_from_length}
use Rattle.group_directory.specs.Committing.{NewGroup, new_groups}
use Rattle.group_directory.proofs.CommitLemmas.{held_loaded}
use Rattle.group_directory.proofs.commit_loads.load_groups.Goals as goal

pub returns-clause-held : goal.returns-clause-held
returns-clause-held c =
    let left : List NewGroup = into_iter_items c.loop-packed.packed-iterator in
    let none : left ≡ [] = nil_from_length left (omega (arith, c.loop-packed.packed-iterator.rest.ok.0, c.in-None.ensures.steps.0)) in
    let items = sym (append-nil c.loop-packed.list.groups.items) ∙ ap (λ (loads : List NewGroup). c.loop-packed.list.groups.items ++ new_groups c.loop-packed.list.next loads) (sym none) ∙ c.loop-packed.invariant.groups in
    held_loaded c.args.list.now c.loop-packed.list c.args.loads.items c.requires.held c.requires.unmarked items c.loop-packed.invariant.opened c.loop-packed.invariant.claims
