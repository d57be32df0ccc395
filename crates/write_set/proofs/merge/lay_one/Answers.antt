use Rattle.std.proofs.Common.{◌++◌, ◌∙◌, List, [], ◌∷◌, ap}
use Rattle.write_set.specs.declared.write.Write.{Write}
use Rattle.write_set.specs.Writes.{put}
use Rattle.write_set.proofs.Laid.{below_more, laid_one}
use Rattle.write_set.proofs.merge.lay_one.Goals as goal

pub returns-clause-items : goal.returns-clause-items
returns-clause-items c =
    let done = c.pass_smaller.new.done.items in
    let rest = c.pass_smaller.new.rest.items in
    let up = rw (← c.pass_smaller.ensures.items) at c.requires.order in
    ap (λ (l : List Write). l ++ c.drop_equal.new.rest.items) c.push_reserved.ensures.items
    ∙ ap (λ (l : List Write). done ++ c.args.write ∷ [] ++ l) c.drop_equal.ensures.items
    ∙ laid_one done rest c.args.write up c.pass_smaller.ensures.below c.pass_smaller.ensures.reached
    ∙ ap (λ (l : List Write). put l c.args.write) c.pass_smaller.ensures.items

pub returns-clause-below : goal.returns-clause-below
returns-clause-below c = λ key above.
    rw c.push_reserved.ensures.items (below_more c.pass_smaller.new.done.items c.args.write key c.pass_smaller.ensures.below above)
