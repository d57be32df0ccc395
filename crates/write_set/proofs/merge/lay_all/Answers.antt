use Rattle.std.proofs.Common.{◌∷◌, ◌++◌, [], ◌∙◌, List, get_or, ap, sym, subst, append_assoc, rules}
use Rattle.std.specs.Vec.Iter.{into_iter_items}
use Rattle.std.proofs.lemmas.List.Sums.{fold_push}
use Rattle.write_set.specs.declared.write.Write.{Write}
use Rattle.write_set.specs.Writes.{Ascend, put}
use Rattle.write_set.proofs.Puts.{head, tail, Ascend-put}
use Rattle.write_set.proofs.merge.lay_all.Goals as goal

pub loop-write-preserved : goal.loop-write-preserved
loop-write-preserved c =
    let write = c.in-Some.write in
    let left = into_iter_items c.next.new.self in
    let before = c.loop-write.invariant in
    let rising = subst Ascend c.in-Some.ensures.steps.0 before.rising in
    record {
      staged = c.lay_one.ensures.items ∙ ap (λ (l : List Write). put l write) before.staged ∙ sym (fold_push put c.args.own.items c.loop-write.yielded write);
      order = rw c.lay_one.ensures.items (Ascend-put (c.loop-write.done.items ++ c.loop-write.rest.items) write before.order);
      below = λ k d l. c.lay_one.ensures.below (get_or left k d).key (head write left rising k d l);
      rising = tail write left rising;
      yielded = append_assoc c.loop-write.yielded (write ∷ []) left ∙ ap (λ (items : List Write). c.loop-write.yielded ++ items) (sym c.in-Some.ensures.steps.0) ∙ before.yielded;
      room = search rules;
    }
