use Rattle.std.proofs.Common.{◌∷◌, ◌++◌, [], ◌∙◌, ap, sym, append_assoc}
use Rattle.std.specs.BTreeMap.{insert_entry}
use Rattle.std.specs.Vec.Iter.{into_iter_items}
use Rattle.cs_types.specs.Keys.{key_cmp}
use Rattle.write_set.proofs.Orders.{keyed_more}
use Rattle.write_set.proofs.order.by_key.Goals as goal

pub loop-write-preserved : goal.loop-write-preserved
loop-write-preserved c = record {
  entries =
      c.in_ok-add.ensures
      ∙ ap (λ es. insert_entry key_cmp es c.in-Some.write.key c.in-Some.write) c.loop-write.invariant.entries
      ∙ sym (keyed_more c.loop-write.yielded c.in-Some.write);
  rest =
      append_assoc c.loop-write.yielded (c.in-Some.write ∷ []) (into_iter_items c.next.new.self)
      ∙ ap (λ items. c.loop-write.yielded ++ items) (sym c.in-Some.ensures.steps.0)
      ∙ c.loop-write.invariant.rest;
}
