use Rattle.std.proofs.Common.{◌≡◌, ◌++◌, ◌∷◌, [], ◌∙◌, List, ap, append_assoc, sym, rules}
use Rattle.std.specs.declared.cmp.Ordering.TheVariants.{Less}
use Rattle.std.proofs.lemmas.List.Elements.{All-push}
use Rattle.cs_types.specs.Keys.{key_cmp}
use Rattle.write_set.specs.declared.write.Write.{Write}
use Rattle.write_set.specs.Writes.{is_front_below}
use Rattle.write_set.proofs.Puts.{less_by}
use Rattle.write_set.proofs.merge.pass_smaller.Goals as goal

pub loop-key-preserved : goal.loop-key-preserved
loop-key-preserved c =
    let write = c.in-Some.write in
    let smaller : key_cmp write.key c.args.key ≡ Less = less_by (key_cmp write.key c.args.key) (c.loop-key-test.ensures ∙ ap (λ l. is_front_below l c.args.key) c.in-Some.ensures.items) in
    record {
      below = rw c.push_reserved.ensures.items (All-push (λ (w : Write). key_cmp w.key c.args.key ≡ Less) c.loop-key.done.items write c.loop-key.invariant.below smaller);
      items =
          ap (λ (l : List Write). l ++ c.pop_front.new.self.items) c.push_reserved.ensures.items
          ∙ append_assoc c.loop-key.done.items (write ∷ []) c.pop_front.new.self.items
          ∙ ap (λ (l : List Write). c.loop-key.done.items ++ l) (sym c.in-Some.ensures.items)
          ∙ c.loop-key.invariant.items;
      len = search rules;
      capacity = search rules;
    }
