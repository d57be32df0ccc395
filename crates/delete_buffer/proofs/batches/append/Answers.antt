use Rattle.std.proofs.Common.{◌≡◌, ◌<◌, ◌+◌, ◌++◌, ◌∷◌, [], List, ap, sym, ◌∙◌, append_assoc, length, take, arith}
use Rattle.std.proofs.lemmas.List.{take_more}
use Rattle.delete_buffer.specs.Added.{entries_of}
use Rattle.delete_buffer.specs.Entries.{Entry}
use Rattle.delete_buffer.proofs.batches.append.Goals as goal

pub loop-place-preserved : goal.loop-place-preserved
loop-place-preserved c =
    let added = entries_of c.args.added in
    let n = c.loop-place.place in
    let entry : Entry = c.at.result in
    let there : n < length added = omega arith in
    let one : take (n + 1) added ≡ take n added ++ entry ∷ [] = take_more added n entry there ∙ ap (λ (x : Entry). take n added ++ x ∷ []) (c.at.ensures entry) in
    record {
      items =
          c.push_reserved.ensures.items ∙ ap (λ (xs : List Entry). xs ++ entry ∷ []) c.loop-place.invariant.items
          ∙ append_assoc c.args.entries.now.items (take n added) (entry ∷ []) ∙ ap (λ (xs : List Entry). c.args.entries.now.items ++ xs) (sym one);
      capacity = c.push_reserved.ensures.capacity ∙ c.loop-place.invariant.capacity;
    }
