use Rattle.std.proofs.Common.{◌≡◌, ℕ, ◌<◌, ◌++◌, ◌∙◌, List, insert, [], ◌∷◌, ap, subst, sym, arith, length, rules}
use Rattle.std.proofs.lemmas.List.Edits.{insert_end}
use Rattle.shared_list.specs.Placed.{Placed}
use Rattle.shared_list.specs.Chunks.{joined, AreChunks, StandFrom}
use Rattle.shared_list.proofs.Places.{chunks_more, joined_more}
use Rattle.shared_list.proofs.chunks.add_chunk.Goals as goal

pub returns : goal.returns
returns g c =
    let chunks = c.args.chunks.now.items in
    let are : AreChunks chunks c.args.len = record { stand = c.requires.stand; len = c.requires.len } in
    let only : c.new-2.result.items ≡ c.args.item ∷ [] = search rules in
    let some : 0 < length c.new-2.result.items = let long = ap length only in omega (arith, long) in
    record {
      stand = subst (λ (cs : List (Placed g.row.T.Denot)). StandFrom 0 cs) (sym c.in_ok-push-2.ensures.items) (chunks_more chunks c.args.len are c.new-2.result c.new-2.ensures.from some).stand;
      ok = ap joined c.in_ok-push-2.ensures.items
          ∙ joined_more chunks c.args.len are c.new-2.result c.new-2.ensures.from some
          ∙ ap (λ (items : List g.row.T.Denot). joined chunks ++ items) only
          ∙ sym (insert_end (joined chunks) c.args.item)
          ∙ ap (λ (n : ℕ). insert (joined chunks) n c.args.item) (sym c.requires.len);
      err = tt;
    }
