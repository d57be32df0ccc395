use Rattle.std.proofs.Common.{◌≡◌, ◌++◌, ◌∷◌, List, length, map, false, sym, ap, subst, ◌∙◌, arith, All, IsPermutation}
use Rattle.std.specs.Vec.Iter.{into_iter_items}
use Rattle.cs_types.specs.declared.Key.{Key}
use Rattle.cs_types.specs.declared.Value.{Value}
use Rattle.delete_buffer.specs.Entries.{Ascend}
use Rattle.group_book.specs.Book.{Book, opened}
use Rattle.group_book.specs.Commits.{has_live, after_rest}
use Rattle.group_view.specs.Books.{group_of, book_of}
use Rattle.group_view.specs.Parcels.{keys_in}
use Rattle.group_directory.specs.Committing.{origins, new_origin, HasRoom}
use Rattle.group_directory.proofs.PutLemmas.{keys_up, dead_rest, origins_step}
use Rattle.group_directory.proofs.commit_rest.store_rest.Goals as goal

pub store_row-requires-clause-dead : goal.store_row-requires-clause-dead
store_row-requires-clause-dead c =
    let dead = subst (λ (rows : List (Key × List Value)). All (λ key. has_live key (opened (map group_of c.loop-key.list.groups.items)) ≡ false) (keys_in rows)) c.in-Some.ensures.steps.0 c.loop-key.invariant.dead in
    dead 0 c.in-Some.key (omega arith)

pub loop-key-preserved : goal.loop-key-preserved
loop-key-preserved c =
    let kept = c.loop-key.invariant in
    let rest : List (Key × List Value) = into_iter_items c.next.new.self in
    let steps : into_iter_items c.loop-key.key-iterator ≡ (c.in-Some.key, c.in-Some.row) ∷ rest = c.in-Some.ensures.steps.0 in
    let up = subst (λ (rows : List (Key × List Value)). Ascend (keys_in rows)) steps kept.ascending in
    let dead = subst (λ (rows : List (Key × List Value)). All (λ key. has_live key (opened (map group_of c.loop-key.list.groups.items)) ≡ false) (keys_in rows)) steps kept.dead in
    let room = subst (λ (rows : List (Key × List Value)). HasRoom c.args.group_rows (length rows) 0 c.loop-key.list c.loop-key.pool.items) steps kept.room in
    let moved = subst (λ (rows : List (Key × List Value)). IsPermutation (origins c.args.list.now.groups.items ++ map (new_origin c.args.c) c.args.rest) (origins c.loop-key.list.groups.items ++ map (new_origin c.args.c) rows)) steps kept.origins in
    record {
      held = c.store_row.ensures.held;
      claims = c.store_row.ensures.claims ∙ kept.claims;
      packed = c.store_row.ensures.packed ∙ kept.packed;
      ascending = keys_up c.in-Some.key (keys_in rest) up;
      dead = dead_rest c.in-Some.key (keys_in rest) (opened (map group_of c.loop-key.list.groups.items)) (opened (map group_of c.store_row.new.list.groups.items)) up dead c.store_row.ensures.live;
      room = c.store_row.ensures.room (length rest) room;
      book =
          ap (λ (whole : Book). after_rest c.args.group_rows c.args.c (keys_in rest) whole) c.store_row.ensures.book
          ∙ ap (λ (rows : List (Key × List Value)). after_rest c.args.group_rows c.args.c (keys_in rows) (book_of c.loop-key.list)) (sym steps) ∙ kept.book;
      origins = origins_step (origins c.args.list.now.groups.items ++ map (new_origin c.args.c) c.args.rest) (origins c.loop-key.list.groups.items) (origins c.store_row.new.list.groups.items) (map (new_origin c.args.c) rest) (new_origin c.args.c (c.in-Some.key, c.in-Some.row)) moved c.store_row.ensures.origins;
    }
