use Rattle.std.proofs.Common.{◌≡◌, ◌++◌, All, length, map, false, IsPermutation}
use Rattle.std.specs.Vec.Iter.{into_iter_items}
use Rattle.delete_buffer.specs.Entries.{Ascend}
use Rattle.group_book.specs.Book.{opened}
use Rattle.group_book.specs.Commits.{has_live, after_rest}
use Rattle.group_view.specs.Books.{book_of}
use Rattle.group_view.specs.Lists.{packed_in, IsHeld}
use Rattle.group_view.specs.Parcels.{keys_in}
use Rattle.group_directory.specs.Committing.{origins, new_origin, HasRoom}
use Rattle.group_directory.proofs.commit_rest.store_rest.Given as goal

-- what is left goes in as all did
abbrev pub invariant-loop-key : goal.invariant-loop-key
invariant-loop-key l = record {
  held : IsHeld l.list;
  claims : l.list.claims ≡ l.fn.list.claims;
  packed : packed_in l.list.groups.items ≡ packed_in l.fn.list.groups.items;
  ascending : Ascend (keys_in (into_iter_items l.key-iterator));
  dead : All (λ key. let whole = book_of l.list in has_live key (opened whole.groups) ≡ false) (keys_in (into_iter_items l.key-iterator));
  room : HasRoom l.group_rows (length (into_iter_items l.key-iterator)) 0 l.list l.pool.items;
  book : after_rest l.group_rows l.c (keys_in (into_iter_items l.key-iterator)) (book_of l.list) ≡ after_rest l.group_rows l.c (keys_in l.fn.rest) (book_of l.fn.list);
  origins : IsPermutation (origins l.fn.list.groups.items ++ map (new_origin l.c) l.fn.rest) (origins l.list.groups.items ++ map (new_origin l.c) (into_iter_items l.key-iterator));
}
