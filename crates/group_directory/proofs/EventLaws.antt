-- The book of a directory after an event whose code leaves an order free.
use Rattle.std.proofs.Common.{◌≡◌, ℕ, ◌≤◌, ◌+◌, true, List, ◌++◌, map, length, ap, ◌∙◌, arith}
use Rattle.std.specs.List.{AllZip, Contains}
use Rattle.std.specs.List.Sorted.{IsPermutation, IsStrictlySortedBy}
use Rattle.std.proofs.Math.ListN.{get_or-map}
use Rattle.std.proofs.lemmas.List.{length-map}
use Rattle.cs_types.specs.declared.Key.{Key}
use Rattle.cs_types.specs.Keys.{key_cmp}
use Rattle.cs_model.specs.declared.work.Actor.{Actor}
use Rattle.cs_model.specs.Changes.{Edit, Change}
use Rattle.cs_model.specs.Obstacles.{keys_of}
use Rattle.cs_model.specs.Steps.{numbered}
use Rattle.group_book.specs.Book.{Version}
use Rattle.group_book.specs.Book.Choice.{Flush}
use Rattle.group_book.specs.Commits.{replaced_by, inserted_by, direct_parts, after_ends, after_loads, after_rest, after_commit}
use Rattle.group_book.specs.Turns.{made_of, installed_with, after_install, after_flush}
use Rattle.group_book.specs.Invariant.{makes_group, IsBookOf}
use Rattle.group_book.proofs.Visible.{ascending_of, below_of}
use Rattle.group_book.proofs.Made.{once_sorted}
use Rattle.group_book.proofs.Kept.{commit_is}
use Rattle.group_book.proofs.Installed.{install_is}
use Rattle.group_book.proofs.Flushed.{flush_is}
use Rattle.group_book.proofs.Orders.{order_free}
use Rattle.group_book.proofs.Reordered.{install_reordered, loads_reordered}
use Rattle.group_view.specs.declared.claim.Claim.{Claim}
use Rattle.group_view.specs.Books.{choice_of, claim_of, book_of}
use Rattle.group_directory.specs.declared.directory.Directory.{Directory}
use Rattle.group_directory.specs.Stands.{Stands}
use Rattle.group_directory.specs.Laws.{sizes_of}
use Rattle.group_directory.proofs.BookLaws.{reach}

pub mapped_there : {X Y : Type 0} (f : X → Y) (xs : List X) (x : X) → Contains xs x → Contains (map f xs) (f x)
mapped_there f xs x (k, within, at) = (k, omega (arith, within, length-map xs f), get_or-map f xs k x ∙ ap f at)

pub claim_at : (directory : Directory) (held : Actor × Claim) → Contains directory.list.claims.items held → Contains (book_of directory.list).claims (claim_of held)
claim_at directory held there = mapped_there claim_of directory.list.claims.items held there

module _ (directory : Directory) (cs : List Change) (j : Stands directory cs) where
  pub book_committed : (txn : ℕ) (own : List Edit) (loads : List (List Key)) → IsStrictlySortedBy key_cmp (keys_of own) → AllZip IsPermutation (direct_parts (length (inserted_by own)) (sizes_of directory) (inserted_by own)).0 loads
      → IsBookOf directory.sizes.group_rows (after_rest directory.sizes.group_rows (directory.clock + 1) (direct_parts (length (inserted_by own)) (sizes_of directory) (inserted_by own)).1
      (after_loads (directory.clock + 1) loads (after_ends (replaced_by cs directory.clock own) (directory.clock + 1) (book_of directory.list)))) (cs ++ numbered (directory.clock + 1) txn own) j.floor
  book_committed txn own loads sorted zip =
      let sizes = j.sizes in
      let room : 1 ≤ directory.sizes.group_rows = let least = sizes.least_group in omega (arith, least) in
      order_free directory.sizes.group_rows (after_commit (sizes_of directory) (directory.clock + 1) (replaced_by cs directory.clock own) (inserted_by own) (book_of directory.list))
      (after_rest directory.sizes.group_rows (directory.clock + 1) (direct_parts (length (inserted_by own)) (sizes_of directory) (inserted_by own)).1
      (after_loads (directory.clock + 1) loads (after_ends (replaced_by cs directory.clock own) (directory.clock + 1) (book_of directory.list)))) (cs ++ numbered (directory.clock + 1) txn own) j.floor
      (loads_reordered (sizes_of directory) (book_of directory.list) cs j.floor (directory.clock + 1) (replaced_by cs directory.clock own) (inserted_by own) loads j.book zip)
      (commit_is (sizes_of directory) (book_of directory.list) cs directory.clock j.floor txn own (below_of cs directory.clock j.numbered) (ascending_of cs j.numbered.ascend) (reach directory cs j) (once_sorted own sorted) room sizes.least_direct j.book)

  pub book_installed : (held : Actor × Claim) (versions : List Version) → Contains directory.list.claims.items held → makes_group (choice_of held.1.choice) ≡ true → IsPermutation (made_of (claim_of held)) versions
      → IsBookOf directory.sizes.group_rows (installed_with versions (claim_of held) (book_of directory.list)) cs j.floor
  book_installed held versions there makes moved =
      order_free directory.sizes.group_rows (after_install (claim_of held) (book_of directory.list)) (installed_with versions (claim_of held) (book_of directory.list)) cs j.floor
      (install_reordered directory.sizes.group_rows (book_of directory.list) cs j.floor (claim_of held) versions j.book (claim_at directory held there) moved)
      (install_is directory.sizes.group_rows (book_of directory.list) cs j.floor (claim_of held) j.book (claim_at directory held there) makes)

  pub book_flushed : (held : Actor × Claim) → Contains directory.list.claims.items held → choice_of held.1.choice ≡ Flush → IsBookOf directory.sizes.group_rows (after_flush (claim_of held) (book_of directory.list)) cs j.floor
  book_flushed held there flush = flush_is directory.sizes.group_rows (book_of directory.list) cs j.floor (claim_of held) j.book (claim_at directory held there) flush
