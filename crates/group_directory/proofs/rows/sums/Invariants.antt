use Rattle.std.proofs.Common.{◌≡◌, ◌≤◌, ◌*◌, ◌^◌, map, take}
use Rattle.group_book.specs.Book.{total_sum, deleted_sum}
use Rattle.group_view.specs.Books.{group_of}
use Rattle.group_directory.proofs.rows.sums.Given as goal

abbrev pub invariant-loop-group : goal.invariant-loop-group
invariant-loop-group l = record {
  versions : l.all ≡ total_sum (map group_of (take l.group-index l.groups));
  ends : l.ended ≡ deleted_sum (map group_of (take l.group-index l.groups));
  most_versions : l.all ≤ l.group-index * 2 ^ 64;
  most_ends : l.ended ≤ l.group-index * 2 ^ 64;
}
