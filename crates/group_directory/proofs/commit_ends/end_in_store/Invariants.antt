use Rattle.std.proofs.Common.{◌≡◌, ◌≤◌, All, take, map, vec_len, vec_capacity}
use Rattle.delta_store.specs.Versions.{IsReady}
use Rattle.group_book.specs.Commits.{ended_by}
use Rattle.group_view.specs.Parts.{stored_versions}
use Rattle.group_view.specs.Books.{versions_of}
use Rattle.group_directory.specs.Committing.{origin_of, not_live}
use Rattle.group_directory.proofs.commit_ends.end_in_store.Given as goal

abbrev pub invariant-loop-key : goal.invariant-loop-key
invariant-loop-key l = record {
  versions : versions_of (stored_versions l.store.versions) ≡ map (ended_by (take l.key-index l.replaced) l.c) (versions_of (stored_versions l.initial.store.versions));
  origins : map origin_of (stored_versions l.store.versions) ≡ map origin_of (stored_versions l.initial.store.versions);
  others : l.others.items ≡ not_live (versions_of (stored_versions l.initial.store.versions)) (take l.key-index l.replaced);
  len : vec_len l.others ≤ l.key-index;
  capacity : vec_capacity l.others ≡ vec_capacity l.initial.others;
  ready : All (IsReady l.store) l.replaced;
  room : l.store.spare ≡ l.initial.store.spare;
}
