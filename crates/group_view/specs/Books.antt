-- The book that a list of groups stands for.
use Rattle.std.specs.Prelude.{◌≡◌, ℕ, List, map, filter}
use Rattle.cs_model.specs.declared.work.Actor.{Actor}
use Rattle.group_book.specs.Book as book
use Rattle.group_book.specs.Book.{Version, Book, frozen_in}
use Rattle.group_book.specs.Book.Choice.{Compress, Flush, Rebuild, Merge, Settle, Clear, Idle}
use Rattle.group_book.specs.Turns.{entries_for, is_id_of}
use Rattle.group_view.specs.declared.claim.Choice.{Choice}
use Rattle.group_view.specs.declared.claim.Choice.TheVariants as made
use Rattle.group_view.specs.declared.claim.Claim.{Claim}
use Rattle.group_view.specs.declared.groups.GroupList.{GroupList}
use Rattle.group_view.specs.declared.parts.GroupPart.{GroupPart}
use Rattle.group_view.specs.Parts.{versions_in}
pub use Rattle.group_view.specs.Contents.{versions_of, rowed_in_closed, rowed_in_content, content_of, group_of}
use Rattle.group_view.specs.Views.{endings_of, buffer_of, rowed_of}

abbrev pub choice_of : Choice → book.Choice
choice_of (made.Compress source) = Compress source
choice_of made.Flush = Flush
choice_of (made.Rebuild source) = Rebuild source
choice_of (made.Merge first second) = Merge first second
choice_of made.Settle = Settle
choice_of made.Clear = Clear
choice_of made.Idle = Idle

-- a claim as the book has it: its sources, their versions as they were lent, and the entries that end these
abbrev pub claim_of : Actor × Claim → book.Claim
claim_of held = record {
  actor = held.0;
  choice = choice_of held.1.choice;
  sources = map (λ (group : ℕ × _). group.0) held.1.view.groups;
  fresh = held.1.fresh;
  floor = held.1.floor;
  lent = versions_of (rowed_of held.1.view);
  entries = entries_for (buffer_of held.1.view) (versions_of (rowed_of held.1.view));
}

-- the book: groups without rows
abbrev pub book_of : GroupList → Book
book_of list = record {
  groups = map group_of list.groups.items;
  buffer = endings_of list.buffer.entries;
  claims = map claim_of list.claims.items;
  next = list.next;
}

-- the versions of a group that is lent, and those of a group of the book, with its id
abbrev pub part_versions : ℕ × GroupPart → ℕ × List Version
part_versions part = (part.0, versions_in part.1)

abbrev pub group_versions : book.Group → ℕ × List Version
group_versions group = (group.id, frozen_in group.content)

-- the versions of the claim's groups stand in the book as they were lent, group by group
abbrev pub StandsAsLent : Book → Actor × Claim → Type 0
StandsAsLent whole held =
    map part_versions held.1.view.groups ≡ map group_versions (filter (is_id_of (map (λ (part : ℕ × GroupPart). part.0) held.1.view.groups)) whole.groups)
