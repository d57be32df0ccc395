-- Which views show the tables of some changes, by the book that they are views of.
use Rattle.std.specs.Prelude.{◌≡◌, ◌≤◌, ℕ, List, ◌++◌, map, All, Some}
use Rattle.std.specs.List.Sorted.{IsPermutation}
use Rattle.std.specs.Option.{option_map}
use Rattle.cs_types.specs.declared.Key.{Key}
use Rattle.cs_types.specs.declared.Value.{Value}
use Rattle.cs_types.specs.Rows.{padded}
use Rattle.cs_model.specs.Changes.{Change, last_change, made}
use Rattle.group_book.specs.Book.{Book, opened, frozen}
use Rattle.group_view.specs.declared.view.GroupView.{GroupView}
use Rattle.group_view.specs.declared.groups.GroupList.{GroupList}
use Rattle.group_view.specs.Parts.{Rowed, rowed_in, IsFitting}
use Rattle.group_view.specs.Views.{endings_of, buffer_of, rowed_of}
use Rattle.group_view.specs.Books.{versions_of}
use Rattle.group_view.specs.Lists.{listed}

-- in so many cells the version's row is the one that the last change of its key at its begin made
abbrev pub IsMadeRow : ℕ → List Change → Rowed → Type 0
IsMadeRow width changes rowed = option_map (padded width) (made (last_change rowed.version.key rowed.version.begin changes)) ≡ Some (padded width rowed.row)

-- the view has the versions of the book's OPEN, CLOSED and COMPRESSED groups, in whatever order, with their rows, and its
-- buffer; bitmaps fit their groups
pub record IsViewOf (width : ℕ) (view : GroupView) (book : Book) (changes : List Change) : Type 0 where
  pub fitting : All (λ (group : ℕ × _). IsFitting group.1) view.groups
  pub within : view.floor ≤ view.clock
  pub versions : IsPermutation (opened book.groups ++ frozen book.groups) (versions_of (rowed_of view))
  pub buffer : buffer_of view ≡ book.buffer
  pub rows : All (IsMadeRow width changes) (rowed_of view)

-- a version's row in so many cells, by its key
abbrev pub shown_row : ℕ → Rowed → Key × List Value
shown_row width rowed = (rowed.version.key, padded width rowed.row)

-- the view has the list's OPEN, CLOSED and COMPRESSED groups, by id and with their versions and rows, and its buffer
pub record IsTakenOf (list : GroupList) (view : GroupView) : Type 0 where
  pub groups : map (λ (group : ℕ × _). (group.0, rowed_in group.1)) view.groups ≡ listed list.groups.items
  pub buffer : buffer_of view ≡ endings_of list.buffer.entries
