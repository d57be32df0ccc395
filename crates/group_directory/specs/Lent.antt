-- What claims have lent, when the book changes.
use Rattle.std.specs.Prelude.{◌≡◌, ℕ, List, filter}
use Rattle.group_book.specs.Book.{Book}
use Rattle.group_book.specs.Turns.{is_id_of}

-- the groups of these ids are the same in both books
abbrev pub GroupsStay : List ℕ → Book → Book → Type 0
GroupsStay sources before after = filter (is_id_of sources) after.groups ≡ filter (is_id_of sources) before.groups
