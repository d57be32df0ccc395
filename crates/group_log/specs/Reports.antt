-- What the report on row groups shows of the book.
use Rattle.cs_model.specs.declared.report.GroupLine.{GroupLine}
use Rattle.cs_model.specs.declared.report.GroupState.{GroupState}
use Rattle.cs_model.specs.declared.report.GroupState.TheVariants as state
use Rattle.group_book.specs.Book.{Content, Group, total, deleted}
use Rattle.group_book.specs.Book.Content.{Opened, Closed, Compressed, Invisible, Tombstone}

abbrev pub state_of : Content → GroupState
state_of (Opened versions) = state.Opened
state_of (Closed versions) = state.Closed
state_of (Compressed versions) = state.Compressed
state_of Invisible = state.Invisible
state_of (Tombstone versions ends) = state.Tombstone

-- a group's line: its id, its state and its counts
abbrev pub line_of : Group → GroupLine
line_of group = record { id = group.id; state = state_of group.content; total = total group.content; deleted = deleted group.content }
