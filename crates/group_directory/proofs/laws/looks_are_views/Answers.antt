use Rattle.group_directory.proofs.GroupLaws.{look_changes, look_book, look_view}
use Rattle.group_directory.proofs.laws.looks_are_views.Goals as goal

pub returns-clause-changes : goal.returns-clause-changes
returns-clause-changes c = look_changes

pub returns-clause-book : goal.returns-clause-book
returns-clause-book c = look_book

pub returns-clause-view : goal.returns-clause-view
returns-clause-view c = look_view
