use Rattle.group_view.specs.Books.{book_of}
use Rattle.group_directory.proofs.InstallStands.{group_filled, group_installed, group_place, group_stands, marks_installed, marks_may, marks_stand, product_event}
use Rattle.group_directory.proofs.directory.Directory.install.Goals as goal

pub install_group-requires-clause-place : goal.install_group-requires-clause-place
install_group-requires-clause-place c = group_place c.args.self.now c.args.actor c.args.product c.requires.product c.in-Group.group c.in-Group.spent c.in-Group.is c.requires.stands.0 c.requires.stands.1

pub install_group-requires-clause-filled : goal.install_group-requires-clause-filled
install_group-requires-clause-filled c = group_filled c.args.self.now c.args.actor c.args.product c.requires.product c.in-Group.group c.in-Group.spent c.in-Group.is c.requires.claim

pub install_marks-requires-clause-marks : goal.install_marks-requires-clause-marks
install_marks-requires-clause-marks c = marks_may c.args.self.now c.args.actor c.args.product c.requires.product c.in-Marked.marks c.in-Marked.is c.requires.stands.0 c.requires.stands.1

pub returns-in-Group-clause-book : goal.returns-in-Group-clause-book
returns-in-Group-clause-book c =
    product_event c.args.self.now c.args.actor c.args.product c.requires.product c.requires.stands.0 c.requires.stands.1 c.requires.claim (book_of c.install_group.new.list)
    (group_installed c.args.self.now c.args.actor c.args.product c.requires.product c.in-Group.group c.in-Group.spent c.in-Group.is (book_of c.args.self.now.list) (book_of c.install_group.new.list) c.install_group.ensures.book)

pub returns-in-Marked-clause-book : goal.returns-in-Marked-clause-book
returns-in-Marked-clause-book c =
    product_event c.args.self.now c.args.actor c.args.product c.requires.product c.requires.stands.0 c.requires.stands.1 c.requires.claim (book_of c.install_marks.new.list)
    (marks_installed c.args.self.now c.args.actor c.args.product c.requires.product c.in-Marked.marks c.in-Marked.is (book_of c.install_marks.new.list) c.install_marks.ensures.book)

pub returns-in-Group-clause-made : goal.returns-in-Group-clause-made
returns-in-Group-clause-made c =
    group_installed c.args.self.now c.args.actor c.args.product c.requires.product c.in-Group.group c.in-Group.spent c.in-Group.is (book_of c.args.self.now.list) (book_of c.install_group.new.list) c.install_group.ensures.book

pub returns-in-Group-clause-stands : goal.returns-in-Group-clause-stands
returns-in-Group-clause-stands c = λ changes j.
    group_stands c.args.self.now c.args.actor c.args.product c.requires.product c.in-Group.group c.in-Group.spent c.in-Group.is c.requires.claim changes j c.install_group.new.list c.install_group.ensures.held c.install_group.ensures.listed c.install_group.ensures.packed c.install_group.ensures.claims c.install_group.ensures.book

pub returns-in-Marked-clause-stands : goal.returns-in-Marked-clause-stands
returns-in-Marked-clause-stands c = λ changes j.
    marks_stand c.args.self.now c.args.actor c.args.product c.requires.product c.in-Marked.marks c.in-Marked.is c.requires.claim changes j c.install_marks.new.list c.install_marks.ensures.held c.install_marks.ensures.rows c.install_marks.ensures.packed c.install_marks.ensures.claims c.install_marks.ensures.book
