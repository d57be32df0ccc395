use Rattle.std.proofs.Common.{arith}
use Rattle.group_book.proofs.Ledger.{adds_up}
use Rattle.group_view.specs.Books.{book_of}
use Rattle.group_directory.proofs.BookLaws.{reach}
use Rattle.group_directory.proofs.directory.Directory.rows.Goals as goal

pub returns : goal.returns
returns c = λ changes stands.
    let directory = c.args.self.now in
    let counts = adds_up directory.sizes.group_rows (book_of directory.list) changes directory.clock stands.floor stands.numbered (reach directory changes stands) stands.book in
    omega (arith, counts, c.rows.ensures)
