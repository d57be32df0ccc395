-- A new table, and what its core is made with.
use Rattle.std.specs.Prelude.{◌≡◌, ℕ, [], None}
use Rattle.cs_types.specs.declared.Schema.{Schema}
use Rattle.txn_table.specs.Txns.{txn_of}
use Rattle.group_book.specs.Book.{empty}
use Rattle.group_view.specs.Books.{book_of}
use Rattle.group_directory.specs.declared.directory.Directory.{Directory}
use Rattle.group_directory.specs.Laws.{sizes_of as directory_sizes}
use Rattle.group_directory.specs.Stands.{Stands}
use Rattle.statement_core.specs.declared.started.Terms.{Terms}
use Rattle.statement_core.specs.Terms.{sizes_of}

-- the directory of a table without rows, of this schema, with the terms that name it and these sizes
pub record IsNewTable (table : Schema) (most least : ℕ) (directory : Directory) (terms : Terms) : Type 0 where
  pub stands : Stands directory []
  pub groups : book_of directory.list ≡ empty
  pub txns : (session : ℕ) → txn_of directory.txns session ≡ None
  pub next : directory.txns.next ≡ 1
  pub clock : directory.clock ≡ 0
  pub same : directory.schema.value ≡ terms.schema.value
  pub sizes : directory_sizes directory ≡ sizes_of terms
  pub schema : terms.schema.value ≡ table
  pub group_rows : terms.group_rows ≡ most
  pub direct_rows : terms.direct_rows ≡ least
