-- Each line of the setup statement keeps the laws of reading.
use Rattle.std.proofs.Common.{ℕ, List, Option, refl}
use Rattle.tsql_trees.specs.declared.leaf.NameTree.{NameTree}
use Rattle.tsql_grammar.specs.declared.terminal.Terminal.TheVariants as terminal
use Rattle.tsql_grammar.specs.declared.terminal.Symbol.{Symbol}
use Rattle.tsql_grammar.specs.Grammar.{name, unsigned, table, digits_part, size_part, column_type}
use Rattle.tsql_grammar.proofs.Laws.{Laws}
use Rattle.tsql_grammar.proofs.Makers.{made, both, choose, maybe, repeated, word_laws, behind_laws, within_laws, listed_laws}
use Rattle.tsql_grammar.proofs.Lines.{name_laws, table_laws, column_type_laws}
use Rattle.tsql_create.specs.declared.tree.CreateTree.{CreateTree}
use Rattle.tsql_create.specs.declared.tree.TablePartTree.{TablePartTree}
use Rattle.tsql_create.specs.Setup.{null_of, not_null_of, key_of, column_of, key_part_of, index_of, create_of, primary_key, mark, column_part, constraint_part, key_column, key_part, index_part, table_part, create}

pub primary_key_laws : Laws primary_key
unfolding name unsigned table digits_part size_part column_type primary_key
primary_key_laws = made (λ (x : Symbol × Option Symbol). x.0) (both (word_laws terminal.Primary refl) (behind_laws terminal.Key refl (maybe (word_laws terminal.Nonclustered refl) refl)) refl)

pub mark_laws : Laws mark
unfolding name unsigned table digits_part size_part column_type primary_key mark
mark_laws = choose (made null_of (word_laws terminal.Null refl)) (choose (made not_null_of (both (word_laws terminal.Not refl) (word_laws terminal.Null refl) refl))
    (made key_of primary_key_laws) refl refl refl) refl refl refl

pub column_part_laws : (text : List ℕ) → Laws (column_part text)
unfolding name unsigned table digits_part size_part column_type primary_key mark column_part
column_part_laws text = made column_of (both (name_laws text) (both (column_type_laws text) (repeated mark_laws refl refl) refl) refl)

pub constraint_part_laws : (text : List ℕ) → Laws (constraint_part text)
unfolding name unsigned table digits_part size_part column_type primary_key mark column_part constraint_part
constraint_part_laws text = behind_laws terminal.Constraint refl (name_laws text)

pub key_column_laws : (text : List ℕ) → Laws (key_column text)
unfolding name unsigned table digits_part size_part column_type primary_key mark column_part constraint_part key_column
key_column_laws text = within_laws (made (λ (x : NameTree × Option Symbol). x.0) (both (name_laws text) (maybe (word_laws terminal.Asc refl) refl) refl)) refl

pub key_part_laws : (text : List ℕ) → Laws (key_part text)
unfolding name unsigned table digits_part size_part column_type primary_key mark column_part constraint_part key_column key_part
key_part_laws text = made (λ (x : Option NameTree × TablePartTree). x.1) (both (maybe (constraint_part_laws text) refl) (made key_part_of (both primary_key_laws (key_column_laws text) refl)) refl)

pub index_part_laws : (text : List ℕ) → Laws (index_part text)
unfolding name unsigned table digits_part size_part column_type primary_key mark column_part constraint_part key_column key_part index_part
index_part_laws text = behind_laws terminal.Index refl (made index_of (made (λ (x : NameTree × Symbol). x.0) (both (name_laws text) (behind_laws terminal.Clustered refl (word_laws terminal.Columnstore refl)) refl)))

pub table_part_laws : (text : List ℕ) → Laws (table_part text)
unfolding name unsigned table digits_part size_part column_type primary_key mark column_part constraint_part key_column key_part index_part table_part
table_part_laws text = choose (column_part_laws text) (choose (key_part_laws text) (index_part_laws text) refl refl refl) refl refl refl

pub create_laws : (text : List ℕ) → Laws (create text)
unfolding name unsigned table digits_part size_part column_type primary_key mark column_part constraint_part key_column key_part index_part table_part create
create_laws text = made (λ (x : CreateTree × Option Symbol). x.0) (both (made create_of (behind_laws terminal.Create refl (behind_laws terminal.Table refl (both (table_laws text)
    (within_laws (listed_laws (table_part_laws text) refl refl) refl) refl)))) (maybe (word_laws terminal.SemicolonSign refl) refl) refl)
