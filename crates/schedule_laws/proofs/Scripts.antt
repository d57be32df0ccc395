-- A text is one script.
use Rattle.std.proofs.Common.{◌≡◌, ℕ, List, Ok, sym, ap, subst, ◌∙◌}
use Rattle.cs_types.specs.declared.Schema.{Schema}
use Rattle.tsql_grammar.specs.Words.{symbols_of}
use Rattle.tsql_grammar.proofs.Whole.{whole_only}
use Rattle.tsql_create.specs.declared.tree.CreateTree.{CreateTree}
use Rattle.tsql_create.specs.Creates.{IsCreate}
use Rattle.tsql_create.specs.Setup.{create}
use Rattle.tsql_create.specs.Tables.{IsTable}
use Rattle.tsql_create.proofs.CreateClauses as creates
use Rattle.tsql_create.proofs.SetupLines.{create_laws}
use Rattle.tsql_create.proofs.TableClauses as tables
use Rattle.script_reader.specs.declared.script.Mode.{Mode}
use Rattle.script_reader.specs.declared.script.Script.{Script}
use Rattle.script_reader.specs.Scripts.{IsScript, sessions_of}
use Rattle.schedule_laws.proofs.Texts.{tokens_one}

create_one : (text : List ℕ) (tree other : CreateTree) → IsCreate text tree → IsCreate text other → tree ≡ other
create_one text tree other (tokens, has, is) also =
    creates.ok_only text tokens has (λ others h. tokens_one text tokens others has h) (Ok tree) (whole_only (create text) (create_laws text) (symbols_of text tokens) tree is) other also

table_one : (text : List ℕ) (schema other : Schema) → IsTable text schema → IsTable text other → schema ≡ other
table_one text schema other (tree, is, means) also = tables.ok_only text tree is (λ twin has. create_one text tree twin is has) (Ok schema) means other also

pub script_one : (mode : Mode) (bytes : List ℕ) (script other : Script) → IsScript mode bytes script → IsScript mode bytes other → script ≡ other
script_one mode bytes script other x y =
    let both = sym x.setup ∙ y.setup in
    let text : x.text ≡ y.text = cc in
    let schema = table_one y.text script.schema other.schema (subst (λ t. IsTable t script.schema) text x.table) y.table in
    let lines = x.steps ∙ sym y.steps in
    let sessions = x.sessions ∙ ap sessions_of lines ∙ sym y.sessions in
    λ i. record { schema = schema i; lines = lines i; sessions = sessions i }
