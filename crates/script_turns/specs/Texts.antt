-- What the text of a statement means over a schema: its statement's bound form, or its first refusal.
use Rattle.std.specs.Prelude.{◌≡◌, ◌⊎◌, ℕ, List, Result, Ok, Err}
use Rattle.cs_types.specs.declared.Schema.{Schema}
use Rattle.cs_model.specs.declared.entry.Bound.{Bound}
use Rattle.cs_model.specs.declared.entry.Bound.TheVariants.{Refused}
use Rattle.cs_model.specs.declared.entry.Refusal.TheVariants.{Reading}
use Rattle.tsql_trees.specs.declared.statement.Statement.{Statement}
use Rattle.tsql_reader.specs.Statements.{IsStatement, IsNoStatement}
use Rattle.bind_faults.specs.declared.fault.Fault.{Fault}
use Rattle.tsql_binder.specs.Meaning.{bound_of}

abbrev pub refused : Fault → Bound
refused f = Refused (Reading f.number f.at)

abbrev pub bound_or : Result Bound Fault → Bound
bound_or (Ok bound) = bound
bound_or (Err f) = refused f

-- what a text means: the bound form of its statement, or that statement's refusal, or the refusal of a text that is none
abbrev pub Means : Schema → List ℕ → Bound → Type 0
Means schema text bound =
    ((statement : Statement) × IsStatement text statement × (bound ≡ bound_or (bound_of schema statement)))
    ⊎ ((number : ℕ) × (at : ℕ) × IsNoStatement text number at × (bound ≡ Refused (Reading number at)))
