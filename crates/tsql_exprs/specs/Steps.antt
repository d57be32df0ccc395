-- What a method of the reader gives.
use Rattle.std.specs.Prelude.{◌≡◌, Result, Ok, Err}
use Rattle.tsql_exprs.specs.declared.error.ReadError.{ReadError}
use Rattle.tsql_exprs.specs.declared.error.ReadError.TheVariants as errors
use Rattle.tsql_grammar.specs.Forms.{Symbols, Reading}

abbrev pub Fails : {X : Type 0} → ReadError → Symbols → Reading X → Type 0
Fails errors.Memory rest read = Unit {0}
Fails errors.Stopped rest read = read ≡ Err rest

-- what a method returned and what it left to read is what reading gives, unless memory ran out
abbrev pub Steps : {X : Type 0} → Result X ReadError → Symbols → Reading X → Type 0
Steps (Ok x) rest read = read ≡ Ok (x, rest)
Steps (Err e) rest read = Fails e rest read
