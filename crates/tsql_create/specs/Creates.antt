-- The setup statement that a text is, and where a text that is none is refused.
use Rattle.std.specs.Prelude.{◌≡◌, ℕ, List, length, ◌⊎◌, Result, Ok, Err}
use Rattle.tsql_tokens.specs.declared.token.Token.{Token}
use Rattle.tsql_tokens.specs.Tokens.{HasTokens, IsRefused}
use Rattle.tsql_grammar.specs.Forms.{Symbols}
use Rattle.tsql_grammar.specs.Places.{IsRefusedAt}
use Rattle.tsql_grammar.specs.Words.{symbols_of}
use Rattle.tsql_exprs.specs.declared.refusal.ReadRefusal.{ReadRefusal}
use Rattle.tsql_exprs.specs.declared.refusal.ReadRefusal.TheVariants as refusal
use Rattle.tsql_exprs.specs.Refusals.{number_at, place_at}
use Rattle.tsql_create.specs.declared.tree.CreateTree.{CreateTree}
use Rattle.tsql_create.specs.Setup.{create}

-- a text is a setup statement where its tokens have it by the grammar
abbrev pub IsCreate : List ℕ → CreateTree → Type 0
IsCreate text tree = (tokens : List Token) × HasTokens text tokens × (create text).Has (symbols_of text tokens) tree

-- the grammar goes on with no setup statement at the first of the rest
abbrev pub StopsAt : List ℕ → Symbols → ℕ → ℕ → Type 0
StopsAt text symbols number at = (rest : Symbols) × IsRefusedAt (create text) symbols rest
    × (number ≡ number_at symbols rest) × (at ≡ place_at (length text) rest)

-- a text is refused by its tokens, and else by the grammar
abbrev pub IsNoCreate : List ℕ → ℕ → ℕ → Type 0
IsNoCreate text number at = IsRefused text number at
    ⊎ ((tokens : List Token) × HasTokens text tokens × StopsAt text (symbols_of text tokens) number at)

-- a refusal is one of the text's
abbrev pub RefusesCreate : List ℕ → ReadRefusal → Type 0
RefusesCreate text (refusal.At number at) = IsNoCreate text number at
RefusesCreate text refusal.Memory = Unit {0}

-- what reading all the symbols gave
abbrev pub JudgedCreate : ℕ → Symbols → ReadRefusal → Result CreateTree Symbols → Type 0
JudgedCreate size symbols refusal.Memory read = Unit {0}
JudgedCreate size symbols (refusal.At number at) read =
    (rest : Symbols) × (read ≡ Err rest) × (number ≡ number_at symbols rest) × (at ≡ place_at size rest)

abbrev pub JudgesCreate : ℕ → Symbols → Result CreateTree ReadRefusal → Result CreateTree Symbols → Type 0
JudgesCreate size symbols (Ok tree) read = read ≡ Ok tree
JudgesCreate size symbols (Err e) read = JudgedCreate size symbols e read
