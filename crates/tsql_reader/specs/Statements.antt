-- The statement that a text is, and where a text that is none is refused.
use Rattle.std.specs.Prelude.{◌≡◌, ℕ, ◌+◌, List, [], ◌∷◌, length, Bool, false, ◌==◌, ◌&&◌, ◌⊎◌, if◌then◌else◌, Result, Ok, Err, None, Some}
use Rattle.tsql_trees.specs.declared.statement.Statement.{Statement}
use Rattle.tsql_tokens.specs.declared.token.Token.{Token}
use Rattle.tsql_tokens.specs.Tokens.{HasTokens, IsRefused}
use Rattle.tsql_grammar.specs.declared.terminal.Terminal.TheVariants as terminal
use Rattle.tsql_grammar.specs.Terminals.{same}
use Rattle.tsql_grammar.specs.Forms.{Symbols, Form}
use Rattle.tsql_grammar.specs.Places.{IsRefusedAt, to_end}
use Rattle.tsql_grammar.specs.Words.{symbols_of}
use Rattle.tsql_grammar.specs.Grammar.{line}
use Rattle.tsql_exprs.specs.declared.refusal.ReadRefusal.{ReadRefusal}
use Rattle.tsql_exprs.specs.declared.refusal.ReadRefusal.TheVariants as refusal
use Rattle.tsql_exprs.specs.Refusals.{number_at, place_at}
use Rattle.tsql_reader.specs.Limits.{passed_limit}

-- a line with a statement, in which at most 64 parentheses are open, as the limits of tokens have it
unfoldable pub grammar : List ℕ → Form Statement
grammar text = line text 64

-- a text is a statement where its tokens have it by the grammar, and no list is over a limit
abbrev pub IsStatement : List ℕ → Statement → Type 0
IsStatement text statement = (tokens : List Token) × HasTokens text tokens
    × (grammar text).Has (symbols_of text tokens) statement × (passed_limit (symbols_of text tokens) statement ≡ None)

-- the grammar goes on with no statement at the first of the rest
abbrev pub StopsAt : List ℕ → Symbols → ℕ → ℕ → Type 0
StopsAt text symbols number at = (rest : Symbols) × IsRefusedAt (grammar text) symbols rest
    × (number ≡ number_at symbols rest) × (at ≡ place_at (length text) rest)

-- a statement has a list over a limit
abbrev pub PassesAt : List ℕ → Symbols → ℕ → ℕ → Type 0
PassesAt text symbols number at = (statement : Statement) × (grammar text).Has symbols statement × (passed_limit symbols statement ≡ Some (number, at))

-- a text is refused by its tokens, and else by the grammar, and else by a limit of its lists
abbrev pub IsNoStatement : List ℕ → ℕ → ℕ → Type 0
IsNoStatement text number at = IsRefused text number at
    ⊎ ((tokens : List Token) × HasTokens text tokens × (StopsAt text (symbols_of text tokens) number at ⊎ PassesAt text (symbols_of text tokens) number at))

-- a refusal is one of the text's
abbrev pub RefusesStatement : List ℕ → ReadRefusal → Type 0
RefusesStatement text (refusal.At number at) = IsNoStatement text number at
RefusesStatement text refusal.Memory = Unit {0}

-- ---- how it is found

-- what reading all the symbols gave
abbrev pub JudgedStatement : ℕ → Symbols → ReadRefusal → Result Statement Symbols → Type 0
JudgedStatement size symbols refusal.Memory read = Unit {0}
JudgedStatement size symbols (refusal.At number at) read = (rest : Symbols) × (read ≡ Err rest) × (number ≡ number_at symbols rest) × (at ≡ place_at size rest)

abbrev pub JudgesStatement : ℕ → Symbols → Result Statement ReadRefusal → Result Statement Symbols → Type 0
JudgesStatement size symbols (Ok statement) read = read ≡ Ok statement
JudgesStatement size symbols (Err e) read = JudgedStatement size symbols e read

-- what reading the symbols of a text gave, and the limits of its lists
abbrev pub FollowsRefused : List ℕ → Symbols → ReadRefusal → Type 0
FollowsRefused text symbols refusal.Memory = Unit {0}
FollowsRefused text symbols (refusal.At number at) =
    JudgedStatement (length text) symbols (refusal.At number at) (to_end ((grammar text).reads symbols))
    ⊎ ((statement : Statement) × (to_end ((grammar text).reads symbols) ≡ Ok statement) × (passed_limit symbols statement ≡ Some (number, at)))

abbrev pub FollowsTokens : List ℕ → Symbols → Result Statement ReadRefusal → Type 0
FollowsTokens text symbols (Ok statement) = (to_end ((grammar text).reads symbols) ≡ Ok statement) × (passed_limit symbols statement ≡ None)
FollowsTokens text symbols (Err e) = FollowsRefused text symbols e
