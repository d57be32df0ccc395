-- The numbers and the places of refusals.
use Rattle.std.specs.Prelude.{◌≡◌, ℕ, ◌+◌, [], ◌∷◌, length, Bool, false, ◌==◌, ◌&&◌, if◌then◌else◌}
use Rattle.tsql_grammar.specs.declared.terminal.Terminal.TheVariants as terminal
use Rattle.tsql_grammar.specs.Terminals.{same}
use Rattle.tsql_grammar.specs.Forms.{Symbols}
use Rattle.tsql_exprs.specs.declared.refusal.ReadRefusal.{ReadRefusal}
use Rattle.tsql_exprs.specs.declared.refusal.ReadRefusal.TheVariants as refusal

-- the next token is the second one, and the first is ALTER
abbrev pub follows_alter : Symbols → Symbols → Bool
follows_alter [] rest = false
follows_alter (t ∷ more) rest = same t.terminal terminal.Alter && length more == length rest

-- 50001 at an outside word and at TABLE after ALTER, and else 102
abbrev pub number_at : Symbols → Symbols → ℕ
number_at symbols [] = 102
number_at symbols (t ∷ rest) =
    if same t.terminal terminal.Outside then 50001
    else if same t.terminal terminal.Table && follows_alter symbols (t ∷ rest) then 50001
    else 102

-- the place of the next token; the end stands one past the last byte
abbrev pub place_at : ℕ → Symbols → ℕ
place_at size [] = size + 1
place_at size (t ∷ rest) = t.place

-- a refusal is this one, unless memory ran out
abbrev pub AnswersOnly : ℕ → ℕ → ReadRefusal → Type 0
AnswersOnly number at (refusal.At n place) = (n ≡ number) × (place ≡ at)
AnswersOnly number at refusal.Memory = Unit {0}
