-- Where a text that is none of the form's is refused.
use Rattle.std.specs.Prelude.{◌≡◌, [], ◌∷◌, ◌++◌, Result, Ok, Err}
use Rattle.tsql_grammar.specs.Forms.{Symbols, Reading, Form}

-- some text of the form begins with these tokens
abbrev pub Begins : {X : Type 0} → Form X → Symbols → Type 0
Begins {X} a u = (more : Symbols) × (x : X) × a.Has (u ++ more) x

-- no text of the form has these tokens and then the next one; the end is after all tokens
abbrev pub IsStuck : {X : Type 0} → Form X → Symbols → Symbols → Type 0
IsStuck {X} a u [] = (x : X) → a.Has u x → ⊥
IsStuck a u (t ∷ rest) = Begins a (u ++ t ∷ []) → ⊥

-- the first of rest is the first token at which no text of the form can go on
abbrev pub IsRefusedAt : {X : Type 0} → Form X → Symbols → Symbols → Type 0
IsRefusedAt a ts rest = (u : Symbols) × (ts ≡ u ++ rest) × Begins a u × IsStuck a u rest

-- all of the tokens
abbrev pub to_end : {X : Type 0} → Reading X → Result X Symbols
to_end (Ok (x, [])) = Ok x
to_end (Ok (x, t ∷ rest)) = Err (t ∷ rest)
to_end (Err rest) = Err rest
