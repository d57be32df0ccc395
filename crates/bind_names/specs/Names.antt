-- Names and literals of statements over a schema.
use Rattle.std.specs.Prelude.{ℕ, List, [], ◌∷◌, ◌==◌, Bool, false, Option, ℤ, pos, neg_ℤ, if◌then◌else◌}
use Rattle.std.specs.List.{position_from}
use Rattle.cs_base.specs.Names.{same_name}
use Rattle.cs_types.specs.declared.Schema.{Schema}
use Rattle.cs_types.specs.declared.Loose.{Loose}
use Rattle.cs_types.specs.declared.Loose.TheVariants as loose
use Rattle.cs_types.specs.Calendar.{date_of}
use Rattle.tsql_trees.specs.declared.leaf.NumberTree.{NumberTree}

-- the number of the first column of a name, counted from 0
abbrev pub column_named : Schema → List ℕ → Option ℕ
column_named schema name = position_from (λ c. same_name c.name name) 0 schema.columns

-- a byte before a text that has no trailing spaces: a space before nothing is one, and goes
abbrev pub before_trimmed : ℕ → List ℕ → List ℕ
before_trimmed byte [] = if byte == 32 then [] else byte ∷ []
before_trimmed byte (next ∷ rest) = byte ∷ next ∷ rest

-- a text without its trailing spaces
abbrev pub trimmed : List ℕ → List ℕ
trimmed [] = []
trimmed (byte ∷ rest) = before_trimmed byte (trimmed rest)

-- the day that a text literal names, if it is a date
abbrev pub date_literal : List ℕ → Option ℤ
date_literal text = date_of (trimmed text)

-- a number with its sign
abbrev pub signed_digits : Bool → ℕ → ℤ
signed_digits minus digits = if minus then neg_ℤ (pos digits) else pos digits

-- a number literal: its digits with its sign, over ten to the number of digits after the point
abbrev pub number_literal : NumberTree → Loose
number_literal number = loose.Number (signed_digits number.minus number.digits) number.s
