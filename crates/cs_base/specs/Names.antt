-- Names of columns, tables and words.
use Rattle.std.specs.Prelude.{ℕ, List, Bool}
use Rattle.std.specs.Str.{str_eq_ignore_ascii_case}

-- two names are the same but for ASCII case
abbrev pub same_name : List ℕ → List ℕ → Bool
same_name a b = str_eq_ignore_ascii_case a b
