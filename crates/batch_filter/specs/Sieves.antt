-- Which rows of a packed group a predicate keeps.
use Rattle.std.specs.Prelude.{ℕ, Bool, true, false, List, map, Some}
use Rattle.cs_types.specs.declared.Schema.{Schema}
use Rattle.cs_model.specs.declared.pred.Pred.{Pred}
use Rattle.cs_model.specs.declared.truth.Truth.{Truth}
use Rattle.cs_model.specs.declared.truth.Truth.TheVariants.{True, False, Unknown}
use Rattle.cs_model.specs.Queries.{keeps}
use Rattle.cs_model.specs.Truths.{truth}
use Rattle.row_group.specs.Groups.{Group, row_at}

-- one verdict for each row of a group, in order: whether the predicate is True there
abbrev pub verdicts : Schema → Pred → Group → List Bool
verdicts schema pred group = map (λ row. keeps schema (Some pred) row.cells) group.rows

-- a truth is the one that is asked for: True, or False. Unknown is neither
abbrev pub is_asked : Bool → Truth → Bool
is_asked true True = true
is_asked true False = false
is_asked true Unknown = false
is_asked false True = false
is_asked false False = true
is_asked false Unknown = false

-- the predicate has the truth that is asked for at a position of a group
abbrev pub asks : Schema → Group → Bool → Pred → ℕ → Bool
asks schema group holds pred position = is_asked holds (truth pred (row_at group position).cells schema)
