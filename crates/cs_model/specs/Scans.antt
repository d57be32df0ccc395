-- How many segments a scan reads and how many it skips: it counts one for each packed group, whose cells are given by column.
use Rattle.std.specs.Prelude.{ℕ, Bool, false, not, List, filter, length, Option, None, Some}
use Rattle.cs_types.specs.declared.Schema.{Schema}
use Rattle.cs_types.specs.declared.Value.{Value}
use Rattle.cs_model.specs.declared.pred.Pred.{Pred}
use Rattle.cs_model.specs.Skips.{skips}

-- whether a condition skips a group; without a condition none is skipped
abbrev pub is_skipped : Schema → Option Pred → (ℕ → List Value) → Bool
is_skipped schema None cells = false
is_skipped schema (Some pred) cells = skips schema pred cells

-- the groups that are read, and those that are skipped
abbrev pub scan_counts : Schema → Option Pred → List (ℕ → List Value) → ℕ × ℕ
scan_counts schema condition groups =
    (length (filter (λ cells. not (is_skipped schema condition cells)) groups), length (filter (is_skipped schema condition) groups))
