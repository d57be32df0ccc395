-- Which order the words of the program are.
use Rattle.std.specs.Prelude.{◌≡◌, ◌≤◌, ℕ, List, [], ◌∷◌, Bool, true, not, ◌&&◌, bytes_eq}
use Rattle.std.specs.List.{list_all, list_any, find, flat_map}
use Rattle.std.specs.Option.{option_map_or}
use Rattle.cs_types.specs.Calendar.{digits_value}
use Rattle.command_words.specs.declared.mode.Mode.{Mode}
use Rattle.command_words.specs.declared.mode.Mode.TheVariants as mode
use Rattle.command_words.specs.declared.order.Order.{Order}
use Rattle.command_words.specs.declared.order.Order.TheVariants as order
use Rattle.command_words.specs.declared.order.RunOptions.{RunOptions}
use Rattle.command_words.specs.declared.order.Workload.{Workload}
use Rattle.command_words.specs.Options.{OptionRow, group_rows_row, direct_rows_row, workers_row, movers_row, number_row, sessions_row, statements_row, name_of, rows_of, is_value}

-- the words, each as its bytes
abbrev pub Words : Type 0
Words = List (List ℕ)

-- the name of an option, and the text of its value
abbrev pub Pair : Type 0
Pair = List ℕ × List ℕ

-- the words of pairs
abbrev pub words_of : List Pair → Words
words_of pairs = flat_map (λ (pair : Pair). pair.0 ∷ pair.1 ∷ []) pairs

-- a pair is this option and a value of it
abbrev pub is_of : Pair → OptionRow → Bool
is_of pair row = bytes_eq row.name pair.0 && is_value row pair.1

-- a pair is an option of the mode and a value of it
unfoldable pub is_pair : Mode → Pair → Bool
is_pair mode pair = list_any (is_of pair) (rows_of mode)

-- no two pairs have one name
abbrev pub are_once : List Pair → Bool
are_once [] = true
are_once (pair ∷ pairs) = not (list_any (λ (other : Pair). bytes_eq pair.0 other.0) pairs) && are_once pairs

-- the value that the pairs give an option, or its usual one where it does not stand
abbrev pub value_of : List Pair → OptionRow → ℕ
value_of pairs row = option_map_or (λ (pair : Pair). digits_value pair.1) (find (λ (pair : Pair). bytes_eq row.name pair.0) pairs) row.usual

-- the order of a mode whose options have these values
abbrev pub options_with : (OptionRow → ℕ) → RunOptions
options_with value = record { group_rows = value group_rows_row; direct_rows = value direct_rows_row; workers = value workers_row }

abbrev pub workload_with : (OptionRow → ℕ) → Workload
workload_with value = record { number = value number_row; sessions = value sessions_row; statements = value statements_row }

abbrev pub order_with : Mode → (OptionRow → ℕ) → Order
order_with mode.Replay value = order.Replay (options_with value)
order_with mode.Run value = order.Run (options_with value) (value movers_row)
order_with mode.Generate value = order.Generate (workload_with value)
order_with mode.Load value = order.Load (workload_with value) (options_with value)

-- the mode of an order
abbrev pub mode_in : Order → Mode
mode_in (order.Replay options) = mode.Replay
mode_in (order.Run options movers) = mode.Run
mode_in (order.Generate workload) = mode.Generate
mode_in (order.Load workload options) = mode.Load

-- a value that an option may have
abbrev pub IsWithin : OptionRow → ℕ → Type 0
IsWithin row value = (row.least ≤ value) × (value ≤ row.greatest)

-- each option of the order has such a value
abbrev pub AreInRange : RunOptions → Type 0
AreInRange options = IsWithin group_rows_row options.group_rows × IsWithin direct_rows_row options.direct_rows × IsWithin workers_row options.workers

abbrev pub IsWorkload : Workload → Type 0
IsWorkload workload = IsWithin number_row workload.number × IsWithin sessions_row workload.sessions × IsWithin statements_row workload.statements

abbrev pub IsInRange : Order → Type 0
IsInRange (order.Replay options) = AreInRange options
IsInRange (order.Run options movers) = AreInRange options × IsWithin movers_row movers
IsInRange (order.Generate workload) = IsWorkload workload
IsInRange (order.Load workload options) = IsWorkload workload × AreInRange options

-- the words are the order: a mode and pairs of an option of it and a value, no option twice
pub record IsOrder (words : Words) (order : Order) : Type 0 where
  pub mode : Mode
  pub pairs : List Pair
  pub said : words ≡ name_of mode ∷ words_of pairs
  pub values : list_all (is_pair mode) pairs ≡ true
  pub once : are_once pairs ≡ true
  pub is : order ≡ order_with mode (value_of pairs)
