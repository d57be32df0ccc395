-- The words after the mode, judged one pair after the other.
use Rattle.std.specs.Prelude.{ℕ, List, [], ◌∷◌, Bool, true, false, not, ◌&&◌, ◌||◌, bytes_eq, if◌then◌else◌, Option, None, Some}
use Rattle.std.specs.List.{find}
use Rattle.cs_types.specs.Calendar.{digits_value}
use Rattle.command_words.specs.declared.mode.Mode.{Mode}
use Rattle.command_words.specs.declared.option.CommandOption.{CommandOption}
use Rattle.command_words.specs.declared.order.Order.{Order}
use Rattle.command_words.specs.Options.{OptionRow, modes, name_of, is_number, is_value}
use Rattle.command_words.specs.Orders.{Words, is_pair, order_with}

-- the line of the table that an option is
abbrev pub row_of : CommandOption → OptionRow
row_of option = record { name = option.name.now; least = option.least; greatest = option.greatest; usual = option.usual }

-- the number of a text, where it is one
abbrev pub number_in : List ℕ → Option ℕ
number_in text = if is_number text then Some (digits_value text) else None

-- the value of an option that a text is
abbrev pub value_in : OptionRow → List ℕ → Option ℕ
value_in row text = if is_value row text then Some (digits_value text) else None

-- the mode of a word
abbrev pub mode_named : List ℕ → Option Mode
mode_named word = find (λ mode. bytes_eq (name_of mode) word) modes

-- one of the names is this one, where names and values stand in turn
abbrev pub is_named : List ℕ → Words → Bool
is_named name [] = false
is_named name (other ∷ []) = false
is_named name (other ∷ value ∷ rest) = bytes_eq name other || is_named name rest

-- the words are pairs of options of the mode, no option twice
abbrev pub are_pairs : Mode → Words → Bool
are_pairs mode [] = true
are_pairs mode (name ∷ []) = false
are_pairs mode (name ∷ value ∷ rest) = is_pair mode (name, value) && not (is_named name rest) && are_pairs mode rest

-- the value of the first text after the option's name
abbrev pub value_among : OptionRow → Words → ℕ
value_among row [] = row.usual
value_among row (name ∷ []) = row.usual
value_among row (name ∷ value ∷ rest) = if bytes_eq row.name name then (if is_value row value then digits_value value else row.usual) else value_among row rest

-- the order of a mode with these words after it, where they are pairs of it
abbrev pub order_in : Mode → Words → Option Order
order_in mode words = if are_pairs mode words then Some (order_with mode (λ row. value_among row words)) else None
