-- The modes of the program, their options, and the values that these take.
use Rattle.std.specs.Prelude.{ℕ, List, [], ◌∷◌, length, codes, Bool, true, false, ◌&&◌, nat_le}
use Rattle.std.specs.List.{list_all}
use Rattle.cs_types.specs.Calendar.{is_digit, digits_value}
use Rattle.command_words.specs.declared.mode.Mode.{Mode}
use Rattle.command_words.specs.declared.mode.Mode.TheVariants.{Replay, Run, Generate, Load}

-- a line of the table of options
pub record OptionRow : Type 0 where
  pub name : List ℕ
  pub least : ℕ
  pub greatest : ℕ
  pub usual : ℕ

-- ---- the table of options

abbrev pub group_rows_row : OptionRow
group_rows_row = record { name = codes "--group-rows"; least = 2; greatest = 1048576; usual = 1048576 }

abbrev pub direct_rows_row : OptionRow
direct_rows_row = record { name = codes "--direct-rows"; least = 1; greatest = 1048576; usual = 102400 }

abbrev pub workers_row : OptionRow
workers_row = record { name = codes "--workers"; least = 1; greatest = 16; usual = 1 }

abbrev pub movers_row : OptionRow
movers_row = record { name = codes "--movers"; least = 0; greatest = 8; usual = 1 }

abbrev pub number_row : OptionRow
number_row = record { name = codes "--number"; least = 0; greatest = 2147483647; usual = 1 }

abbrev pub sessions_row : OptionRow
sessions_row = record { name = codes "--sessions"; least = 1; greatest = 64; usual = 4 }

abbrev pub statements_row : OptionRow
statements_row = record { name = codes "--statements"; least = 0; greatest = 200000; usual = 1000 }

-- ---- the table of modes

-- a line of it: the mode's word, its options, and whether it reads the input
pub record ModeRow : Type 0 where
  pub name : List ℕ
  pub options : List OptionRow
  pub reads_input : Bool

-- the modes
abbrev pub modes : List Mode
modes = Replay ∷ Run ∷ Generate ∷ Load ∷ []

-- the line of a mode
abbrev pub line_of : Mode → ModeRow
line_of Replay = record { name = codes "replay"; options = group_rows_row ∷ direct_rows_row ∷ workers_row ∷ []; reads_input = true }
line_of Run = record { name = codes "run"; options = group_rows_row ∷ direct_rows_row ∷ workers_row ∷ movers_row ∷ []; reads_input = true }
line_of Generate = record { name = codes "generate"; options = number_row ∷ sessions_row ∷ statements_row ∷ []; reads_input = false }
line_of Load =
    record { name = codes "load"; options = group_rows_row ∷ direct_rows_row ∷ workers_row ∷ number_row ∷ sessions_row ∷ statements_row ∷ []; reads_input = false }

-- its word
abbrev pub name_of : Mode → List ℕ
name_of mode = let line = line_of mode in line.name

-- its options
abbrev pub rows_of : Mode → List OptionRow
rows_of mode = let line = line_of mode in line.options

-- whether it reads the input
abbrev pub reads_input : Mode → Bool
reads_input mode = let line = line_of mode in line.reads_input

-- ---- values

-- a text is a number: 1 to 10 digits
abbrev pub is_number : List ℕ → Bool
is_number text = list_all is_digit text && nat_le 1 (length text) && nat_le (length text) 10

-- a text is a value of an option: a number in its range
abbrev pub is_value : OptionRow → List ℕ → Bool
is_value row text = is_number text && nat_le row.least (digits_value text) && nat_le (digits_value text) row.greatest
