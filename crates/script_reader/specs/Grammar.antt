-- The forms of lines, as the grammar has them.
use Rattle.std.specs.Prelude.{◌≡◌, ◌⊎◌, ◌<◌, ℕ, List, [], ◌++◌, length, codes, true}
use Rattle.std.specs.List.{list_all}
use Rattle.cs_types.specs.Calendar.{is_digit, digits_value}
use Rattle.script_reader.specs.declared.script.Step.TheVariants.{Whole, Begun, Finished, Turn, Claiming, Installing}
use Rattle.script_reader.specs.declared.form.Form.{Form}
use Rattle.script_reader.specs.declared.form.Form.TheVariants.{Skipped, Setup, Ask, Other}
use Rattle.script_reader.specs.Lines.{is_blank, unblanked, is_number}

-- tabs and spaces
abbrev pub AreBlanks : List ℕ → Type 0
AreBlanks blanks = list_all is_blank blanks ≡ true

-- a text: some bytes, of which the first is no blank
abbrev pub IsText : List ℕ → Type 0
IsText text = (0 < length text) × (unblanked text ≡ text)

-- digits that write the number of a session or a mover
abbrev pub IsNumber : List ℕ → ℕ → Type 0
IsNumber digits number = (list_all is_digit digits ≡ true) × (is_number digits ≡ true) × (number ≡ digits_value digits)

-- a line without blanks at its ends is of a form
abbrev pub IsOfForm : List ℕ → Form → Type 0
IsOfForm line Skipped = (line ≡ []) ⊎ ((rest : List ℕ) × (line ≡ codes "--" ++ rest))
IsOfForm line (Setup text) = (blanks : List ℕ) × (line ≡ codes "setup" ++ (blanks ++ text)) × (0 < length blanks) × AreBlanks blanks × IsText text
IsOfForm line (Ask (Whole session text)) = (digits : List ℕ) × (blanks : List ℕ) × (line ≡ codes "s" ++ (digits ++ (blanks ++ text))) × IsNumber digits session × (0 < length blanks) × AreBlanks blanks × IsText text
IsOfForm line (Ask (Begun session text)) = (digits : List ℕ) × (blanks : List ℕ) × (line ≡ codes "s" ++ (digits ++ (codes ">" ++ (blanks ++ text)))) × IsNumber digits session × AreBlanks blanks × IsText text
IsOfForm line (Ask (Finished session)) = (digits : List ℕ) × (line ≡ codes "s" ++ (digits ++ codes "<")) × IsNumber digits session
IsOfForm line (Ask (Turn mover)) = (digits : List ℕ) × (line ≡ codes "m" ++ digits) × IsNumber digits mover
IsOfForm line (Ask (Claiming mover)) = (digits : List ℕ) × (line ≡ codes "m" ++ (digits ++ codes ">")) × IsNumber digits mover
IsOfForm line (Ask (Installing mover)) = (digits : List ℕ) × (line ≡ codes "m" ++ (digits ++ codes "<")) × IsNumber digits mover
IsOfForm line Other = ⊥
