-- The dictionary of a column's cells, and its codes.
use Rattle.std.specs.Prelude.{◌≡◌, ◌+◌, ◌<◌, ◌/◌, ℕ, ℤ, Bool, List, Option, All, map, length, slice_index, slice_index_or, slice_get, Some, IsNone}
use Rattle.std.specs.Ordering.{nat_cmp, int_cmp}
use Rattle.std.specs.Cmp.Lexicographic.{slice_cmp}
use Rattle.segment_dict.specs.declared.Dict.{Dict}
use Rattle.segment_dict.specs.declared.Dict.TheVariants.{Numbers, Texts}
use Rattle.segment_dict.specs.Dictionaries.{IsDictOf, HasCell, AreCodesOf, codes_of, cell_of}
use Rattle.segment_dict.specs.Texts.{texts_in}
use Rattle.cs_types.specs.declared.Value.{Value}
use Rattle.column_segment.specs.Cells.{number_of, text_of, text_cell, HasNoText, HasNoNumber, HasText}
use Rattle.cs_types.specs.Rows.{number_cell}

-- the dictionary is that of the cells: of texts where a cell is one
abbrev pub IsDictFor : List Value → Dict → Type 0
IsDictFor cells (Numbers dict) = HasNoText cells × IsDictOf int_cmp (map number_of cells) dict.entries dict.nulls
IsDictFor cells (Texts dict) = HasText cells × HasNoNumber cells × IsDictOf (slice_cmp nat_cmp) (map text_of cells) (texts_in dict.ends dict.bytes) dict.nulls

-- the cell of a code, and how many codes there are
abbrev pub dict_cell : Dict → ℕ → Value
dict_cell (Numbers dict) code = number_cell (cell_of dict.entries dict.nulls code)
dict_cell (Texts dict) code = text_cell (cell_of (texts_in dict.ends dict.bytes) dict.nulls code)

abbrev pub dict_codes : Dict → ℕ
dict_codes (Numbers dict) = codes_of dict.entries dict.nulls
dict_codes (Texts dict) = codes_of (texts_in dict.ends dict.bytes) dict.nulls

-- whether it has a code for NULL
abbrev pub dict_nulls : Dict → Bool
dict_nulls (Numbers dict) = dict.nulls
dict_nulls (Texts dict) = dict.nulls

-- what its entries cost in words: one a number, or one a text and the joined bytes, 8 to a word
abbrev pub dict_words : Dict → ℕ
dict_words (Numbers dict) = length dict.entries
dict_words (Texts dict) = length dict.ends + (length dict.bytes + 7) / 8

-- the code is the cell's
abbrev pub IsDictCode : Dict → Value → ℕ → Type 0
IsDictCode dict cell code = (code < dict_codes dict) × (dict_cell dict code ≡ cell)

-- each code is that of the cell in its place
abbrev pub AreDictCodes : Dict → List Value → List ℕ → Type 0
AreDictCodes dict cells codes =
    (length codes ≡ length cells)
    × ((i : ℕ) (cell : Value) → slice_get cells i ≡ Some cell → IsDictCode dict cell (slice_index codes i))

-- the numbers that the cells of all codes are, in the order of the codes
abbrev pub AreCodeNumbers : Dict → List (Option ℤ) → Type 0
AreCodeNumbers dict numbers =
    (length numbers ≡ dict_codes dict)
    × ((code : ℕ) (d : Option ℤ) → code < dict_codes dict → slice_index_or numbers code d ≡ number_of (dict_cell dict code))

-- the dictionary has the cell
abbrev pub HasEntry : Dict → Value → Type 0
HasEntry (Numbers dict) cell = IsNone (text_of cell) × HasCell dict.entries dict.nulls (number_of cell)
HasEntry (Texts dict) cell = IsNone (number_of cell) × HasCell (texts_in dict.ends dict.bytes) dict.nulls (text_of cell)

-- the dictionary is one of numbers, and has these
abbrev pub HasNumbers : Dict → List (Option ℤ) → Type 0
HasNumbers (Numbers dict) numbers = All (HasCell dict.entries dict.nulls) numbers
HasNumbers (Texts dict) numbers = ⊥

-- each code is that of the number in its place
abbrev pub AreNumberCodes : Dict → List (Option ℤ) → List ℕ → Type 0
AreNumberCodes (Numbers dict) numbers codes = AreCodesOf dict.entries dict.nulls numbers codes
AreNumberCodes (Texts dict) numbers codes = ⊥

-- the dictionary is that of the cells, of which there is one at least, and these are their codes
abbrev pub IsCoded : List Value → Dict → List ℕ → Type 0
IsCoded cells dict codes = (0 < length cells) × IsDictFor cells dict × AreDictCodes dict cells codes
