-- What a segment keeps, and the four ways to keep the cells of a column.
use Rattle.std.specs.Prelude.{◌≡◌, ◌⊎◌, ◌+◌, ◌*◌, ◌<◌, ◌≤◌, ℕ, List, map, length, Option, None, Some}
use Rattle.bit_pack.specs.Codes.{code_at}
use Rattle.segment_value.specs.declared.Scale.{Scale}
use Rattle.segment_value.specs.Scales.{IsScaling, IsCode, code_of, cell_of}
use Rattle.segment_dict.specs.declared.Dict.{Dict}
use Rattle.segment_rle.specs.Runs.{AreRunsOf}
use Rattle.cs_types.specs.declared.Value.{Value}
use Rattle.cs_types.specs.declared.Encoding.{Encoding}
use Rattle.cs_types.specs.declared.Encoding.TheVariants as encoding
use Rattle.column_segment.specs.declared.body.SegmentBody.{SegmentBody}
use Rattle.column_segment.specs.declared.body.SegmentBody.TheVariants.{ValuePacked, ValueRuns, DictPacked, DictRuns}
use Rattle.column_segment.specs.Cells.{number_of, HasNoText, HasText}
use Rattle.cs_types.specs.Rows.{number_cell}
use Rattle.column_segment.specs.Layouts.{ArePacked, code_in_runs}
use Rattle.column_segment.specs.Dicts.{IsDictFor, AreDictCodes, dict_cell, dict_codes, dict_words}

-- code i, read from the words or the runs
abbrev pub code_in : SegmentBody → ℕ → ℕ
code_in (ValuePacked scale width words) i = code_at width words i
code_in (ValueRuns scale runs) i = code_in_runs runs.codes runs.ends i
code_in (DictPacked dict width words) i = code_at width words i
code_in (DictRuns dict runs) i = code_in_runs runs.codes runs.ends i

-- the cell of a code
abbrev pub cell_of_code : SegmentBody → ℕ → Value
cell_of_code (ValuePacked scale width words) code = number_cell (cell_of scale code)
cell_of_code (ValueRuns scale runs) code = number_cell (cell_of scale code)
cell_of_code (DictPacked dict width words) code = dict_cell dict code
cell_of_code (DictRuns dict runs) code = dict_cell dict code

-- cell i: that of code i
abbrev pub cell_in : SegmentBody → ℕ → Value
cell_in body i = cell_of_code body (code_in body i)

-- the code is one that the scale or the dictionary has
abbrev pub IsKnown : SegmentBody → ℕ → Type 0
IsKnown (ValuePacked scale width words) code = IsCode scale code
IsKnown (ValueRuns scale runs) code = IsCode scale code
IsKnown (DictPacked dict width words) code = code < dict_codes dict
IsKnown (DictRuns dict runs) code = code < dict_codes dict

-- the codes stand in runs
abbrev pub IsInRuns : SegmentBody → Type 0
IsInRuns (ValuePacked scale width words) = ⊥
IsInRuns (ValueRuns scale runs) = Unit {0}
IsInRuns (DictPacked dict width words) = ⊥
IsInRuns (DictRuns dict runs) = Unit {0}

-- what a segment costs in words of 64 bits: two for a scale, or the entries; and the packed words, or two a run
abbrev pub words_in : SegmentBody → ℕ
words_in (ValuePacked scale width words) = 2 + length words
words_in (ValueRuns scale runs) = 2 + 2 * length runs.ends
words_in (DictPacked dict width words) = dict_words dict + length words
words_in (DictRuns dict runs) = dict_words dict + 2 * length runs.ends

abbrev pub encoding_of : SegmentBody → Encoding
encoding_of (ValuePacked scale width words) = encoding.ValuePacked
encoding_of (ValueRuns scale runs) = encoding.ValueRuns
encoding_of (DictPacked dict width words) = encoding.DictPacked
encoding_of (DictRuns dict runs) = encoding.DictRuns

-- the order in which encodings of equally few words are preferred
abbrev pub rank_of : SegmentBody → ℕ
rank_of (ValuePacked scale width words) = 0
rank_of (ValueRuns scale runs) = 1
rank_of (DictPacked dict width words) = 2
rank_of (DictRuns dict runs) = 3

-- no scale keeps the cells: their codes would be no words, or there is a text among them
abbrev pub HasNoScale : List Value → Type 0
HasNoScale cells = (HasNoText cells × IsScaling (map number_of cells) None) ⊎ HasText cells

-- how cells become codes: by a scale, which numbers alone have, and not where a code would be no word; or by a dictionary
pub record Codings (cells : List Value) : Type 0 where
  pub scale : Option Scale
  pub scaling : (HasNoText cells × IsScaling (map number_of cells) scale) ⊎ (HasText cells × (scale ≡ None))
  pub dict : Dict
  pub of_cells : IsDictFor cells dict
  pub codes : List ℕ
  pub coded : AreDictCodes dict cells codes

-- the body keeps the cells, in one of the ways that there are
abbrev pub Keeps : (cells : List Value) → Codings cells → SegmentBody → Type 0
Keeps cells by (ValuePacked scale width words) = (by.scale ≡ Some scale) × ArePacked (map (code_of scale) (map number_of cells)) width words
Keeps cells by (ValueRuns scale runs) = (by.scale ≡ Some scale) × AreRunsOf (map (code_of scale) (map number_of cells)) runs.codes runs.ends
Keeps cells by (DictPacked dict width words) = (by.dict ≡ dict) × ArePacked by.codes width words
Keeps cells by (DictRuns dict runs) = (by.dict ≡ dict) × AreRunsOf by.codes runs.codes runs.ends

-- one body is taken before another: it costs fewer words, or as many and is the same or stands earlier in the order
abbrev pub IsBefore : SegmentBody → SegmentBody → Type 0
IsBefore body other =
    (words_in body < words_in other) ⊎ ((words_in body ≡ words_in other) × (rank_of body ≤ rank_of other))

-- the body keeps the cells in the way of fewest words, the first of such ways in the order
pub record IsBest (cells : List Value) (body : SegmentBody) : Type 0 where
  pub by : Codings cells
  pub kept : Keeps cells by body
  pub fewest : (other : SegmentBody) → Keeps cells by other → IsBefore body other
