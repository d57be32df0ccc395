-- The rows of edits, and the group that is made of them.
use Rattle.std.proofs.Common.{◌≡◌, ℕ, suc, ◌+◌, ◌<◌, List, [], ◌∷◌, ◌++◌, map, take, get_or, length, Some, None, refl, sym, ap, subst, ◌∙◌, arith}
use Rattle.std.specs.Option.{option_map, option_to_list}
use Rattle.std.specs.List.{All, AllByRecursion, filter}
use Rattle.std.specs.List.Sorted.{IsPermutation}
use Rattle.std.specs.Prelude.{is_some}
use Rattle.std.proofs.lemmas.List.{map-append, take_more, length-append, get_or_append_left, get_or-append-add}
use Rattle.std.proofs.lemmas.List.Concat.{flat_map-append}
use Rattle.std.proofs.lemmas.List.Elements.{All-map, All-from_recursion, recursion_from_All, All-nil, All-cons, All-weaker, filter-append}
use Rattle.std.proofs.lemmas.List.Sorted.{IsPermutation-map, All-permutation}
use Rattle.cs_types.specs.declared.Key.{Key}
use Rattle.cs_types.specs.declared.Schema.{Schema}
use Rattle.cs_types.specs.declared.Value.{Value}
use Rattle.cs_types.specs.Rows.{key_in, padded}
use Rattle.cs_types.specs.Schemas.{IsSchema, IsRowOf}
use Rattle.cs_types.proofs.PaddedLemmas.{padded_again, padded_fits, padded_key}
use Rattle.cs_model.specs.Changes.{Edit}
use Rattle.cs_model.specs.Held.{IsRowAt}
use Rattle.edit_laws.specs.Edits.{edit_of, edits_of}
use Rattle.write_set.specs.declared.write.Write.{Write}
use Rattle.row_group.specs.Rows.{PackedRow, begun_above}
use Rattle.row_group.specs.Groups.{Group}
use Rattle.row_group.proofs.ShownLemmas.{map-map}
use Rattle.group_book.specs.Commits.{inserted_by}
use Rattle.group_view.specs.Parcels.{keys_in, HasOneBegin, packed_keys, IsGiven}
use Rattle.tuple_mover.specs.Inserts.{rows_given, FitsIn, direct_row, IsDirectOf}

-- ---- one write more

pub given-append : (xs ys : List Edit) → rows_given (xs ++ ys) ≡ rows_given xs ++ rows_given ys
given-append xs ys = flat_map-append (λ (edit : Edit). option_to_list (option_map (λ (row : List Value). (edit.0, row)) edit.1)) xs ys

pub given-more : (writes : List Write) (i : ℕ) (d : Write) → i < length writes → rows_given (edits_of (take (i + 1) writes)) ≡ rows_given (edits_of (take i writes)) ++ rows_given (edits_of (get_or writes i d ∷ []))
given-more writes i d there =
    ap (λ (some : List Write). rows_given (edits_of some)) (take_more writes i d there)
    ∙ ap rows_given (map-append edit_of (take i writes) (get_or writes i d ∷ []))
    ∙ given-append (edits_of (take i writes)) (edits_of (get_or writes i d ∷ []))

pub inserted-append : (xs ys : List Edit) → inserted_by (xs ++ ys) ≡ inserted_by xs ++ inserted_by ys
inserted-append xs ys =
    ap (map (λ (edit : Edit). edit.0)) (filter-append (λ (edit : Edit). is_some edit.1) xs ys)
    ∙ map-append (λ (edit : Edit). edit.0) (filter (λ (edit : Edit). is_some edit.1) xs) (filter (λ (edit : Edit). is_some edit.1) ys)

pub inserted-more : (writes : List Write) (i : ℕ) (d : Write) → i < length writes → inserted_by (edits_of (take (i + 1) writes)) ≡ inserted_by (edits_of (take i writes)) ++ inserted_by (edits_of (get_or writes i d ∷ []))
inserted-more writes i d there =
    ap (λ (some : List Write). inserted_by (edits_of some)) (take_more writes i d there)
    ∙ ap inserted_by (map-append edit_of (take i writes) (get_or writes i d ∷ []))
    ∙ inserted-append (edits_of (take i writes)) (edits_of (get_or writes i d ∷ []))

-- ---- the rows of edits

-- a row of the table under its key
abbrev pub IsEntryOf : Schema → Key × List Value → Type 0
IsEntryOf schema entry = IsRowAt schema entry.0 entry.1

pub given-keys : (own : List Edit) → keys_in (rows_given own) ≡ inserted_by own
given-keys [] = refl
given-keys ((key, None) ∷ own) = given-keys own
given-keys ((key, Some row) ∷ own) = ap (λ (keys : List Key). key ∷ keys) (given-keys own)

pub given-fit : (schema : Schema) (own : List Edit) → All (FitsIn schema) own → All (IsEntryOf schema) (rows_given own)
given-fit schema own fit = All-from_recursion (IsEntryOf schema) (rows_given own) (each own (recursion_from_All (FitsIn schema) own fit))
  where
    each : (own : List Edit) → AllByRecursion (FitsIn schema) own → AllByRecursion (IsEntryOf schema) (rows_given own)
    each [] fit = tt
    each ((key, None) ∷ own) fit = each own fit.1
    each ((key, Some row) ∷ own) fit = (fit.0, each own fit.1)

-- no begin is below the floor 0
pub rows-raised : (width : ℕ) (entries : List (Key × List Value)) → map (begun_above 0) (map (direct_row width) entries) ≡ map (direct_row width) entries
rows-raised width entries = map-map (direct_row width) (begun_above 0) (direct_row width) (λ entry. refl) entries

-- the rows of the group that is made fit the schema
pub direct-fit : (schema : Schema) (own : List Edit) → All (FitsIn schema) own → All (λ (row : PackedRow). IsRowOf schema row.cells) (map (direct_row (length schema.columns)) (rows_given own))
direct-fit schema own fit =
    All-map (λ (row : PackedRow). IsRowOf schema row.cells) (direct_row (length schema.columns)) (rows_given own)
    (All-weaker (IsEntryOf schema) (λ (entry : Key × List Value). IsRowOf schema (padded (length schema.columns) entry.1)) (λ entry is. padded_fits schema entry.1 is.row) (rows_given own) (given-fit schema own fit))

-- ---- which edit gives a row

given-there : (width : ℕ) (edit : Edit) (own : List Edit) (entry : Key × List Value) → IsGiven width own entry → IsGiven width (edit ∷ own) entry
given-there width edit own entry (k, other, within, at, is) = (suc k, other, omega (arith, within), at, is)

pub given-itself : (width : ℕ) (own : List Edit) → All (IsGiven width own) (rows_given own)
given-itself width [] = All-nil (IsGiven width [])
given-itself width ((key, None) ∷ own) = All-weaker (IsGiven width own) (IsGiven width ((key, None) ∷ own)) (given-there width (key, None) own) (rows_given own) (given-itself width own)
given-itself width ((key, Some row) ∷ own) =
    let first : IsGiven width ((key, Some row) ∷ own) (key, row) = (0, (key, Some row), omega arith, refl, (refl, refl)) in
    All-cons (IsGiven width ((key, Some row) ∷ own)) (key, row) (rows_given own) first
    (All-weaker (IsGiven width own) (IsGiven width ((key, Some row) ∷ own)) (given-there width (key, Some row) own) (rows_given own) (given-itself width own))

pub given-left : (width : ℕ) (front back : List Edit) (entry : Key × List Value) → IsGiven width front entry → IsGiven width (front ++ back) entry
given-left width front back entry (k, edit, within, at, is) =
    (k, edit, omega (arith, within, length-append front back), get_or_append_left front back edit k within ∙ at, is)

pub given-right : (width : ℕ) (front back : List Edit) (entry : Key × List Value) → IsGiven width back entry → IsGiven width (front ++ back) entry
given-right width front back entry (k, edit, within, at, is) =
    (length front + k, edit, omega (arith, within, length-append front back), get_or-append-add front back k edit ∙ at, is)

-- ---- a direct group

module _ (schema : Schema) (is_schema : IsSchema schema) (own : List Edit) (fit : All (FitsIn schema) own) (group : Group) (made : IsDirectOf schema own group) where
  abbrev width : ℕ
  width = length schema.columns

  keys_made : (entries : List (Key × List Value)) → AllByRecursion (IsEntryOf schema) entries → map (λ (row : PackedRow). key_in schema.key row.cells) (map (direct_row width) entries) ≡ keys_in entries
  keys_made [] are = refl
  keys_made (entry ∷ entries) are =
      ap (λ (key : Key). key ∷ map (λ (row : PackedRow). key_in schema.key row.cells) (map (direct_row width) entries))
      (padded_key width entry.1 schema.key is_schema.key_there ∙ are.0.under)
      ∙ ap (λ (keys : List Key). entry.0 ∷ keys) (keys_made entries are.1)

  pub direct-keys : IsPermutation (inserted_by own) (packed_keys group)
  direct-keys =
      subst (λ (column : ℕ). IsPermutation (inserted_by own) (map (λ (row : PackedRow). key_in column row.cells) group.rows)) (sym made.key)
      (subst (λ (keys : List Key). IsPermutation keys (map (λ (row : PackedRow). key_in schema.key row.cells) group.rows))
      (keys_made (rows_given own) (recursion_from_All (IsEntryOf schema) (rows_given own) (given-fit schema own fit)) ∙ given-keys own)
      (IsPermutation-map (λ (row : PackedRow). key_in schema.key row.cells) (map (direct_row width) (rows_given own)) group.rows made.rows))

  pub direct-begun : HasOneBegin group
  direct-begun =
      All-permutation (λ (row : PackedRow). row.begin ≡ group.base) (map (direct_row width) (rows_given own)) group.rows made.rows
      (All-map (λ (row : PackedRow). row.begin ≡ group.base) (direct_row width) (rows_given own) (λ k d l. sym made.base))

  given-padded : (entry : Key × List Value) → IsGiven width own entry → IsEntryOf schema entry → IsGiven width own (key_in group.key (padded width entry.1), padded width entry.1)
  given-padded entry (k, edit, within, at, is) fits =
      let key : entry.0 ≡ key_in group.key (padded width entry.1) =
      sym fits.under ∙ sym (padded_key width entry.1 schema.key is_schema.key_there)
      ∙ ap (λ (column : ℕ). key_in column (padded width entry.1)) (sym made.key) in
      (k, edit, within, at, (is.0 ∙ key, is.1 ∙ ap (λ (row : List Value). Some row) (sym (padded_again width entry.1))))

  abbrev entry_of : PackedRow → Key × List Value
  entry_of row = (key_in group.key row.cells, row.cells)

  pub direct-given : All (IsGiven width own) (map (λ (row : PackedRow). (key_in group.key row.cells, row.cells)) group.rows)
  direct-given =
      let rows = rows_given own in
      All-permutation (IsGiven width own) (map entry_of (map (direct_row width) rows)) (map entry_of group.rows)
      (IsPermutation-map entry_of (map (direct_row width) rows) group.rows made.rows)
      (All-map (IsGiven width own) entry_of (map (direct_row width) rows)
      (All-map (λ (row : PackedRow). IsGiven width own (entry_of row)) (direct_row width) rows
      (λ k d l. given-padded (get_or rows k d) (given-itself width own k d l) (given-fit schema own fit k d l))))
