-- Rows that come by columns.
use Rattle.std.proofs.Common.{◌≡◌, ℕ, ℤ, ◌+◌, ◌-◌, ◌<◌, ◌≤◌, inl, inr, ◌⊎◌, List, [], ◌∷◌, ◌++◌, map, take, drop, get_or, length, replicate, Option, Some, None, refl, sym, ap, subst, ◌∙◌, arith}
use Rattle.std.specs.Prelude.{min}
use Rattle.std.specs.List.{All, slice_get}
use Rattle.std.specs.Option.{option_map}
use Rattle.std.specs.declared.alloc.Global.{Global}
use Rattle.std.specs.declared.vec.Vec.{Vec}
use Rattle.std.proofs.lemmas.List.{append-nil, map-append, take-append-drop, take-map, drop-map, drop-drop, take_more, length-map, length-take, length-drop, length-replicate, get_or-map, get_or-drop, get_or-replicate, get_or_default, same_lists}
use Rattle.std.proofs.lemmas.List.Elements.{All-map, All-nil, All-take, All-drop}
use Rattle.std.proofs.lemmas.List.FromFn.{fill_by_all}
use Rattle.std.proofs.lemmas.Option.{slice_get-map, slice_get-get_or, slice_get_cases, slice_get_within, get_or_from_slice_get}
use Rattle.cs_types.specs.declared.Key.{Key}
use Rattle.cs_types.specs.declared.Schema.{Schema}
use Rattle.cs_types.specs.declared.Value.{Value}
use Rattle.cs_types.specs.declared.Value.TheVariants.{Null}
use Rattle.cs_types.specs.Rows.{cell_at, key_in, number_cell}
use Rattle.cs_types.specs.Schemas.{IsSchema, IsRowOf}
use Rattle.cs_types.proofs.PaddedLemmas.{padded_itself}
use Rattle.cs_model.specs.Answers.{edits_of}
use Rattle.cs_model.specs.Changes.{Edit}
use Rattle.batch_compute.specs.Columns.{AreColumnsOf}
use Rattle.row_group.specs.Rows.{PackedRow, padded_row}
use Rattle.row_group.specs.Groups.{Group}
use Rattle.row_group.specs.Packings.{numbered, source_row, source_rows}
use Rattle.row_group.proofs.ShownLemmas.{cell_at-get_or, map-map}
use Rattle.group_book.specs.Commits.{Sizes, inserted_by}
use Rattle.group_view.specs.declared.claim.Parcel.{Parcel}
use Rattle.group_view.specs.Parcels.{IsParcelFor}
use Rattle.tuple_mover.specs.Inserts.{rows_given, direct_row, AreRowsOf, FitsIn, IsDirectOf}
use Rattle.tuple_mover.proofs.InsertLemmas.{given-append}
use Rattle.tuple_mover.proofs.ParcelLemmas.{rest_parcel, group_more, parcel_step}

abbrev Columns : Type 0
Columns = List (Vec (Option ℤ) Global)

-- ---- a place of all columns is a row

abbrev pub shown : Columns → ℕ → List Value
shown columns place = map (λ (cells : List Value). cell_at cells place) (numbered columns)

shown-cell : (columns : Columns) (place c : ℕ) (column : Vec (Option ℤ) Global) → slice_get columns c ≡ Some column → slice_get (shown columns place) c ≡ Some (cell_at (map number_cell column.items) place)
shown-cell columns place c column found =
    slice_get-map (λ (cells : List Value). cell_at cells place) (numbered columns) c
    ∙ ap (option_map (λ (cells : List Value). cell_at cells place))
    (slice_get-map (λ (column : Vec (Option ℤ) Global). map number_cell column.items) columns c ∙ ap (option_map (λ (column : Vec (Option ℤ) Global). map number_cell column.items)) found)

module _ (width : ℕ) (rows : List (List Value)) (columns : Columns) (are : AreColumnsOf width rows columns) where
  shown-many : (place : ℕ) → length (shown columns place) ≡ width
  shown-many place =
      length-map (numbered columns) (λ (cells : List Value). cell_at cells place)
      ∙ length-map columns (λ (column : Vec (Option ℤ) Global). map number_cell column.items) ∙ are.many

  pub row-shown : (place : ℕ) (d : List Value) → place < length rows → get_or rows place d ≡ shown columns place
  row-shown place d within = same_lists row (shown columns place) (wide ∙ sym (shown-many place)) (λ c e l. cell c e l (slice_get_cases columns c).1)
    where
      row : List Value
      row = get_or rows place d

      wide : length row ≡ width
      wide = are.wide place d within

      cell : (c : ℕ) (e : Value) → c < length row
          → (((x : Vec (Option ℤ) Global) × (c < length columns) × (slice_get columns c ≡ Some x) × (get_or columns c x ≡ x)) ⊎ ((length columns ≤ c) × (slice_get columns c ≡ None)))
          → get_or row c e ≡ get_or (shown columns place) c e
      cell c e l (inl (column, there, found, at)) =
          get_or_default row c e Null l ∙ sym (cell_at-get_or row c) ∙ sym (get_or-map (λ (row : List Value). cell_at row c) rows place d Null within)
          ∙ ap (λ (cells : List Value). get_or cells place Null) (are.cells c column found) ∙ sym (cell_at-get_or (map number_cell column.items) place)
          ∙ sym (get_or_from_slice_get (shown columns place) c (cell_at (map number_cell column.items) place) e (shown-cell columns place c column found))
      cell c e l (inr (past, none)) = absurd (omega (arith, l, wide, are.many, past))

  -- each column has a cell of each row
  pub columns-even : All (λ (column : Vec (Option ℤ) Global). length column.items ≡ length rows) columns
  columns-even c d l =
      let column = get_or columns c d in
      sym (length-map column.items number_cell) ∙ sym (ap length (are.cells c column (slice_get-get_or columns c d l))) ∙ length-map rows (λ (row : List Value). cell_at row c)

-- the columns say which rows they are of
pub same-rows : (width : ℕ) (rows rows' : List (List Value)) (columns : Columns) → 0 < width → AreColumnsOf width rows columns → AreColumnsOf width rows' columns → rows ≡ rows'
same-rows width rows rows' columns some are are' =
    same_lists rows rows' (first (slice_get_cases columns 0).1)
    (λ k d l. row-shown width rows columns are k d l ∙ sym (row-shown width rows' columns are' k d (omega (arith, l, first (slice_get_cases columns 0).1))))
  where
    first : (((x : Vec (Option ℤ) Global) × (0 < length columns) × (slice_get columns 0 ≡ Some x) × (get_or columns 0 x ≡ x)) ⊎ ((length columns ≤ 0) × (slice_get columns 0 ≡ None)))
        → length rows ≡ length rows'
    first (inl (column, there, found, at)) = sym (columns-even width rows columns are 0 column there) ∙ columns-even width rows' columns are' 0 column there
    first (inr (past, none)) = absurd (omega (arith, some, are.many, past))

-- ---- a part of the columns is one of the rows

module _ (schema : Schema) (keys : List Key) (columns parts : Columns) (rows : List (List Value)) (from count : ℕ) (are : AreRowsOf schema keys columns rows)
    (cut : map (λ (part : Vec (Option ℤ) Global). part.items) parts ≡ map (λ (column : Vec (Option ℤ) Global). take count (drop from column.items)) columns) where
  as_many : length parts ≡ length columns
  as_many =
      sym (length-map parts (λ (part : Vec (Option ℤ) Global). part.items)) ∙ ap length cut
      ∙ length-map columns (λ (column : Vec (Option ℤ) Global). take count (drop from column.items))

  part-cells : (c : ℕ) (part : Vec (Option ℤ) Global) → slice_get parts c ≡ Some part
      → (((x : Vec (Option ℤ) Global) × (c < length columns) × (slice_get columns c ≡ Some x) × (get_or columns c x ≡ x)) ⊎ ((length columns ≤ c) × (slice_get columns c ≡ None)))
      → map (λ (row : List Value). cell_at row c) (take count (drop from rows)) ≡ map number_cell part.items
  part-cells c part found (inl (column, there, whole, at)) =
      let items_of = λ (part : Vec (Option ℤ) Global). part.items in
      let cut_of = λ (column : Vec (Option ℤ) Global). take count (drop from column.items) in
      let cell = λ (row : List Value). cell_at row c in
      let items : part.items ≡ take count (drop from column.items) =
      sym (get_or_from_slice_get (map items_of parts) c part.items [] (slice_get-map items_of parts c ∙ ap (option_map items_of) found))
      ∙ ap (λ (all : List (List (Option ℤ))). get_or all c []) cut
      ∙ get_or_from_slice_get (map cut_of columns) c (cut_of column) [] (slice_get-map cut_of columns c ∙ ap (option_map cut_of) whole) in
      sym (take-map cell count (drop from rows)) ∙ ap (take count) (sym (drop-map cell from rows))
      ∙ ap (λ (cells : List Value). take count (drop from cells)) (are.held.cells c column whole)
      ∙ ap (take count) (drop-map number_cell from column.items) ∙ take-map number_cell count (drop from column.items) ∙ ap (map number_cell) (sym items)
  part-cells c part found (inr (past, none)) = absurd (omega (arith, slice_get_within parts c part found, as_many, past))

  pub part-rows : AreRowsOf schema (take count (drop from keys)) parts (take count (drop from rows))
  part-rows = record {
    fit = All-take (IsRowOf schema) count (drop from rows) (All-drop (IsRowOf schema) from rows are.fit);
    held = record {
      many = as_many ∙ are.held.many;
      wide =
          let is_wide = λ (row : List Value). length row ≡ length schema.columns in
          All-take is_wide count (drop from rows) (All-drop is_wide from rows are.held.wide);
      cells = λ c part found. part-cells c part found (slice_get_cases columns c).1;
    };
    keyed = ap (λ (keys : List Key). take count (drop from keys)) are.keyed ∙ ap (take count) (drop-map (key_in schema.key) from rows) ∙ take-map (key_in schema.key) count (drop from rows);
  }

-- ---- the edits of rows

pub rows-given : (schema : Schema) (rows : List (List Value)) → rows_given (edits_of schema rows) ≡ map (λ (row : List Value). (key_in schema.key row, row)) rows
rows-given schema [] = refl
rows-given schema (row ∷ rows) = ap (λ (more : List (Key × List Value)). (key_in schema.key row, row) ∷ more) (rows-given schema rows)

keys-inserted : (schema : Schema) (rows : List (List Value)) → inserted_by (edits_of schema rows) ≡ map (key_in schema.key) rows
keys-inserted schema [] = refl
keys-inserted schema (row ∷ rows) = ap (λ (keys : List Key). key_in schema.key row ∷ keys) (keys-inserted schema rows)

pub count-inserted : (schema : Schema) (rows : List (List Value)) → length (inserted_by (edits_of schema rows)) ≡ length rows
count-inserted schema rows = ap length (keys-inserted schema rows) ∙ length-map rows (key_in schema.key)

pub rows-fit : (schema : Schema) (rows : List (List Value)) → All (IsRowOf schema) rows → All (FitsIn schema) (edits_of schema rows)
rows-fit schema rows fit =
    All-map (FitsIn schema) (λ (row : List Value). (key_in schema.key row, Some row)) rows (λ k d l. record { row = fit k d l; under = refl })

edits-split : (schema : Schema) (count : ℕ) (rows : List (List Value)) → edits_of schema (take count rows) ++ edits_of schema (drop count rows) ≡ edits_of schema rows
edits-split schema count rows =
    sym (map-append (λ (row : List Value). (key_in schema.key row, Some row)) (take count rows) (drop count rows)) ∙ ap (edits_of schema) (take-append-drop count rows)

given-next : (schema : Schema) (rows : List (List Value)) (n : ℕ) → n < length rows
    → rows_given (edits_of schema (take n rows)) ++ (key_in schema.key (get_or rows n []), get_or rows n []) ∷ [] ≡ rows_given (edits_of schema (take (n + 1) rows))
given-next schema rows n there =
    sym (given-append (edits_of schema (take n rows)) (edits_of schema (get_or rows n [] ∷ [])))
    ∙ ap rows_given (sym (map-append (λ (row : List Value). (key_in schema.key row, Some row)) (take n rows) (get_or rows n [] ∷ [])))
    ∙ ap (λ (some : List (List Value)). rows_given (edits_of schema some)) (sym (take_more rows n [] there))

-- one row more, by its key
pub entry-more : (schema : Schema) (keys : List Key) (columns : Columns) (rows : List (List Value)) (from n place : ℕ) (d : Key) (entries : List (Key × List Value)) (row : List Value)
    → AreRowsOf schema keys columns rows → from + n ≡ place → place < length keys → entries ≡ rows_given (edits_of schema (take n (drop from rows))) → row ≡ shown columns place
    → entries ++ (get_or keys place d, row) ∷ [] ≡ rows_given (edits_of schema (take (n + 1) (drop from rows)))
entry-more schema keys columns rows from n place d entries row are at within so_far is =
    let left = drop from rows in
    let some : length keys ≡ length rows = ap length are.keyed ∙ length-map rows (key_in schema.key) in
    let there : n < length left = omega (arith, length-drop from rows, at, within, some) in
    let inside : place < length rows = omega (arith, within, some) in
    let next : get_or left n [] ≡ get_or rows place [] = get_or-drop from rows n [] ∙ ap (λ k. get_or rows k []) at in
    let cells : row ≡ get_or left n [] = is ∙ sym (row-shown (length schema.columns) rows columns are.held place [] inside) ∙ sym next in
    let key : get_or keys place d ≡ key_in schema.key (get_or left n []) =
    ap (λ (keys : List Key). get_or keys place d) are.keyed ∙ get_or-map (key_in schema.key) rows place [] d inside ∙ ap (key_in schema.key) (sym next) in
    let entry : ◌≡◌ {A = Key × List Value} (get_or keys place d, row) (key_in schema.key (get_or left n []), get_or left n []) = (λ i. (key i, cells i)) in
    ap (λ (given : List (Key × List Value)). given ++ (get_or keys place d, row) ∷ []) so_far
    ∙ ap (λ (entry : Key × List Value). rows_given (edits_of schema (take n left)) ++ entry ∷ []) entry ∙ given-next schema left n there

-- ---- the group of columns

pub rows-packed : (schema : Schema) (rows : List (List Value)) (columns : Columns) (count : ℕ) → AreColumnsOf (length schema.columns) rows columns → length rows ≡ count
    → source_rows (numbered columns) (replicate count 0) ≡ map (direct_row (length schema.columns)) (rows_given (edits_of schema rows))
rows-packed schema rows columns count are many =
    let many_begins : length begins ≡ count = length-replicate {A = ℕ} count 0 in
    sym (ap (map (direct_row width)) (rows-given schema rows) ∙ map-map (λ (row : List Value). (key_in schema.key row, row)) (direct_row width) packed (λ row. refl) rows
    ∙ fill_by_all (source_row (numbered columns) begins) (map packed rows) (length begins) (record { cells = []; begin = 0 }) (length-map rows packed ∙ many ∙ sym many_begins)
    (λ k l.
    let m : k < count = omega (arith, l, many_begins) in
    let within : k < length rows = omega (arith, m, many) in
    get_or-map packed rows k [] (record { cells = []; begin = 0 }) within ∙ (λ i. record { cells = cells k within i; begin = begin k m i })))
  where
    width : ℕ
    width = length schema.columns

    begins : List ℕ
    begins = replicate count 0

    packed : List Value → PackedRow
    packed row = padded_row width row 0

    cells : (k : ℕ) → k < length rows → (packed (get_or rows k [])).cells ≡ (source_row (numbered columns) begins k).cells
    cells k within = sym (padded_itself width (get_or rows k []) (are.wide k [] within)) ∙ row-shown width rows columns are k [] within

    begin : (k : ℕ) → k < count → 0 ≡ get_or begins k 0
    begin k l = sym (get_or-replicate count k 0 0 l)

-- ---- the parcel

module _ (schema : Schema) (is_schema : IsSchema schema) (sizes : Sizes) (some_group : 1 ≤ sizes.group_rows) (some_direct : 1 ≤ sizes.direct_rows) where
  -- all rows are one group
  pub whole-parcel : (rows : List (List Value)) (group : Group) → All (IsRowOf schema) rows → IsDirectOf schema (edits_of schema rows) group → sizes.direct_rows ≤ length rows → length rows ≤ sizes.group_rows
      → IsParcelFor schema sizes (edits_of schema rows) (record { groups = group ∷ []; rest = [] })
  whole-parcel rows group fit made most few =
      let own = edits_of schema rows in
      let count = count-inserted schema rows in
      let all : length (inserted_by (own ++ [])) ≡ length rows = ap (λ (edits : List Edit). length (inserted_by edits)) (append-nil own) ∙ count in
      subst (λ (edits : List Edit). IsParcelFor schema sizes edits (record { groups = group ∷ []; rest = [] })) (append-nil own)
      (group_more schema is_schema sizes some_group some_direct own [] group (record { groups = []; rest = [] }) (rows-fit schema rows fit) made
      (omega (arith, most, all)) (omega (arith, few, all, count)) (rest_parcel schema sizes [] (All-nil (FitsIn schema)) (omega (arith, some_direct))))

  -- one group further
  pub part-more : (keys : List Key) (rows : List (List Value)) (from count : ℕ) (groups : List Group) (group : Group) → length keys ≡ length rows → All (IsRowOf schema) rows
      → count ≡ min sizes.group_rows (length keys - from) → sizes.direct_rows ≤ length keys - from → IsDirectOf schema (edits_of schema (take count (drop from rows))) group
      → ((tail : Parcel) → IsParcelFor schema sizes (edits_of schema (drop from rows)) tail → IsParcelFor schema sizes (edits_of schema rows) (record { groups = groups ++ tail.groups; rest = tail.rest }))
      → (tail : Parcel) → IsParcelFor schema sizes (edits_of schema (drop (from + count) rows)) tail
      → IsParcelFor schema sizes (edits_of schema rows) (record { groups = (groups ++ group ∷ []) ++ tail.groups; rest = tail.rest })
  part-more keys rows from count groups group many fit is most made so_far tail rest =
      let left = drop from rows in
      let front = take count left in
      let back = drop count left in
      let long : length left ≡ length keys - from = omega (arith, length-drop from rows, many) in
      let lefts = count-inserted schema left in
      let fronts = count-inserted schema front in
      parcel_step schema is_schema sizes some_group some_direct (edits_of schema rows) (edits_of schema left) (edits_of schema front) (edits_of schema back) groups group (edits-split schema count left)
      (rows-fit schema front (All-take (IsRowOf schema) count left (All-drop (IsRowOf schema) from rows fit))) made
      (omega (arith, most, lefts, long)) (omega (arith, lefts, fronts, length-take count left, long, is)) so_far tail
      (subst (λ (some : List (List Value)). IsParcelFor schema sizes (edits_of schema some) tail) (sym (drop-drop count from rows)) rest)
