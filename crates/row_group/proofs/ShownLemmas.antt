-- The rows that the fields of a packed group show.
use Rattle.std.proofs.Common.{◌≡◌, ◌≢◌, ℕ, ◌<◌, ◌≤◌, zero, suc, List, [], ◌∷◌, length, map, get_or, refl, sym, ◌∙◌, ap, subst, arith, Bool, true, false, cond, eqb, eq-eqb, Option, Some, None}
use Rattle.std.specs.List.{All, AllPairs, range_with_len, slice_get}
use Rattle.std.specs.Option.{unwrap_or}
use Rattle.std.proofs.lemmas.List.{get_or-map, length-map}
use Rattle.std.proofs.lemmas.List.FromFn.{length-map-range_with_len, get_or-map-range_with_len}
use Rattle.std.proofs.lemmas.Option.{unwrap_or-slice_get}
use Rattle.std.proofs.lemmas.Bool.{ne_eqb, eqb-true}
use Rattle.cs_types.specs.declared.Value.{Value}
use Rattle.cs_types.specs.declared.Value.TheVariants.{Null}
use Rattle.cs_types.specs.declared.Key.{Key}
use Rattle.cs_types.specs.Rows.{cell_at, key_in}
use Rattle.column_segment.specs.declared.segment.Segment.{Segment}
use Rattle.column_segment.specs.Bodies.{cell_in}
use Rattle.row_group.specs.Rows.{PackedRow, column_of}
use Rattle.row_group.specs.Orders.{IsOrderOf}
use Rattle.cs_types.specs.Keys.{key_cmp}
use Rattle.row_group.specs.Groups.{Group, begin_beside, begun_at, keys_of, key_of_cell, row_at}
use Rattle.row_group.specs.Fields.{cells_in, shown_row, shown_rows, stamp_in, stamp_of, begin_in, AreFields, AreStamps}

-- a cell is the one at its place, or NULL past the end
pub cell_at-get_or : (cells : List Value) (c : ℕ) → cell_at cells c ≡ get_or cells c Null
cell_at-get_or cells c = unwrap_or-slice_get cells c Null

pub cell_at-map : {X : Type 0} (f : X → Value) (xs : List X) (c : ℕ) (d : X) → c < length xs → cell_at (map f xs) c ≡ f (get_or xs c d)
cell_at-map f xs c d l = cell_at-get_or (map f xs) c ∙ get_or-map f xs c d Null l

pub length-shown : (segments : List Segment) (late : List (ℕ × ℕ)) (base count : ℕ) → length (shown_rows segments late base count) ≡ count
length-shown segments late base count = length-map-range_with_len (shown_row segments late base) 0 count

pub row-shown : (segments : List Segment) (late : List (ℕ × ℕ)) (base count position : ℕ) (d : PackedRow) → position < count → get_or (shown_rows segments late base count) position d ≡ shown_row segments late base position
row-shown segments late base count position d l = get_or-map-range_with_len (shown_row segments late base) 0 count position position d l (omega arith)

pub map-map : {X Y Z : Type 0} (f : X → Y) (g : Y → Z) (h : X → Z) → ((x : X) → g (f x) ≡ h x) → (xs : List X) → map g (map f xs) ≡ map h xs
map-map f g h same [] = refl
map-map f g h same (x ∷ xs) = ap (λ y. y ∷ map g (map f xs)) (same x) ∙ ap (λ ys. h x ∷ ys) (map-map f g h same xs)

-- the cells of a column are those of its segment
pub column-shown : (segments : List Segment) (late : List (ℕ × ℕ)) (base count column : ℕ) (segment : Segment) → column < length segments → segment.length ≡ count → segment ≡ get_or segments column segment → column_of (shown_rows segments late base count) column ≡ cells_in segment
column-shown segments late base count column segment l same is =
    map-map (shown_row segments late base) (λ row. cell_at row.cells column) (λ i. cell_in segment.body i)
    (λ i. cell_at-map (λ s. cell_in s.body i) segments column segment l ∙ ap (λ s. cell_in s.body i) (sym is)) (range_with_len 0 count)
    ∙ ap (λ n. map (λ i. cell_in segment.body i) (range_with_len 0 n)) (sym same)

pub stamp-none : (late : List (ℕ × ℕ)) (position : ℕ) → ((k : ℕ) (d : ℕ × ℕ) → k < length late → (get_or late k d).0 ≢ position) → stamp_in late position ≡ None
stamp-none [] position other = refl
stamp-none (entry ∷ late) position other =
    ap (λ b. cond b (Some entry.1) (stamp_in late position)) (ne_eqb entry.0 position (other 0 entry (omega arith)))
    ∙ stamp-none late position (λ k d l. other (suc k) d (omega arith))

rising-tail : (entry : ℕ × ℕ) (late : List (ℕ × ℕ)) → AllPairs (λ x y. x.0 < y.0) (entry ∷ late) → AllPairs (λ x y. x.0 < y.0) late
rising-tail entry late rising i j d l m = rising (suc i) (suc j) d (omega arith) (omega arith)

-- the entry of a position stands where the smaller positions end
pub stamp-found : (late : List (ℕ × ℕ)) (position place : ℕ) → AllPairs (λ x y. x.0 < y.0) late → ((k : ℕ) (d : ℕ × ℕ) → k < place → k < length late → (get_or late k d).0 < position) → ((k : ℕ) (d : ℕ × ℕ) → place ≤ k → k < length late → position ≤ (get_or late k d).0) → stamp_in late position ≡ stamp_of (slice_get late place) position
stamp-found [] position place rising before after = refl
stamp-found (entry ∷ late) position zero rising before after = go (eqb entry.0 position) refl
  where
    go : (b : Bool) → eqb entry.0 position ≡ b → cond (eqb entry.0 position) (Some entry.1) (stamp_in late position) ≡ cond (eqb entry.0 position) (Some entry.1) None
    go true e = ap (λ b. cond b (Some entry.1) (stamp_in late position)) e ∙ sym (ap (λ b. cond b (Some entry.1) None) e)
    go false e =
        ap (λ o. cond (eqb entry.0 position) (Some entry.1) o)
        (stamp-none late position (λ k d l same.
        let here : position ≤ entry.0 = after 0 entry (omega arith) (omega arith) in
        let up : entry.0 < (get_or late k d).0 = rising 0 (suc k) d (omega arith) (omega arith) in
        absurd (omega (arith, here, up, same))))
stamp-found (entry ∷ late) position (suc place) rising before after =
    let less : entry.0 < position = before 0 entry (omega arith) (omega arith) in
    ap (λ b. cond b (Some entry.1) (stamp_in late position)) (ne_eqb entry.0 position (λ same. absurd (omega (arith, less, same))))
    ∙ stamp-found late position place (rising-tail entry late rising) (λ k d l m. before (suc k) d (omega arith) (omega arith)) (λ k d l m. after (suc k) d (omega arith) (omega arith))

-- a begin of its own is not the base
own-stamp : (late : List (ℕ × ℕ)) (count base position begin : ℕ) → All (λ entry. (entry.0 < count) × (entry.1 ≢ base)) late → stamp_in late position ≡ Some begin → begin ≢ base
own-stamp [] count base position begin own e same = cc
own-stamp (entry ∷ late) count base position begin own e same =
    go (eqb entry.0 position) refl (λ f. own-stamp late count base position begin (λ k d l. own (suc k) d (omega arith)) f same)
  where
    go : (b : Bool) → eqb entry.0 position ≡ b → (stamp_in late position ≡ Some begin → ⊥) → ⊥
    go true f rest =
        let is : Some entry.1 ≡ Some begin = sym (ap (λ b. cond b (Some entry.1) (stamp_in late position)) f) ∙ e in
        let inner : entry.1 ≡ begin = cc in
        (own 0 entry (omega arith)).1 (inner ∙ same)
    go false f rest = rest (sym (ap (λ b. cond b (Some entry.1) (stamp_in late position)) f) ∙ e)

pub late-shown : (late : List (ℕ × ℕ)) (count base position : ℕ) → All (λ entry. (entry.0 < count) × (entry.1 ≢ base)) late → stamp_in late position ≡ begin_beside base (begin_in late base position)
late-shown late count base position own = go (stamp_in late position) refl
  where
    go : (o : Option ℕ) → stamp_in late position ≡ o → o ≡ begin_beside base (unwrap_or o base)
    go None e = ap (λ b. cond b None (Some base)) (sym (eq-eqb base base refl))
    go (Some begin) e = ap (λ b. cond b None (Some begin)) (sym (ne_eqb begin base (own-stamp late count base position begin own e)))

-- the begin that stands beside the base, or the base, is the begin
pub beside-or : (base begin : ℕ) → unwrap_or (begin_beside base begin) base ≡ begin
beside-or base begin = go (eqb begin base) refl
  where
    go : (b : Bool) → eqb begin base ≡ b → unwrap_or (cond (eqb begin base) None (Some begin)) base ≡ begin
    go true e = ap (λ t. unwrap_or (cond t None (Some begin)) base) e ∙ sym (eqb-true begin base e)
    go false e = ap (λ t. unwrap_or (cond t None (Some begin)) base) e

-- where each begin is the base, none stands beside it
pub late-none : (late : List (ℕ × ℕ)) (count base : ℕ) → All (λ entry. (entry.0 < count) × (entry.1 ≢ base)) late → ((position : ℕ) → position < count → begin_in late base position ≡ base) → late ≡ []
late-none [] count base own same = refl
late-none (entry ∷ late) count base own same =
    let (l, other) = own 0 entry (omega arith) in
    absurd (other (ap (λ b. unwrap_or (cond b (Some entry.1) (stamp_in late entry.0)) base) (sym (eq-eqb entry.0 entry.0 refl)) ∙ same entry.0 l))

-- the keys are those of the cells, whatever the begins
keys-shown : (segments : List Segment) (late late' : List (ℕ × ℕ)) (key base base' count : ℕ) → keys_of key (shown_rows segments late base count) ≡ keys_of key (shown_rows segments late' base' count)
keys-shown segments late late' key base base' count =
    let f : ℕ → Key = λ i. key_in key (map (λ segment. cell_in segment.body i) segments) in
    map-map (shown_row segments late base) (λ row. key_in key row.cells) f (λ i. refl) (range_with_len 0 count)
    ∙ sym (map-map (shown_row segments late' base') (λ row. key_in key row.cells) f (λ i. refl) (range_with_len 0 count))

-- with no begin beside it, another base is the begin of every row
pub fields-rebased : (segments : List Segment) (key count base begin : ℕ) (late : List (ℕ × ℕ)) (places : List ℕ) → AreFields segments key count base late places → late ≡ [] → AreFields segments key count begin late places
fields-rebased segments key count base begin late places are none = record {
  counted = are.counted;
  kept = are.kept;
  rising = are.rising;
  own = λ k d l. absurd (omega (arith, ap length none));
  key_there = are.key_there;
  by_key = subst (λ keys. IsOrderOf key_cmp keys places) (keys-shown segments late late key base begin count) are.by_key;
}

pub rows-rebased : (segments : List Segment) (base begin count : ℕ) (late : List (ℕ × ℕ)) → late ≡ [] → shown_rows segments late begin count ≡ map (begun_at begin) (shown_rows segments late base count)
rows-rebased segments base begin count late none =
    subst (λ entries. shown_rows segments entries begin count ≡ map (begun_at begin) (shown_rows segments entries base count)) (sym none)
    (sym (map-map (shown_row segments [] base) (begun_at begin) (shown_row segments [] begin) (λ i. refl) (range_with_len 0 count)))

pub base-rows : (segments : List Segment) (late : List (ℕ × ℕ)) (base count : ℕ) → All (λ row. row.begin ≡ base) (shown_rows segments late base count) → (position : ℕ) → position < count → begin_in late base position ≡ base
base-rows segments late base count all position l =
    let d : PackedRow = record { cells = []; begin = 0 } in
    sym (ap (λ (row : PackedRow). row.begin) (row-shown segments late base count position d l)) ∙ all position d (omega (arith, length-shown segments late base count))

pub stamps-shown : (segments : List Segment) (late : List (ℕ × ℕ)) (base count : ℕ) → AllPairs (λ x y. x.0 < y.0) late → All (λ entry. (entry.0 < count) × (entry.1 ≢ base)) late → AreStamps (map (λ (row : PackedRow). row.begin) (shown_rows segments late base count)) base late
stamps-shown segments late base count rising own =
    let rows = shown_rows segments late base count in
    let as_many = length-map rows (λ (row : PackedRow). row.begin) ∙ length-shown segments late base count in
    record {
      rising = rising;
      own = λ k d l. let (m, other) = own k d l in (omega (arith, m, as_many), other);
      shown = λ position l.
          let d : PackedRow = record { cells = []; begin = 0 } in
          let m : position < count = omega (arith, l, as_many) in
          sym (get_or-map (λ (row : PackedRow). row.begin) rows position d 0 (omega (arith, m, length-shown segments late base count))
          ∙ ap (λ (row : PackedRow). row.begin) (row-shown segments late base count position d m));
    }

-- what the fields show as a group
abbrev pub group_of : List Segment → ℕ → ℕ → ℕ → List (ℕ × ℕ) → List ℕ → Group
group_of segments key count base late places =
    record { rows = shown_rows segments late base count; width = length segments; key = key; base = base; places = places }

pub shown_at : (segments : List Segment) (key count base : ℕ) (late : List (ℕ × ℕ)) (places : List ℕ) (position : ℕ) → position < length (shown_rows segments late base count) → row_at (group_of segments key count base late places) position ≡ shown_row segments late base position
shown_at segments key count base late places position l =
    row-shown segments late base count position (record { cells = []; begin = 0 }) (omega (arith, length-shown segments late base count))

pub key-shown : (segments : List Segment) (key count base : ℕ) (late : List (ℕ × ℕ)) (places : List ℕ) (position : ℕ) (segment : Segment) → key < length segments → segment ≡ get_or segments key segment → position < length (shown_rows segments late base count) → key_of_cell (cell_in segment.body position) ≡ key_in key (row_at (group_of segments key count base late places) position).cells
key-shown segments key count base late places position segment there is l =
    sym (ap (λ (row : PackedRow). key_in key row.cells) (shown_at segments key count base late places position l)
    ∙ ap key_of_cell (cell_at-map (λ s. cell_in s.body position) segments key segment there ∙ ap (λ (s : Segment). cell_in s.body position) (sym is)))
