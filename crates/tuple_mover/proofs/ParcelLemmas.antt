-- The parts of a commit's rows, one after the other.
use Rattle.std.proofs.Common.{◌≡◌, ℕ, zero, suc, ◌+◌, ◌-◌, ◌<◌, ◌≤◌, Bool, true, false, cond, nat_le, List, [], ◌∷◌, ◌++◌, map, take, drop, get_or, length, refl, sym, ap, subst, ◌∙◌, arith}
use Rattle.std.specs.List.{All, AllZip}
use Rattle.std.specs.List.Sorted.{IsPermutation}
use Rattle.std.specs.Prelude.{min}
use Rattle.std.proofs.lemmas.List.{append-nil, append_assoc, map-append, take-append-drop, get_or_append_left, get_or-append-add, take_all, take_at, drop_at, length-append, length-drop}
use Rattle.std.proofs.lemmas.List.Elements.{All-append, All-weaker, All-cons, All-nil}
use Rattle.std.proofs.lemmas.Bool.Decides.{nat_tests}
use Rattle.cs_types.specs.declared.Key.{Key}
use Rattle.cs_types.specs.declared.Schema.{Schema}
use Rattle.cs_types.specs.declared.Value.{Value}
use Rattle.cs_types.specs.Rows.{key_in}
use Rattle.cs_types.specs.Schemas.{IsSchema}
use Rattle.cs_model.specs.Changes.{Edit}
use Rattle.edit_laws.specs.Edits.{edit_of, edits_of}
use Rattle.write_set.specs.declared.write.Write.{Write}
use Rattle.row_group.specs.Rows.{PackedRow}
use Rattle.row_group.specs.Groups.{Group}
use Rattle.group_book.specs.Commits.{Sizes, direct_parts, inserted_by}
use Rattle.group_view.specs.declared.claim.Parcel.{Parcel}
use Rattle.group_view.specs.Parts.{IsPackedGroup}
use Rattle.group_view.specs.Parcels.{HasOneBegin, packed_keys, packed_rows, parcel_rows, IsGiven, IsParcelFor}
use Rattle.tuple_mover.specs.Inserts.{rows_given, FitsIn, IsDirectOf}
use Rattle.tuple_mover.proofs.InsertLemmas.{given-keys, inserted-append, given-fit, given-itself, given-left, given-right, direct-keys, direct-begun, direct-given, IsEntryOf}

abbrev Parts : Type 0
Parts = List (List Key) × List Key

-- ---- how many steps do not matter

rest_alone : (n : ℕ) (sizes : Sizes) (keys : List Key) → length keys < sizes.direct_rows → direct_parts n sizes keys ≡ ([], keys)
rest_alone zero sizes keys few = refl
rest_alone (suc n) sizes keys few = step (nat_le sizes.direct_rows (length keys)) refl
  where
    more : Parts
    more = direct_parts n sizes (drop sizes.group_rows keys)

    step : (t : Bool) → nat_le sizes.direct_rows (length keys) ≡ t → (let both : Parts = cond t (take sizes.group_rows keys ∷ more.0, more.1) ([], keys) in both) ≡ ([], keys)
    step true is = let most : sizes.direct_rows ≤ length keys = grind (arith, nat_tests, is) in absurd (omega (arith, few, most))
    step false is = refl

any_steps : (n m : ℕ) (sizes : Sizes) (keys : List Key) → 1 ≤ sizes.group_rows → 1 ≤ sizes.direct_rows → length keys ≤ n → length keys ≤ m → direct_parts n sizes keys ≡ direct_parts m sizes keys
any_steps zero m sizes keys group direct n_most m_most = sym (rest_alone m sizes keys (omega (arith, direct, n_most)))
any_steps (suc n) zero sizes keys group direct n_most m_most = rest_alone (suc n) sizes keys (omega (arith, direct, m_most))
any_steps (suc n) (suc m) sizes keys group direct n_most m_most =
    step (nat_le sizes.direct_rows (length keys)) (any_steps n m sizes left group direct (fewer n n_most) (fewer m m_most))
  where
    left : List Key
    left = drop sizes.group_rows keys

    fewer : (k : ℕ) → length keys ≤ suc k → length left ≤ k
    fewer k most = omega (arith, length-drop sizes.group_rows keys, group, most)

    step : (t : Bool) → direct_parts n sizes left ≡ direct_parts m sizes left
        → (let both : Parts = cond t (take sizes.group_rows keys ∷ (direct_parts n sizes left).0, (direct_parts n sizes left).1) ([], keys) in both)
        ≡ (let both : Parts = cond t (take sizes.group_rows keys ∷ (direct_parts m sizes left).0, (direct_parts m sizes left).1) ([], keys) in both)
    step true same = ap (λ (more : Parts). let both : Parts = (take sizes.group_rows keys ∷ more.0, more.1) in both) same
    step false same = refl

-- ---- the first part

first_taken : (g : ℕ) (front back : List Key) → length front ≡ min g (length (front ++ back)) → (take g (front ++ back) ≡ front) × (drop g (front ++ back) ≡ back)
first_taken g front [] long =
    let all : length front ≤ g = omega (arith, long) in
    let whole : front ++ [] ≡ front = append-nil front in
    (ap (take g) whole ∙ take_all g front all, ap (drop g) whole ∙ drop_none g front all)
  where
    drop_none : (n : ℕ) (keys : List Key) → length keys ≤ n → drop n keys ≡ []
    drop_none zero [] most = refl
    drop_none zero (key ∷ keys) most = absurd (omega (arith, most))
    drop_none (suc n) [] most = refl
    drop_none (suc n) (key ∷ keys) most = drop_none n keys (omega (arith, most))
first_taken g front (key ∷ back) long =
    let is : length front ≡ g = omega (arith, long, length-append front (key ∷ back)) in
    (take_at front (key ∷ back) g is, drop_at front (key ∷ back) g is)

abbrev parts_of : Sizes → List Key → Parts
parts_of sizes keys = direct_parts (length keys) sizes keys

parts_step : (n : ℕ) (sizes : Sizes) (keys front back : List Key) → sizes.direct_rows ≤ length keys → take sizes.group_rows keys ≡ front → drop sizes.group_rows keys ≡ back
    → direct_parts (suc n) sizes keys ≡ (front ∷ (direct_parts n sizes back).0, (direct_parts n sizes back).1)
parts_step n sizes keys front back most first rest = step (nat_le sizes.direct_rows (length keys)) refl
  where
    more : List Key → Parts
    more keys = direct_parts n sizes keys

    step : (t : Bool) → nat_le sizes.direct_rows (length keys) ≡ t
        → (let both : Parts = cond t (take sizes.group_rows keys ∷ (direct_parts n sizes (drop sizes.group_rows keys)).0, (direct_parts n sizes (drop sizes.group_rows keys)).1) ([], keys) in both)
        ≡ (front ∷ (direct_parts n sizes back).0, (direct_parts n sizes back).1)
    step true is =
        ap (λ (part : List Key). let both : Parts = (part ∷ (direct_parts n sizes (drop sizes.group_rows keys)).0, (direct_parts n sizes (drop sizes.group_rows keys)).1) in both) first
        ∙ ap (λ (left : List Key). let both : Parts = (front ∷ (direct_parts n sizes left).0, (direct_parts n sizes left).1) in both) rest
    step false is = let few : length keys < sizes.direct_rows = grind (arith, nat_tests, is) in absurd (omega (arith, few, most))

parts_more : (sizes : Sizes) (front back : List Key) → 1 ≤ sizes.group_rows → 1 ≤ sizes.direct_rows → sizes.direct_rows ≤ length (front ++ back) → length front ≡ min sizes.group_rows (length (front ++ back))
    → parts_of sizes (front ++ back) ≡ (front ∷ (parts_of sizes back).0, (parts_of sizes back).1)
parts_more sizes front back group direct most long =
    let taken = first_taken sizes.group_rows front back long in
    let all = front ++ back in
    let count : length all ≡ length front + length back = length-append front back in
    let one : length all ≤ suc (length all - 1) = omega arith in
    any_steps (length all) (suc (length all - 1)) sizes all group direct (omega arith) one
    ∙ parts_step (length all - 1) sizes all front back most taken.0 taken.1
    ∙ ap (λ (more : Parts). let both : Parts = (front ∷ more.0, more.1) in both)
    (any_steps (length all - 1) (length back) sizes back group direct (omega (arith, long, most, group, direct, count)) (omega arith))

-- ---- the parcel

-- no group loads directly
pub rest_parcel : (schema : Schema) (sizes : Sizes) (own : List Edit) → All (FitsIn schema) own → length (inserted_by own) < sizes.direct_rows → IsParcelFor schema sizes own (record { groups = []; rest = rows_given own })
rest_parcel schema sizes own fit few =
    let none = rest_alone (length (inserted_by own)) sizes (inserted_by own) few in
    record {
      parts = record {
        groups = subst (λ (parts : Parts). AllZip (λ (part : List Key) (group : Group). IsPermutation part (packed_keys group)) parts.0 []) (sym none) tt;
        rest = given-keys own ∙ ap (λ (parts : Parts). parts.1) (sym none);
      };
      packed = All-nil (IsPackedGroup schema);
      wide = All-weaker (IsEntryOf schema) (λ (entry : Key × List Value). length entry.1 ≤ length schema.columns) (λ entry is. let fits = is.row in fits.short) (rows_given own) (given-fit schema own fit);
      begun = All-nil HasOneBegin;
      given = given-itself (length schema.columns) own;
    }

-- one group more first
module _ (schema : Schema) (is_schema : IsSchema schema) (sizes : Sizes) (some_group : 1 ≤ sizes.group_rows) (some_direct : 1 ≤ sizes.direct_rows) where
  abbrev width : ℕ
  width = length schema.columns

  pub group_more : (front back : List Edit) (group : Group) (tail : Parcel) → All (FitsIn schema) front → IsDirectOf schema front group → sizes.direct_rows ≤ length (inserted_by (front ++ back))
      → length (inserted_by front) ≡ min sizes.group_rows (length (inserted_by (front ++ back))) → IsParcelFor schema sizes back tail
      → IsParcelFor schema sizes (front ++ back) (record { groups = group ∷ tail.groups; rest = tail.rest })
  group_more front back group tail fit made most long rest =
      let keys = inserted_by front in
      let both = inserted-append front back in
      let parts : parts_of sizes (inserted_by (front ++ back)) ≡ (keys ∷ (parts_of sizes (inserted_by back)).0, (parts_of sizes (inserted_by back)).1) =
      ap (parts_of sizes) both
      ∙ parts_more sizes keys (inserted_by back) some_group some_direct (subst (λ (all : List Key). sizes.direct_rows ≤ length all) both most)
      (subst (λ (all : List Key). length keys ≡ min sizes.group_rows (length all)) both long) in
      record {
        parts = record {
          groups = subst (λ (parts : Parts). AllZip (λ (part : List Key) (group : Group). IsPermutation part (packed_keys group)) parts.0 (group ∷ tail.groups)) (sym parts) (direct-keys schema is_schema front fit group made, rest.parts.groups);
          rest = rest.parts.rest ∙ ap (λ (parts : Parts). parts.1) (sym parts);
        };
        packed = All-cons (IsPackedGroup schema) group tail.groups (record { order = made.order; width = made.width; key = made.key }) rest.packed;
        wide = rest.wide;
        begun = All-cons HasOneBegin group tail.groups (direct-begun schema is_schema front fit group made) rest.begun;
        given =
            let first = map (λ (row : PackedRow). (key_in group.key row.cells, row.cells)) group.rows in
            subst (λ (rows : List (Key × List Value)). All (IsGiven width (front ++ back)) rows) (sym (append_assoc first (packed_rows tail.groups) tail.rest))
            (All-append (IsGiven width (front ++ back)) first (parcel_rows tail)
            (All-weaker (IsGiven width front) (IsGiven width (front ++ back)) (given-left width front back) first (direct-given schema is_schema front fit group made))
            (All-weaker (IsGiven width back) (IsGiven width (front ++ back)) (given-right width front back) (parcel_rows tail) rest.given));
      }

  -- what is known of the parcel so far, one group further
  pub parcel_step : (own writes front back : List Edit) (groups : List Group) (group : Group) → front ++ back ≡ writes → All (FitsIn schema) front → IsDirectOf schema front group
      → sizes.direct_rows ≤ length (inserted_by writes) → length (inserted_by front) ≡ min sizes.group_rows (length (inserted_by writes))
      → ((tail : Parcel) → IsParcelFor schema sizes writes tail → IsParcelFor schema sizes own (record { groups = groups ++ tail.groups; rest = tail.rest }))
      → (tail : Parcel) → IsParcelFor schema sizes back tail → IsParcelFor schema sizes own (record { groups = (groups ++ group ∷ []) ++ tail.groups; rest = tail.rest })
  parcel_step own writes front back groups group both fit made most long so_far tail rest =
      let more = group_more front back group tail fit made (subst (λ (all : List Edit). sizes.direct_rows ≤ length (inserted_by all)) (sym both) most)
      (subst (λ (all : List Edit). length (inserted_by front) ≡ min sizes.group_rows (length (inserted_by all))) (sym both) long) rest in
      subst (λ (all : List Group). IsParcelFor schema sizes own (record { groups = all; rest = tail.rest })) (sym (append_assoc groups (group ∷ []) tail.groups))
      (so_far (record { groups = group ∷ tail.groups; rest = tail.rest }) (subst (λ (all : List Edit). IsParcelFor schema sizes all (record { groups = group ∷ tail.groups; rest = tail.rest })) both more))

-- ---- writes in two

pub edits-split : (n : ℕ) (writes : List Write) → edits_of (take n writes) ++ edits_of (drop n writes) ≡ edits_of writes
edits-split n writes = sym (map-append edit_of (take n writes) (drop n writes)) ∙ ap edits_of (take-append-drop n writes)

pub fit-front : (P : Edit → Type 0) (front back writes : List Edit) → front ++ back ≡ writes → All P writes → All P front
fit-front P front back writes both fit k d l =
    subst P (ap (λ (all : List Edit). get_or all k d) (sym both) ∙ get_or_append_left front back d k l) (fit k d (omega (arith, l, ap length both, length-append front back)))

pub fit-back : (P : Edit → Type 0) (front back writes : List Edit) → front ++ back ≡ writes → All P writes → All P back
fit-back P front back writes both fit k d l =
    subst P (ap (λ (all : List Edit). get_or all (length front + k) d) (sym both) ∙ get_or-append-add front back k d)
    (fit (length front + k) d (omega (arith, l, ap length both, length-append front back)))

pub split-count : (front back writes : List Edit) → front ++ back ≡ writes → length (inserted_by front) + length (inserted_by back) ≡ length (inserted_by writes)
split-count front back writes both =
    sym (length-append (inserted_by front) (inserted_by back)) ∙ sym (ap length (inserted-append front back)) ∙ ap (λ (all : List Edit). length (inserted_by all)) both
