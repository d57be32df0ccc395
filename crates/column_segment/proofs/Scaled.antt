-- The scale of numbers, and their codes by it, from each of the numbers once.
use Rattle.std.proofs.Common.{◌≡◌, ◌≢◌, ℕ, zero, ◌-◌, ◌<◌, ◌≤◌, ◌^◌, inl, inr, List, [], ◌∷◌, length, map, get_or, refl, sym, ◌∙◌, ap, subst, arith, Bool, true, false, IsTrue, Contains, Option, None, Some, ℤ, pos, ◌≤ℤ◌}
use Rattle.std.specs.List.{All, Any}
use Rattle.std.specs.Int.{from_bool}
use Rattle.std.proofs.lemmas.Bool.{cases_lt}
use Rattle.std.proofs.lemmas.List.{get_or_default, get_or-map, length-map, same_lists}
use Rattle.std.proofs.lemmas.List.Elements.{Contains-get_or}
use Rattle.std.proofs.lemmas.Option.{slice_get-get_or}
use Rattle.segment_value.specs.declared.Scale.{Scale}
use Rattle.segment_value.specs.Scales.{numbers_in, IsExponent, IsBase, IsScaleOf, IsScaling, Divides, Takes, code_of}
use Rattle.segment_dict.specs.declared.Dict.{Dict}
use Rattle.segment_dict.specs.declared.Dict.TheVariants.{Numbers, Texts}
use Rattle.segment_dict.specs.Dictionaries.{IsDictOf, cell_of, codes_of}
use Rattle.segment_dict.proofs.Entries.{Contains-place}
use Rattle.segment_dict.proofs.Orders.{present_from_cell, cell_from_present}
use Rattle.std.specs.Ordering.{int_cmp}
use Rattle.cs_types.specs.declared.Value.{Value}
use Rattle.cs_types.specs.declared.Value.TheVariants.{Null}
use Rattle.column_segment.specs.Cells.{number_of, HasNoText}
use Rattle.column_segment.specs.Layouts.{IsLeastWidth}
use Rattle.column_segment.specs.Dicts.{dict_cell, dict_codes, IsDictFor, IsCoded, AreCodeNumbers}
use Rattle.column_segment.specs.Ranks.{ArePicked}
use Rattle.column_segment.proofs.Best.{value-code, value-length}
use Rattle.column_segment.proofs.Dicts.{number-back, not-both}
use Rattle.column_segment.proofs.Entries.{cell_of-null, cell_of-entry, entry, value_at}

-- what is picked is one list
pub picked-one : (table places codes others : List ℕ) → ArePicked table places codes → ArePicked table places others → codes ≡ others
picked-one table places codes others picked other =
    same_lists codes others (picked.0 ∙ sym other.0) (λ k d l.
    picked.1 k d (omega (arith, l, picked.0)) ∙ sym (other.1 k d (omega (arith, l, picked.0))))

-- of a table that has at each place the place
pub picked-places : (table places : List ℕ) → ((i : ℕ) → i < length table → get_or table i 0 ≡ i) → All (λ place. place < length table) places → ArePicked table places places
picked-places table places up within = (
  refl,
  λ i d l.
      let p : ℕ = get_or places i 0 in
      let there : p < length table = within i 0 l in
      get_or_default places i d 0 l ∙ sym (up p there) ∙ get_or_default table p 0 d there,
)

-- one list has what another has
abbrev Within : {X : Type 0} → List X → List X → Type 0
Within {X} xs ys = (x : X) → Contains xs x → Contains ys x

all-by : {X : Type 0} (P : X → Type 0) (xs ys : List X) → Within ys xs → All P xs → All P ys
all-by P xs ys within all = λ k d l.
    let (j, m, e) = within (get_or ys k d) (Contains-get_or ys k d l) in
    subst P e (all j (get_or ys k d) m)

any-by : {X : Type 0} (P : X → Type 0) (xs ys : List X) → Within xs ys → Any P xs → Any P ys
any-by P xs ys within (k, v, l, e, holds) =
    let (j, m, f) = within v (k, l, e) in
    (j, v, m, f, holds)

within-numbers : (xs ys : List (Option ℤ)) → Within xs ys → Within (numbers_in xs) (numbers_in ys)
within-numbers xs ys within n has = present_from_cell ys n (within (Some n) (cell_from_present xs n has))

within-map : {X : Type 0} (f : X → ℕ) (d : X) (xs ys : List X) → Within xs ys → Within (map f xs) (map f ys)
within-map f d xs ys within c (k, l, e) =
    let m : k < length xs = omega (arith, l, length-map xs f) in
    let (j, n, g) = within (get_or xs k d) (Contains-get_or xs k d m) in (
      j,
      omega (arith, n, length-map ys f),
      get_or-map f ys j (get_or xs k d) c n ∙ ap f g ∙ sym (get_or-map f xs k d c m) ∙ e,
    )

none-within : (xs ys : List ℤ) → Within ys xs → xs ≡ [] → ys ≡ []
none-within xs [] within none = refl
none-within xs (y ∷ ys) within none =
    let (j, m, e) = within y (zero, omega arith, refl) in
    absurd (omega (arith, m, ap length none))

module _ (xs ys : List (Option ℤ)) (there : Within xs ys) (back : Within ys xs) where
  abbrev there_numbers : Within (numbers_in xs) (numbers_in ys)
  there_numbers = within-numbers xs ys there

  abbrev back_numbers : Within (numbers_in ys) (numbers_in xs)
  back_numbers = within-numbers ys xs back

  exponent-by : (e : ℕ) → IsExponent (numbers_in xs) e → IsExponent (numbers_in ys) e
  exponent-by e (inl (zeros, is)) = inl (all-by (λ n. n ≡ pos 0) (numbers_in xs) (numbers_in ys) back_numbers zeros, is)
  exponent-by e (inr (some, is)) = inr (
    any-by (λ n. n ≢ pos 0) (numbers_in xs) (numbers_in ys) there_numbers some,
    record {
      most = is.most;
      divides = all-by (Divides e) (numbers_in xs) (numbers_in ys) back_numbers is.divides;
      greatest = λ d l all. is.greatest d l (all-by (Divides d) (numbers_in ys) (numbers_in xs) there_numbers all);
    },
  )

  base-by : (e : ℕ) (base : ℤ) → IsBase (numbers_in xs) e base → IsBase (numbers_in ys) e base
  base-by e base (inl (none, is)) = inl (none-within (numbers_in xs) (numbers_in ys) back_numbers none, is)
  base-by e base (inr (least, is, f)) = inr (
    least,
    record { reached = there_numbers least is.reached; bound = all-by (λ n. least ≤ℤ n) (numbers_in xs) (numbers_in ys) back_numbers is.bound },
    f,
  )

  scale-by : (scale : Scale) → IsScaleOf xs scale → IsScaleOf ys scale
  scale-by scale is = record {
    exponent = exponent-by scale.exponent is.exponent;
    base = base-by scale.exponent scale.base is.base;
    nulls = ((λ t. there None (is.nulls.0 t)), (λ has. is.nulls.1 (back None has)));
  }

  -- the scale of numbers is that of others of which each is one of them, and they of those
  scaling-by : (scale : Option Scale) → IsScaling xs scale → IsScaling ys scale
  scaling-by None (scale, is, past) = (scale, scale-by scale is, any-by (λ cell. 2 ^ 64 ≤ code_of scale cell) xs ys there past)
  scaling-by (Some scale) (is, takes) = (scale-by scale is, all-by (Takes scale) xs ys back takes)

  width-by : (scale : Scale) (width : ℕ) → IsLeastWidth (map (code_of scale) xs) width → IsLeastWidth (map (code_of scale) ys) width
  width-by scale width (room, least) = (
    all-by (λ code. code < 2 ^ width) (map (code_of scale) xs) (map (code_of scale) ys) (within-map (code_of scale) None ys xs back) room,
    λ other all. least other (all-by (λ code. code < 2 ^ other) (map (code_of scale) ys) (map (code_of scale) xs) (within-map (code_of scale) None xs ys there) all),
  )

is-flag : (nulls : Bool) (k : ℕ) → k < from_bool nulls → IsTrue nulls
is-flag true k l = refl
is-flag false k l = absurd (omega (arith, l))

-- the cell of each code is one of the cells
code-seen : (numbers : List (Option ℤ)) (entries : List ℤ) (nulls : Bool) → IsDictOf int_cmp numbers entries nulls → (k : ℕ) → k < codes_of entries nulls → Contains numbers (cell_of entries nulls k)
code-seen numbers entries nulls is k l = elim (cases_lt k (from_bool nulls)) [
  | inl null ↦ subst (Contains numbers) (sym (cell_of-null entries nulls k null)) (is.null.0 (is-flag nulls k null))
  | inr past ↦
      let (x, e) = entry entries (k - from_bool nulls) (omega (arith, l, past)) in
      subst (Contains numbers) (sym (cell_of-entry entries nulls k past ∙ e)) ((is.same x).0 (Contains-place entries x (k - from_bool nulls) e))
]

-- the numbers of the codes are the numbers of the cells
module _ (cells : List Value) (dict : Dict) (codes : List ℕ) (coded : IsCoded cells dict codes) (none : HasNoText cells) (numbers : List (Option ℤ)) (are : AreCodeNumbers dict numbers) where
  number-there : Within numbers (map number_of cells)
  number-there o (k, l, e) = go dict coded.1 (omega (arith, l, are.0)) (sym (are.1 k o (omega (arith, l, are.0))) ∙ e)
    where
      go : (some : Dict) → IsDictFor cells some → k < dict_codes some → number_of (dict_cell some k) ≡ o → Contains (map number_of cells) o
      go (Numbers some) is m f = subst (Contains (map number_of cells)) (sym (number-back (cell_of some.entries some.nulls k)) ∙ f) (code-seen (map number_of cells) some.entries some.nulls is.1 k m)
      go (Texts some) is m f = absurd (not-both cells none is.0)

  -- the number of a cell is that of its code
  number-at : (i : ℕ) → i < length cells → (get_or codes i 0 < dict_codes dict) × ((d : Option ℤ) → get_or numbers (get_or codes i 0) d ≡ number_of (get_or cells i Null))
  number-at i l =
      let code = coded.2.1 i (get_or cells i Null) (slice_get-get_or cells i Null l) in
      (code.0, λ d. are.1 (get_or codes i 0) d code.0 ∙ ap number_of code.1)

  number-back-there : Within (map number_of cells) numbers
  number-back-there o has =
      let (v, (i, l, e), f) = value_at number_of cells o has in
      let at = number-at i l in
      (get_or codes i 0, omega (arith, at.0, are.0), at.1 o ∙ ap number_of (get_or_default cells i Null v l ∙ e) ∙ f)

  -- each code is one of a table of their codes
  pub codes-within : (scale : Scale) (table : List ℕ) → table ≡ map (code_of scale) numbers → All (λ code. code < length table) codes
  codes-within scale table is = λ k d l.
      let at = number-at k (omega (arith, l, coded.2.0)) in
      omega (arith, at.0, are.0, get_or_default codes k d 0 l, ap length is, length-map numbers (code_of scale))

  pub scaling-coded : (scale : Option Scale) → IsScaling numbers scale → IsScaling (map number_of cells) scale
  scaling-coded = scaling-by numbers (map number_of cells) number-there number-back-there

  pub width-coded : (scale : Scale) (table : List ℕ) (width : ℕ) → table ≡ map (code_of scale) numbers → IsLeastWidth table width → IsLeastWidth (map (code_of scale) (map number_of cells)) width
  width-coded scale table width is least =
      width-by numbers (map number_of cells) number-there number-back-there scale width (subst (λ (some : List ℕ). IsLeastWidth some width) is least)

  -- what a table of their codes has at the codes are the codes by the scale
  pub table-picked : (scale : Scale) (table : List ℕ) → table ≡ map (code_of scale) numbers → ArePicked table codes (map (code_of scale) (map number_of cells))
  table-picked scale table is = (
    value-length scale cells ∙ sym coded.2.0,
    λ k d m.
        let n : k < length cells = omega (arith, m, coded.2.0) in
        let at = number-at k n in
        let low : get_or codes k 0 < length numbers = omega (arith, at.0, are.0) in
        sym (ap (λ (some : List ℕ). get_or some (get_or codes k 0) d) is
        ∙ get_or-map (code_of scale) numbers (get_or codes k 0) None d low
        ∙ ap (code_of scale) (at.1 None)
        ∙ sym (value-code scale cells k n)
        ∙ get_or_default (map (code_of scale) (map number_of cells)) k 0 d (omega (arith, n, value-length scale cells))),
  )

  pub table-coded : (scale : Scale) (table found : List ℕ) → table ≡ map (code_of scale) numbers → ArePicked table codes found → found ≡ map (code_of scale) (map number_of cells)
  table-coded scale table found is picked = picked-one table codes found (map (code_of scale) (map number_of cells)) picked (table-picked scale table is)
