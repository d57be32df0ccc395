-- What a sorted dictionary of some cells says of their codes, whatever the entries are.
use Rattle.std.proofs.Common.{◌≡◌, ◌≢◌, ℕ, zero, suc, ◌+◌, ◌-◌, ◌<◌, ◌≤◌, inl, inr, List, [], ◌∷◌, length, get_or, map, refl, sym, ◌∙◌, ap, subst, arith, Bool, true, false, IsTrue, All, Contains, Option, None, Some, cond, nat_lt, slice_get}
use Rattle.std.specs.declared.cmp.Ordering.{Ordering}
use Rattle.std.specs.declared.cmp.Ordering.TheVariants.{Less, Greater}
use Rattle.std.specs.Cmp.{IsTotalOrder}
use Rattle.std.specs.Ordering.{ordering_reverse}
use Rattle.std.specs.Int.{from_bool}
use Rattle.std.proofs.lemmas.Bool.{cases_lt}
use Rattle.std.proofs.lemmas.Bool.Decides.{nat_tests}
use Rattle.std.proofs.lemmas.List.{get_or-map, get_or_default, length-map}
use Rattle.std.proofs.lemmas.Option.{slice_get_within, get_or_from_slice_get, slice_get-get_or}
use Rattle.cs_types.specs.declared.Value.{Value}
use Rattle.cs_types.specs.declared.Value.TheVariants.{Null}
use Rattle.cs_types.specs.Values.{value_cmp}
use Rattle.segment_dict.specs.Dictionaries.{Ascends, IsDictOf, HasCell, IsCodeOf, cell_of, codes_of}
use Rattle.segment_dict.proofs.Entries.{IsCodeOf-place, Contains-place}
use Rattle.column_segment.specs.Cells.{IsLeastCell, IsGreatestCell}

pub one_at_most : (nulls : Bool) → from_bool nulls ≤ 1
one_at_most true = omega arith
one_at_most false = omega arith

pub cell_of-null : {X : Type 0} (entries : List X) (nulls : Bool) (code : ℕ) → code < from_bool nulls → cell_of entries nulls code ≡ None
cell_of-null entries nulls code low =
    let yes : nat_lt code (from_bool nulls) ≡ true = grind (arith, nat_tests) in
    ap (λ b. cond b None (slice_get entries (code - from_bool nulls))) yes

pub cell_of-entry : {X : Type 0} (entries : List X) (nulls : Bool) (code : ℕ) → from_bool nulls ≤ code → cell_of entries nulls code ≡ slice_get entries (code - from_bool nulls)
cell_of-entry entries nulls code high =
    let later : nat_lt code (from_bool nulls) ≡ false = grind (arith, nat_tests) in
    ap (λ b. cond b None (slice_get entries (code - from_bool nulls))) later

-- an entry is there
pub entry : {X : Type 0} (entries : List X) (k : ℕ) → k < length entries → (x : X) × (slice_get entries k ≡ Some x)
entry [] k low = absurd (omega (arith, low))
entry (x ∷ xs) zero low = (x, refl)
entry (x ∷ xs) (suc k) low = entry xs k (omega (arith, low))

not_less : {X : Type 0} {cmp : X → X → Ordering} (o : IsTotalOrder cmp) (x : X) → cmp x x ≡ Less → ⊥
not_less o x e = let f = o.antisymm x x ∙ ap ordering_reverse e in cc

not_greater : {X : Type 0} {cmp : X → X → Ordering} (o : IsTotalOrder cmp) (x : X) → cmp x x ≡ Greater → ⊥
not_greater o x e = let f = o.antisymm x x ∙ ap ordering_reverse e in cc

-- a smaller place has a smaller entry
pub less_at : {X : Type 0} (cmp : X → X → Ordering) (entries : List X) → Ascends cmp entries → (i j : ℕ) (x y : X) → slice_get entries i ≡ Some x → slice_get entries j ≡ Some y → i < j → cmp x y ≡ Less
less_at {X} cmp entries up i j x y ex ey low =
    let there = slice_get_within entries j y ey in
    let P : X → Type 0 = λ z. cmp z y ≡ Less in
    let Q : X → Type 0 = λ z. cmp (get_or entries i x) z ≡ Less in
    subst P (get_or_from_slice_get entries i x x ex) (subst Q (get_or_from_slice_get entries j y x ey) (up i j x low there))

-- entries at two places are two
place-injective : {X : Type 0} {cmp : X → X → Ordering} (o : IsTotalOrder cmp) (entries : List X) → Ascends cmp entries → (i j : ℕ) (x : X) → slice_get entries i ≡ Some x → slice_get entries j ≡ Some x → i ≡ j
place-injective {X} {cmp} o entries up i j x ex ey = elim (cases_lt i j) [
  | inl low ↦ absurd (not_less o x (less_at cmp entries up i j x x ex ey low))
  | inr high ↦ elim (cases_lt j i) [
    | inl low ↦ absurd (not_less o x (less_at cmp entries up j i x x ey ex low))
    | inr same ↦ omega (arith, high, same)
  ]
]

-- two codes of one cell are one
pub code-injective : {X : Type 0} {cmp : X → X → Ordering} (o : IsTotalOrder cmp) (entries : List X) (nulls : Bool) → Ascends cmp entries → (a b : ℕ) → a < codes_of entries nulls → b < codes_of entries nulls → cell_of entries nulls a ≡ cell_of entries nulls b → a ≡ b
code-injective {X} {cmp} o entries nulls up a b low_a low_b e = elim (cases_lt a (from_bool nulls)) [
  | inl null_a ↦ elim (cases_lt b (from_bool nulls)) [
    | inl null_b ↦ omega (arith, null_a, null_b, one_at_most nulls)
    | inr entry_b ↦
        let found = entry entries (b - from_bool nulls) (omega (arith, low_b, entry_b)) in
        let f : None ≡ Some found.0 = sym (cell_of-null entries nulls a null_a) ∙ e ∙ cell_of-entry entries nulls b entry_b ∙ found.1 in
        absurd (none_some found.0 f)
  ]
  | inr entry_a ↦
      let found = entry entries (a - from_bool nulls) (omega (arith, low_a, entry_a)) in
      let at_a : cell_of entries nulls a ≡ Some found.0 = cell_of-entry entries nulls a entry_a ∙ found.1 in
      elim (cases_lt b (from_bool nulls)) [
        | inl null_b ↦
            let f : None ≡ Some found.0 = sym (cell_of-null entries nulls b null_b) ∙ sym e ∙ at_a in
            absurd (none_some found.0 f)
        | inr entry_b ↦
            let g : slice_get entries (b - from_bool nulls) ≡ Some found.0 = sym (cell_of-entry entries nulls b entry_b) ∙ sym e ∙ at_a in
            let same = place-injective o entries up (a - from_bool nulls) (b - from_bool nulls) found.0 found.1 g in
            omega (arith, same, entry_a, entry_b)
      ]
]
  where
    none_some : (x : X) → None ≡ Some x → ⊥
    none_some x f = cc

-- each of the cells is there
pub has-cell : {X : Type 0} {cmp : X → X → Ordering} (of : Value → Option X) (cells : List Value) (entries : List X) (nulls : Bool) → IsDictOf cmp (map of cells) entries nulls → (v : Value) → Contains cells v → HasCell entries nulls (of v)
has-cell {X} {cmp} of cells entries nulls dict v has = go (of v) (Contains-map has)
  where
    Contains-map : Contains cells v → Contains (map of cells) (of v)
    Contains-map (k, l, e) = (k, omega (arith, length-map cells of), get_or-map of cells k v (of v) l ∙ ap of e)

    go : (o : Option X) → Contains (map of cells) o → HasCell entries nulls o
    go None there = dict.null.1 there
    go (Some x) there = (dict.same x).1 there

-- and has a code
pub code-exists : {X : Type 0} (entries : List X) (nulls : Bool) (o : Option X) → HasCell entries nulls o → (code : ℕ) × IsCodeOf entries nulls o code
code-exists entries true None there = (0, (omega arith, refl))
code-exists entries false None there = absurd (false_true there)
  where
    false_true : IsTrue false → ⊥
    false_true h = cc
code-exists entries nulls (Some x) (k, l, e) =
    let at : slice_get entries k ≡ Some x = slice_get-get_or entries k x l ∙ ap Some e in
    (k + from_bool nulls, IsCodeOf-place entries nulls x k at)

-- where an entry stands
placed : {X : Type 0} (entries : List X) (x : X) → Contains entries x → (k : ℕ) × (slice_get entries k ≡ Some x)
placed entries x (k, l, e) = (k, slice_get-get_or entries k x l ∙ ap Some e)

-- a cell that is seen so
pub value_at : {X : Type 0} (of : Value → Option X) (cells : List Value) (o : Option X) → Contains (map of cells) o → (v : Value) × Contains cells v × (of v ≡ o)
value_at of cells o (k, l, e) =
    let v : Value = get_or cells k Null in
    let there : k < length cells = omega (arith, l, length-map cells of) in
    (v, (k, there, get_or_default cells k v Null there), sym (get_or-map of cells k Null o there) ∙ e)

cell_there : {X : Type 0} {cmp : X → X → Ordering} (of : Value → Option X) (cells : List Value) (entries : List X) (nulls : Bool) → IsDictOf cmp (map of cells) entries nulls → (k : ℕ) (x : X) → slice_get entries k ≡ Some x → (v : Value) × Contains cells v × (of v ≡ Some x)
cell_there of cells entries nulls dict k x e = value_at of cells (Some x) ((dict.same x).0 (Contains-place entries x k e))

-- the last code is a cell's
pub last-cell : {X : Type 0} {cmp : X → X → Ordering} (of : Value → Option X) (cells : List Value) (entries : List X) (nulls : Bool) → IsDictOf cmp (map of cells) entries nulls → 0 < length cells → (v : Value) × Contains cells v × (cell_of entries nulls (codes_of entries nulls - 1) ≡ of v)
last-cell {X} {cmp} of cells entries nulls dict some = elim (cases_lt 0 (length entries)) [
  | inl more ↦
      let found = entry entries (length entries - 1) (omega (arith, more)) in
      let at = cell_there of cells entries nulls dict (length entries - 1) found.0 found.1 in
      let high : from_bool nulls ≤ codes_of entries nulls - 1 = omega (arith, more) in
      let same : codes_of entries nulls - 1 - from_bool nulls ≡ length entries - 1 = omega (arith, more) in
      (at.0, at.1, cell_of-entry entries nulls (codes_of entries nulls - 1) high ∙ ap (slice_get entries) same ∙ found.1 ∙ sym at.2)
  | inr none ↦
      let v : Value = get_or cells 0 Null in
      let has : Contains cells v = (0, some, get_or_default cells 0 v Null some) in
      (v, has, go (of v) (omega (arith, none)) (has-cell of cells entries nulls dict v has))
]
  where
    low : (b : Bool) → IsTrue b → length entries ≡ 0 → length entries + from_bool b - 1 < from_bool b
    low true h e = omega (arith, e)
    low false h e = absurd (false_true h)
      where
        false_true : IsTrue false → ⊥
        false_true f = cc

    go : (o : Option X) → length entries ≡ 0 → HasCell entries nulls o → cell_of entries nulls (codes_of entries nulls - 1) ≡ o
    go None e there = cell_of-null entries nulls (codes_of entries nulls - 1) (low nulls there e)
    go (Some x) e (k, l, f) = absurd (omega (arith, l, e))

-- how entries are seen as cells
pub record AreCells {X : Type 0} (cmp : X → X → Ordering) (cell : Option X → Value) : Type 0 where
  pub total : IsTotalOrder cmp
  pub null : cell None ≡ Null
  pub some : (x : X) → cell (Some x) ≢ Null
  pub order : (x y : X) → value_cmp (cell (Some x)) (cell (Some y)) ≡ cmp x y

-- where there is an entry, the first is the least cell and the last the greatest
pub bound-cell : {X : Type 0} {cmp : X → X → Ordering} {cell : Option X → Value} (are : AreCells cmp cell) (of : Value → Option X) (cells : List Value) (own : (v : Value) → Contains cells v → cell (of v) ≡ v) (entries : List X) (nulls : Bool) → IsDictOf cmp (map of cells) entries nulls → 0 < length entries → IsLeastCell cells (cell (cell_of entries nulls (from_bool nulls))) × IsGreatestCell cells (cell (cell_of entries nulls (codes_of entries nulls - 1)))
bound-cell {X} {cmp} {cell} are of cells own entries nulls dict more =
    let first = entry entries 0 more in
    let last = entry entries (length entries - 1) (omega (arith, more)) in
    let low : cell_of entries nulls (from_bool nulls) ≡ Some first.0 = cell_of-entry entries nulls (from_bool nulls) (omega arith) ∙ ap (slice_get entries) (let e : from_bool nulls - from_bool nulls ≡ 0 = omega arith in e) ∙ first.1 in
    let high : cell_of entries nulls (codes_of entries nulls - 1) ≡ Some last.0 =
    cell_of-entry entries nulls (codes_of entries nulls - 1) (omega (arith, more))
    ∙ ap (slice_get entries) (let e : codes_of entries nulls - 1 - from_bool nulls ≡ length entries - 1 = omega (arith, more) in e) ∙ last.1 in
    let P : Option X → Type 0 = λ o. IsLeastCell cells (cell o) in
    let Q : Option X → Type 0 = λ o. IsGreatestCell cells (cell o) in (
      subst P (sym low) (
        (λ e. absurd (are.some first.0 e)),
        (λ _. (there 0 first.0 first.1, λ k d l. least (get_or cells k d) (k, l, get_or_default cells k (get_or cells k d) d l) 0 first.0 first.1 (λ j h. omega arith))),
      ),
      subst Q (sym high) (
        (λ e. absurd (are.some last.0 e)),
        (λ _. (there (length entries - 1) last.0 last.1, λ k d l. greatest (get_or cells k d) (k, l, get_or_default cells k (get_or cells k d) d l) (length entries - 1) last.0 last.1 (λ j h. omega (arith, h)))),
      ),
    )
  where
    there : (k : ℕ) (x : X) → slice_get entries k ≡ Some x → Contains cells (cell (Some x))
    there k x e =
        let at = cell_there of cells entries nulls dict k x e in
        let R : Value → Type 0 = λ v. Contains cells v in
        subst R (sym (own at.0 at.1) ∙ ap cell at.2) at.1

    same_not_greater : (x y : X) → x ≡ y → cmp x y ≢ Greater
    same_not_greater x y e f = not_greater are.total x (ap (cmp x) e ∙ f)

    ordered : (i j : ℕ) (x y : X) → slice_get entries i ≡ Some x → slice_get entries j ≡ Some y → i ≤ j → cmp x y ≢ Greater
    ordered i j x y ex ey low = elim (cases_lt i j) [
      | inl less ↦ (λ f. let g = less_at cmp entries dict.ascending i j x y ex ey less in let h : Less ≡ Greater = sym g ∙ f in cc)
      | inr high ↦
          let e : i ≡ j = omega (arith, low, high) in
          let f : Some x ≡ Some y = sym ex ∙ ap (slice_get entries) e ∙ ey in
          same_not_greater x y (let g : x ≡ y = cc in g)
    ]

    least : (v : Value) → Contains cells v → (i : ℕ) (x : X) → slice_get entries i ≡ Some x → ((j : ℕ) → j < length entries → i ≤ j) → v ≢ Null → value_cmp (cell (Some x)) v ≢ Greater
    least v has i x e first ne = go (of v) refl (has-cell of cells entries nulls dict v has)
      where
        go : (o : Option X) → of v ≡ o → HasCell entries nulls o → value_cmp (cell (Some x)) v ≢ Greater
        go None f h = absurd (ne (sym (own v has) ∙ ap cell f ∙ are.null))
        go (Some y) f h =
            let at = placed entries y h in
            let g : cmp x y ≢ Greater = ordered i at.0 x y e at.1 (first at.0 (slice_get_within entries at.0 y at.1)) in
            let same : value_cmp (cell (Some x)) v ≡ cmp x y = ap (value_cmp (cell (Some x))) (sym (own v has) ∙ ap cell f) ∙ are.order x y in
            (λ k. g (sym same ∙ k))

    greatest : (v : Value) → Contains cells v → (i : ℕ) (x : X) → slice_get entries i ≡ Some x → ((j : ℕ) → j < length entries → j ≤ i) → v ≢ Null → value_cmp v (cell (Some x)) ≢ Greater
    greatest v has i x e last ne = go (of v) refl (has-cell of cells entries nulls dict v has)
      where
        go : (o : Option X) → of v ≡ o → HasCell entries nulls o → value_cmp v (cell (Some x)) ≢ Greater
        go None f h = absurd (ne (sym (own v has) ∙ ap cell f ∙ are.null))
        go (Some y) f h =
            let at = placed entries y h in
            let g : cmp y x ≢ Greater = ordered at.0 i y x at.1 e (last at.0 (slice_get_within entries at.0 y at.1)) in
            let same : value_cmp v (cell (Some x)) ≡ cmp y x = ap (λ w. value_cmp w (cell (Some x))) (sym (own v has) ∙ ap cell f) ∙ are.order y x in
            (λ k. g (sym same ∙ k))

-- where there is none, each cell is NULL
pub no-cell : {X : Type 0} {cmp : X → X → Ordering} {cell : Option X → Value} (are : AreCells cmp cell) (of : Value → Option X) (cells : List Value) (own : (v : Value) → Contains cells v → cell (of v) ≡ v) (entries : List X) (nulls : Bool) → IsDictOf cmp (map of cells) entries nulls → length entries ≡ 0 → All (λ v. v ≡ Null) cells
no-cell {X} {cmp} {cell} are of cells own entries nulls dict none = λ k d l. go (get_or cells k d) (k, l, get_or_default cells k (get_or cells k d) d l)
  where
    null : (v : Value) → Contains cells v → (o : Option X) → of v ≡ o → HasCell entries nulls o → v ≡ Null
    null v has None e h = sym (own v has) ∙ ap cell e ∙ are.null
    null v has (Some x) e (k, l, f) = absurd (omega (arith, l, none))

    go : (v : Value) → Contains cells v → v ≡ Null
    go v has = null v has (of v) refl (has-cell of cells entries nulls dict v has)
