-- The dictionary of cells by their ranks.
use Rattle.std.proofs.Common.{◌≡◌, ◌≢◌, ℕ, ◌+◌, ◌-◌, ◌<◌, ◌≤◌, ◌↔◌, ◌⊎◌, inl, inr, List, length, map, drop, get_or, set, refl, sym, ◌∙◌, ap, subst, arith, below_more, Bool, true, false, IsTrue, Contains, Option, None, Some, slice_get}
use Rattle.std.specs.declared.cmp.Ordering.{Ordering}
use Rattle.std.specs.declared.cmp.Ordering.TheVariants.{Less, Equal, Greater}
use Rattle.std.specs.Int.{from_bool}
use Rattle.std.specs.Ordering.{nat_cmp, int_cmp}
use Rattle.std.specs.Cmp.Lexicographic.{slice_cmp}
use Rattle.std.proofs.lemmas.Bool.{cases_lt}
use Rattle.std.proofs.lemmas.Cmp.{ranked, tied_itself, nat_cmp_total}
use Rattle.std.proofs.lemmas.List.{get_or_default, get_or-drop, get_or-map, length-drop, length-map, length-set, get_or-set_same, get_or-set_other}
use Rattle.std.proofs.lemmas.Option.{slice_get-get_or, slice_get_within, get_or_from_slice_get, unwrap_or-slice_get}
use Rattle.cs_types.specs.declared.Value.{Value}
use Rattle.cs_types.specs.declared.Value.TheVariants.{Null, Number, Text}
use Rattle.cs_types.specs.Rows.{cell_at, number_in, number_cell}
use Rattle.cs_types.specs.Values.{value_cmp}
use Rattle.segment_dict.specs.Dictionaries.{IsDictOf, cell_of, codes_of}
use Rattle.segment_dict.proofs.Orders.{same_int, same_text}
use Rattle.column_segment.specs.Cells.{text_of, text_cell, number_of, HasText}
use Rattle.column_segment.specs.Ranks.{AreAllBelow, AreCellRanks, AreRankPlaces, text_in}
use Rattle.column_segment.proofs.Entries.{cell_of-null, cell_of-entry, one_at_most, value_at}
use Rattle.segment_dict.proofs.Entries.{Contains-place}

-- a rank stands at its place
abbrev pub Stands : List ℕ → List ℕ → ℕ → Type 0
Stands ranks places k = (get_or places k 0 < length ranks) × (get_or ranks (get_or places k 0) 0 ≡ k)

-- each of the first n ranks has a place
pub record ArePlacesBelow (ranks : List ℕ) (count n : ℕ) (places : List ℕ) : Type 0 where
  pub counted : length places ≡ count
  pub own : (q : ℕ) → q < n → Stands ranks places (get_or ranks q 0)

cases_same : (a b : ℕ) → (a ≡ b) ⊎ (a ≢ b)
cases_same a b = elim (cases_lt a b) [
  | inl less ↦ inr (λ e. absurd (omega (arith, less, e)))
  | inr high ↦ elim (cases_lt b a) [
    | inl less ↦ inr (λ e. absurd (omega (arith, less, e)))
    | inr low ↦ inl (omega (arith, high, low))
  ]
]

pub places-more : (ranks places : List ℕ) (count n : ℕ) → AreAllBelow ranks count → n < length ranks → ArePlacesBelow ranks count n places → ArePlacesBelow ranks count (n + 1) (set places (get_or ranks n 0) n)
places-more ranks places count n dense there are = record {
  counted = length-set places (get_or ranks n 0) n ∙ are.counted;
  own = below_more (λ q. Stands ranks (set places (get_or ranks n 0) n) (get_or ranks q 0)) n
      (λ q l. elim (cases_same (get_or ranks q 0) (get_or ranks n 0)) [
        | inl e ↦ subst (Stands ranks (set places (get_or ranks n 0) n)) (sym e) here
        | inr other ↦
            subst (λ (p : ℕ). (p < length ranks) × (get_or ranks p 0 ≡ get_or ranks q 0))
            (sym (get_or-set_other places (get_or ranks n 0) (get_or ranks q 0) n 0 other)) (are.own q l)
      ])
      here;
}
  where
    here : Stands ranks (set places (get_or ranks n 0) n) (get_or ranks n 0)
    here =
        let within : get_or ranks n 0 < length places = omega (arith, dense.below n 0 there, are.counted) in
        let e = get_or-set_same places (get_or ranks n 0) n 0 within in
        (omega (arith, e, there), ap (λ p. get_or ranks p 0) e)

pub places-all : (ranks places : List ℕ) (count n : ℕ) → AreAllBelow ranks count → length ranks ≤ n → ArePlacesBelow ranks count n places → AreRankPlaces ranks count places
places-all ranks places count n dense all are = (
  are.counted,
  λ k l.
      let (i, m, e) = dense.taken k l in
      subst (Stands ranks places) e (are.own i (omega (arith, m, all))),
)

same_value : (x y : Value) → value_cmp x y ≡ Equal → x ≡ y
same_value Null Null e = refl
same_value Null (Number n) e = cc
same_value Null (Text u) e = cc
same_value (Number m) Null e = cc
same_value (Number m) (Number n) e = ap Number (same_int m n e)
same_value (Number m) (Text u) e = cc
same_value (Text t) Null e = cc
same_value (Text t) (Number n) e = cc
same_value (Text t) (Text u) e = ap Text (same_text t u e)

nothing-below : (x : Value) → value_cmp x Null ≡ Less → ⊥
nothing-below Null e = cc
nothing-below (Number m) e = cc
nothing-below (Text t) e = cc

number-less : (a b : ℕ) → a < b → nat_cmp a b ≡ Less
number-less a b l = go (nat_cmp a b) refl
  where
    go : (r : Ordering) → nat_cmp a b ≡ r → nat_cmp a b ≡ Less
    go Less e = e
    go Equal e = absurd (omega (arith, ranked a b Equal (sym e)))
    go Greater e = absurd (omega (arith, ranked a b Greater (sym e)))

-- cells of one kind, and NULLs: as what may be there, and back
pub record AreOfKind {X : Type 0} (cmp : X → X → Ordering) (of : Value → Option X) (cell : Option X → Value) (put : X → Value) (get : Value → X) : Type 0 where
  pub none : of Null ≡ None
  pub back : (x : X) → of (put x) ≡ Some x
  pub order : (x y : X) → value_cmp (put x) (put y) ≡ cmp x y
  pub some : (v : Value) → cell (of v) ≡ v → v ≢ Null → v ≡ put (get v)

pub kind-texts : AreOfKind (slice_cmp nat_cmp) text_of text_cell Text text_in
kind-texts = record { none = refl; back = λ t. refl; order = λ s t. refl; some = go }
  where
    go : (v : Value) → text_cell (text_of v) ≡ v → v ≢ Null → v ≡ Text (text_in v)
    go Null own ne = absurd (ne refl)
    go (Number n) own ne = cc
    go (Text t) own ne = refl

pub kind-numbers : AreOfKind int_cmp number_of number_cell Number number_in
kind-numbers = record { none = refl; back = λ n. refl; order = λ m n. refl; some = go }
  where
    go : (v : Value) → number_cell (number_of v) ≡ v → v ≢ Null → v ≡ Number (number_in v)
    go Null own ne = absurd (ne refl)
    go (Number n) own ne = refl
    go (Text t) own ne = cc

module _ {X : Type 0} {cmp : X → X → Ordering} {of : Value → Option X} {cell : Option X → Value} {put : X → Value} {get : Value → X} (kind : AreOfKind cmp of cell put get) (cells : List Value) (ranks : List ℕ) (count : ℕ) (are : AreCellRanks cells ranks count) (places : List ℕ) (found : AreRankPlaces ranks count places) (own : (v : Value) → Contains cells v → cell (of v) ≡ v) (nulls : Bool) (first : IsTrue nulls ↔ (get_or cells (get_or places 0 0) Null ≡ Null)) (some : 0 < count) where
  -- the cell of a rank
  abbrev at : ℕ → Value
  at k = get_or cells (get_or places k 0) Null

  at-within : (k : ℕ) → k < count → get_or places k 0 < length cells
  at-within k l = omega (arith, (found.1 k l).0, are.counted)

  at-there : (k : ℕ) → k < count → Contains cells (at k)
  at-there k l = (get_or places k 0, at-within k l, get_or_default cells (get_or places k 0) (at k) Null (at-within k l))

  -- the cells of ranks stand as the ranks do
  stand : (j k : ℕ) → j < count → k < count → value_cmp (at j) (at k) ≡ nat_cmp j k
  stand j k l m =
      sym (are.agree (get_or places j 0) (get_or places k 0) (at-within j l) (at-within k m))
      ∙ ap (λ a. nat_cmp a (get_or ranks (get_or places k 0) 0)) (found.1 j l).1 ∙ ap (nat_cmp j) (found.1 k m).1

  rank-below : (i : ℕ) → i < length cells → get_or ranks i 0 < count
  rank-below i l = are.dense.below i 0 (omega (arith, l, are.counted))

  -- each cell is that of its rank
  own-cell : (i : ℕ) → i < length cells → get_or cells i Null ≡ at (get_or ranks i 0)
  own-cell i l =
      let k = get_or ranks i 0 in
      let m = rank-below i l in
      same_value (get_or cells i Null) (at k)
      (sym (are.agree i (get_or places k 0) l (at-within k m)) ∙ ap (nat_cmp k) (found.1 k m).1 ∙ tied_itself nat_cmp_total k)

  no_flag : from_bool nulls ≤ 0 → IsTrue nulls → ⊥
  no_flag low t = go nulls low t
    where
      go : (b : Bool) → from_bool b ≤ 0 → IsTrue b → ⊥
      go true l h = absurd (omega (arith, l))
      go false l h = cc

  flag : (k : ℕ) → k < from_bool nulls → IsTrue nulls × (k ≡ 0)
  flag k l = go nulls l
    where
      go : (b : Bool) → k < from_bool b → IsTrue b × (k ≡ 0)
      go true m = (refl, omega (arith, m))
      go false m = absurd (omega (arith, m))

  -- past NULL's rank no cell is NULL
  not_null : (k : ℕ) → k < count → from_bool nulls ≤ k → at k ≢ Null
  not_null k l past e = elim (cases_lt 0 k) [
    | inl later ↦ nothing-below (at 0) (ap (value_cmp (at 0)) (sym e) ∙ stand 0 k some l ∙ number-less 0 k later)
    | inr zero_rank ↦
        let is : k ≡ 0 = omega (arith, zero_rank) in
        no_flag (omega (arith, past, is)) (first.1 (ap at (sym is) ∙ e))
  ]

  is_some : (k : ℕ) → k < count → from_bool nulls ≤ k → at k ≡ put (get (at k))
  is_some k l past = kind.some (at k) (own (at k) (at-there k l)) (not_null k l past)

  some_of : (k : ℕ) → k < count → from_bool nulls ≤ k → of (at k) ≡ Some (get (at k))
  some_of k l past = ap of (is_some k l past) ∙ kind.back (get (at k))

  null-at : (k : ℕ) → k < from_bool nulls → at k ≡ Null
  null-at k l = let (t, z) = flag k l in ap at z ∙ first.0 t

  none_of : (k : ℕ) → k < from_bool nulls → of (at k) ≡ None
  none_of k l = ap of (null-at k l) ∙ kind.none

  -- what the cells from NULL's rank on are
  abbrev entries : List X
  entries = map (λ place. get (cell_at cells place)) (drop (from_bool nulls) places)

  length-entries : length entries + from_bool nulls ≡ count
  length-entries =
      omega (arith, length-map (drop (from_bool nulls) places) (λ place. get (cell_at cells place)), length-drop (from_bool nulls) places, found.0, one_at_most nulls, some)

  entry-at : (j : ℕ) → from_bool nulls + j < count → slice_get entries j ≡ Some (get (at (from_bool nulls + j)))
  entry-at j l =
      let low : j < length (drop (from_bool nulls) places) = omega (arith, l, length-drop (from_bool nulls) places, found.0) in
      let here : j < length entries = omega (arith, l, length-entries) in
      let d : X = get (at (from_bool nulls + j)) in
      slice_get-get_or entries j d here
      ∙ ap Some (get_or-map (λ place. get (cell_at cells place)) (drop (from_bool nulls) places) j 0 d low
      ∙ ap (λ p. get (cell_at cells p)) (get_or-drop (from_bool nulls) places j 0)
      ∙ ap get (unwrap_or-slice_get cells (get_or places (from_bool nulls + j) 0) Null))

  -- the code of a cell is its rank
  coded : (k : ℕ) → k < count → cell_of entries nulls k ≡ of (at k)
  coded k l = elim (cases_lt k (from_bool nulls)) [
    | inl null ↦ cell_of-null entries nulls k null ∙ sym (none_of k null)
    | inr past ↦
        let back : from_bool nulls + (k - from_bool nulls) ≡ k = omega (arith, past) in
        cell_of-entry entries nulls k past ∙ entry-at (k - from_bool nulls) (omega (arith, back, l)) ∙ ap (λ j. Some (get (at j))) back
        ∙ sym (some_of k l past)
  ]

  pub codes-ranked : (length ranks ≡ length cells) × ((i : ℕ) (v : Value) → slice_get cells i ≡ Some v → (get_or ranks i 0 < codes_of entries nulls) × (cell (cell_of entries nulls (get_or ranks i 0)) ≡ v))
  codes-ranked = (
    are.counted,
    λ i v e.
        let l = slice_get_within cells i v e in
        let k = get_or ranks i 0 in
        let m = rank-below i l in (
          omega (arith, m, length-entries),
          ap cell (coded k m) ∙ own (at k) (at-there k m) ∙ sym (own-cell i l) ∙ get_or_from_slice_get cells i v Null e,
        ),
  )

  seen-cell : (k : ℕ) → k < count → Contains (map of cells) (of (at k))
  seen-cell k l =
      let p = get_or places k 0 in
      (p, omega (arith, at-within k l, length-map cells of), get_or-map of cells p Null (of (at k)) (at-within k l))

  -- the rank of a cell that is seen so
  rank-of : (o : Option X) → Contains (map of cells) o → (k : ℕ) × (k < count) × (of (at k) ≡ o)
  rank-of o has =
      let (v, (i, l, e), f) = value_at of cells o has in
      (get_or ranks i 0, rank-below i l, ap of (sym (own-cell i l) ∙ get_or_default cells i Null v l ∙ e) ∙ f)

  pub dict-ranked : IsDictOf cmp (map of cells) entries nulls
  dict-ranked = record {
    ascending = λ i j d less there.
        let n = from_bool nulls in
        let m : n + j < count = omega (arith, there, length-entries) in
        let l : n + i < count = omega (arith, less, m) in
        let a = get (at (n + i)) in
        let b = get (at (n + j)) in
        ap (λ x. cmp x (get_or entries j d)) (get_or_from_slice_get entries i a d (entry-at i l))
        ∙ ap (cmp a) (get_or_from_slice_get entries j b d (entry-at j m))
        ∙ sym (ap (λ x. value_cmp x (at (n + j))) (is_some (n + i) l (omega arith)) ∙ ap (value_cmp (put a)) (is_some (n + j) m (omega arith)) ∙ kind.order a b)
        ∙ stand (n + i) (n + j) l m ∙ number-less (n + i) (n + j) (omega (arith, less));
    same = λ x. (from_entry x, to_entry x);
    null = (null_cell, null_flag);
  }
    where
      from_entry : (x : X) → Contains entries x → Contains (map of cells) (Some x)
      from_entry x (j, l, e) =
          let k = from_bool nulls + j in
          let m : k < count = omega (arith, l, length-entries) in
          let is : get (at k) ≡ x = sym (get_or_from_slice_get entries j (get (at k)) x (entry-at j m)) ∙ e in
          subst (Contains (map of cells)) (some_of k m (omega arith) ∙ ap Some is) (seen-cell k m)

      to_entry : (x : X) → Contains (map of cells) (Some x) → Contains entries x
      to_entry x has =
          let (k, l, e) = rank-of (Some x) has in
          elim (cases_lt k (from_bool nulls)) [
            | inl null ↦ absurd (none_some (sym (none_of k null) ∙ e))
            | inr past ↦ Contains-place entries x (k - from_bool nulls) (sym (cell_of-entry entries nulls k past) ∙ coded k l ∙ e)
          ]
        where
          none_some : None ≡ Some x → ⊥
          none_some f = cc

      null_cell : IsTrue nulls → Contains (map of cells) None
      null_cell t = subst (Contains (map of cells)) (ap of (first.0 t) ∙ kind.none) (seen-cell 0 some)

      null_flag : Contains (map of cells) None → IsTrue nulls
      null_flag has =
          let (k, l, e) = rank-of None has in
          elim (cases_lt k (from_bool nulls)) [
            | inl null ↦ (flag k null).0
            | inr past ↦ absurd (some_none (get (at k)) (sym (some_of k l past) ∙ e))
          ]
        where
          some_none : (x : X) → Some x ≡ None → ⊥
          some_none x f = cc

-- where there is a cell, there is a rank
pub a-rank : (cells : List Value) (ranks : List ℕ) (count : ℕ) → AreCellRanks cells ranks count → 0 < length cells → 0 < count
a-rank cells ranks count are some = omega (arith, are.dense.below 0 0 (omega (arith, some, are.counted)))

-- where a cell is a text, there is a rank
pub some-rank : (cells : List Value) (ranks : List ℕ) (count : ℕ) → AreCellRanks cells ranks count → HasText cells → 0 < count
some-rank cells ranks count are (k, v, l, e, text) = omega (arith, are.dense.below k 0 (omega (arith, l, are.counted)))
