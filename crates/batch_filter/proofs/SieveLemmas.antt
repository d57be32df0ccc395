-- Masks that are narrowed part by part.
use Rattle.std.proofs.Common.{◌≡◌, ℕ, ◌+◌, ◌<◌, ◌≤◌, Bool, true, false, ◌&&◌, ◌||◌, List, [], length, take, get_or, slice_index_or, replicate, Some, nat_lt, refl, sym, ap, subst, ◌∙◌, arith, inl, inr, ⊎_elim, ◌-◌, ◌++◌, drop, true≢false, Result, Ok, Err, OnOk}
use Rattle.std.specs.Prelude.{not as flipped}
use Rattle.std.specs.Bool.{OnFalse}
use Rattle.std.specs.List.{list_all, list_any}
use Rattle.std.proofs.lemmas.Bool.{cases_lt, le-ltb, lt-ltb}
use Rattle.std.proofs.Math.Seq.{drop-length}
use Rattle.std.proofs.lemmas.List.{append-nil, take_all, ext_get_or, get_or-map, get_or-replicate, get_or_past, length-map, length-replicate}
use Rattle.std.proofs.lemmas.List.Folds.{list_all_more, list_any_more}
use Rattle.cs_types.specs.declared.Schema.{Schema}
use Rattle.cs_model.specs.declared.pred.Pred.{Pred}
use Rattle.cs_model.specs.declared.truth.Truth.{Truth}
use Rattle.cs_model.specs.declared.truth.Truth.TheVariants.{True, False, Unknown}
use Rattle.cs_model.specs.Queries.{is_true, keeps}
use Rattle.cs_model.specs.Truths.{truth}
use Rattle.row_group.specs.Rows.{PackedRow}
use Rattle.row_group.specs.Groups.{Group, row_at}
use Rattle.batch_kernels.specs.Masks.{IsNarrowed, IsNarrowedAt}
use Rattle.batch_filter.specs.Sieves.{is_asked, asks, verdicts}

and_true : (b : Bool) → b ≡ (b && true)
and_true true = refl
and_true false = refl

and_false : (b : Bool) → false ≡ (b && false)
and_false true = refl
and_false false = refl

and_join : (a b c : Bool) → ((a && b) && c) ≡ (a && (b && c))
and_join true b c = refl
and_join false b c = refl

module _ {X : Type 0} (f : ℕ → X → Bool) (parts : List X) where
  -- no part takes a place away
  pub each_none : (old : List Bool) → IsNarrowed (λ i. list_all (f i) (take 0 parts)) old old
  each_none old = (refl, λ i l. and_true (slice_index_or old i false))

  pub each_more : (k : ℕ) (d : X) (old mid new : List Bool) → k < length parts → IsNarrowed (λ i. list_all (f i) (take k parts)) old mid → IsNarrowed (λ i. f i (get_or parts k d)) mid new
      → IsNarrowed (λ i. list_all (f i) (take (k + 1) parts)) old new
  each_more k d old mid new l before here = (
    here.0 ∙ before.0,
    λ i m.
        here.1 i (omega (arith, before.0, m))
        ∙ ap (λ b. b && f i (get_or parts k d)) (before.1 i m)
        ∙ and_join (slice_index_or old i false) (list_all (f i) (take k parts)) (f i (get_or parts k d))
        ∙ ap (λ b. slice_index_or old i false && b) (sym (list_all_more (f i) parts k d l)),
  )

  pub each_all : (k : ℕ) (old new : List Bool) → length parts ≤ k → IsNarrowed (λ i. list_all (f i) (take k parts)) old new → IsNarrowed (λ i. list_all (f i) parts) old new
  each_all k old new l is = subst (λ (ps : List X). IsNarrowed (λ i. list_all (f i) ps) old new) (take_all k parts l) is

  -- a mask of nothing has no place of any part
  pub some_none : (mask found : List Bool) → length found ≡ length mask → ((i : ℕ) → i < length mask → slice_index_or found i false ≡ false) → IsNarrowed (λ i. list_any (f i) (take 0 parts)) mask found
  some_none mask found same none = (same, λ i l. none i l ∙ and_false (slice_index_or mask i false))

  either : (m a b : Bool) → ((m && a) || ((m && flipped (m && a)) && b)) ≡ (m && (a || b))
  either false a b = refl
  either true true b = refl
  either true false b = refl

  pub some_more : (k : ℕ) (d : X) (mask found left narrowed new : List Bool) → k < length parts → IsNarrowed (λ i. list_any (f i) (take k parts)) mask found
      → ((i : ℕ) → i < length mask → slice_index_or left i false ≡ (slice_index_or mask i false && flipped (slice_index_or found i false))) → length left ≡ length mask
      → IsNarrowed (λ i. f i (get_or parts k d)) left narrowed
      → length new ≡ length found → ((i : ℕ) → i < length narrowed → slice_index_or new i false ≡ (slice_index_or found i false || slice_index_or narrowed i false))
      → IsNarrowed (λ i. list_any (f i) (take (k + 1) parts)) mask new
  some_more k d mask found left narrowed new l before rest room here same joined = (
    same ∙ before.0,
    λ i m.
        joined i (omega (arith, here.0, room, m))
        ∙ ap (λ b. slice_index_or found i false || b) (here.1 i (omega (arith, room, m)) ∙ ap (λ b. b && f i (get_or parts k d)) (rest i m))
        ∙ ap (λ b. b || ((slice_index_or mask i false && flipped b) && f i (get_or parts k d))) (before.1 i m)
        ∙ either (slice_index_or mask i false) (list_any (f i) (take k parts)) (f i (get_or parts k d))
        ∙ ap (λ b. slice_index_or mask i false && b) (sym (list_any_more (f i) parts k d l)),
  )

  pub some_all : (k : ℕ) (old new : List Bool) → length parts ≤ k → IsNarrowed (λ i. list_any (f i) (take k parts)) old new → IsNarrowed (λ i. list_any (f i) parts) old new
  some_all k old new l is = subst (λ (ps : List X). IsNarrowed (λ i. list_any (f i) ps) old new) (take_all k parts l) is

-- the same by another test that answers alike
pub narrowed_alike : (test other : ℕ → Bool) (old new : List Bool) → ((i : ℕ) → i < length old → test i ≡ other i) → IsNarrowed test old new → IsNarrowed other old new
narrowed_alike test other old new alike is = (is.0, λ i l. is.1 i l ∙ ap (λ b. slice_index_or old i false && b) (alike i l))

-- a batch more is narrowed
pub batch_more : (test : ℕ → Bool) (old mid new : List Bool) (from count : ℕ) → IsNarrowedAt from count (λ i. test (from + i)) mid new
    → ((i : ℕ) → i < from → slice_index_or mid i false ≡ (slice_index_or old i false && test i)) → ((i : ℕ) → from ≤ i → slice_index_or mid i false ≡ slice_index_or old i false)
    → (i : ℕ) → i < from + count → slice_index_or new i false ≡ (slice_index_or old i false && test i)
batch_more test old mid new from count is done others i l = ⊎_elim
    (λ (less : i < from). is.2 i (inl less) ∙ done i less)
    (λ (more : from ≤ i).
    let here : from + (i - from) ≡ i = omega arith in
    ap (λ k. slice_index_or new k false) (sym here)
    ∙ is.1 (i - from) (omega arith)
    ∙ ap (λ k. slice_index_or mid k false && test k) here
    ∙ ap (λ b. b && test i) (others i more))
    (cases_lt i from)

pub batch_others : (test : ℕ → Bool) (old mid new : List Bool) (from count : ℕ) → IsNarrowedAt from count (λ i. test (from + i)) mid new
    → ((i : ℕ) → from ≤ i → slice_index_or mid i false ≡ slice_index_or old i false) → (i : ℕ) → from + count ≤ i → slice_index_or new i false ≡ slice_index_or old i false
batch_others test old mid new from count is others i l = is.2 i (inr l) ∙ others i (omega arith)

true_asked : (t : Truth) → is_asked true t ≡ is_true t
true_asked True = refl
true_asked False = refl
true_asked Unknown = refl

-- a mask of all rows that is narrowed to those where the predicate is True has the verdicts
pub narrowed_verdicts : (schema : Schema) (group : Group) (pred : Pred) (n : ℕ) (mask : List Bool) → n ≡ length group.rows → IsNarrowed (asks schema group true pred) (replicate n true) mask → mask ≡ verdicts schema pred group
narrowed_verdicts schema group pred n mask same is =
    let counted : length mask ≡ length group.rows = is.0 ∙ length-replicate n true ∙ same in
    ext_get_or false mask (verdicts schema pred group) (counted ∙ sym (length-map group.rows (λ row. keeps schema (Some pred) row.cells))) (λ i l.
    let there : i < length group.rows = omega (arith, counted) in
    let within : i < n = omega (arith, same) in
    let d : PackedRow = record { cells = []; begin = 0 } in
    is.1 i (omega (arith, length-replicate n true))
    ∙ ap (λ b. b && asks schema group true pred i) (get_or-replicate n i true false within)
    ∙ true_asked (truth pred (row_at group i).cells schema)
    ∙ sym (get_or-map (λ row. keeps schema (Some pred) row.cells) group.rows i d false there))

-- the verdict at a position: none past the last row
pub verdict_at : (schema : Schema) (pred : Pred) (group : Group) (i : ℕ) → slice_index_or (verdicts schema pred group) i false ≡ (nat_lt i (length group.rows) && keeps schema (Some pred) (row_at group i).cells)
verdict_at schema pred group i =
    let test : PackedRow → Bool = λ row. keeps schema (Some pred) row.cells in
    let d : PackedRow = record { cells = []; begin = 0 } in
    ⊎_elim
    (λ (there : i < length group.rows). get_or-map test group.rows i d false there ∙ sym (ap (λ b. b && test (row_at group i)) (lt-ltb i (length group.rows) there)))
    (λ (past : length group.rows ≤ i).
    get_or_past (verdicts schema pred group) i false (omega (arith, length-map group.rows test, past)) ∙ sym (ap (λ b. b && test (row_at group i)) (le-ltb i (length group.rows) past)))
    (cases_lt i (length group.rows))

pub from_false : (b : Bool) (P : Type 0) → OnFalse b P → b ≡ false → P
from_false true P f e = absurd (true≢false e)
from_false false P f e = f

-- a call that narrows by a test narrows by another that answers alike
pub ok_alike : {E : Type 0} (r : Result (Unit {0}) E) (test other : ℕ → Bool) (old mid new : List Bool) → mid ≡ old → ((i : ℕ) → test i ≡ other i) → OnOk r (IsNarrowed test mid new) → OnOk r (IsNarrowed other old new)
ok_alike (Ok x) test other old mid new same alike is = narrowed_alike test other old new (λ i l. alike i) (subst (λ (m : List Bool). IsNarrowed test m new) same is)
ok_alike (Err e) test other old mid new same alike is = tt

-- a vector whose slice is written whole
pub written_whole : (len : ℕ) (items new : List Bool) → len ≡ length items → length new ≡ length items → take len (new ++ drop (length new) items) ≡ new
written_whole len items new counted same =
    ap (λ k. take len (new ++ drop k items)) same ∙ ap (λ rest. take len (new ++ rest)) (drop-length items) ∙ ap (take len) (append-nil new) ∙ take_all len new (omega arith)

-- places from one on are narrowed alike by another test that answers alike
pub narrowed_at_alike : (from count : ℕ) (test other : ℕ → Bool) (old new : List Bool) → ((i : ℕ) → i < count → test i ≡ other i) → IsNarrowedAt from count test old new → IsNarrowedAt from count other old new
narrowed_at_alike from count test other old new alike is = (is.0, (λ i l. is.1 i l ∙ ap (λ b. slice_index_or old (from + i) false && b) (alike i l)), is.2)
