-- The ends that bits and stamps stand for.
use Rattle.std.proofs.Common.{◌≡◌, ◌≢◌, ℕ, zero, suc, ◌+◌, ◌<◌, inl, inr, Bool, true, false, not, cond, leb, ltb, List, [], ◌∷◌, length, get_or, map, replicate, set, Option, None, Some, All, AllPairs, refl, sym, ap, ◌∙◌, arith}
use Rattle.std.specs.List.{count_by, filter, insert, slice_get}
use Rattle.std.proofs.lemmas.Bool.{cases_lt}
use Rattle.std.proofs.lemmas.Bool.Decides.{nat_tests}
use Rattle.std.proofs.lemmas.List.{length-map, length-set, get_or_past, get_or-map, get_or-set_same, get_or-set_other, map-set, set-set, set_comm, set-get_or}
use Rattle.std.proofs.lemmas.List.Elements.{All-head, All-tail, All-filter}
use Rattle.std.proofs.lemmas.List.Kept.{AllPairs-filter}
use Rattle.std.proofs.lemmas.List.Sums.{sum_by-cons, sum_by-set}
use Rattle.delete_bitmap.specs.declared.MarkedEnd.{MarkedEnd}
use Rattle.delete_bitmap.specs.declared.MarkedEnd.TheVariants.{Plain, Stamped}
use Rattle.std.proofs.lemmas.Option.{get_or_from_slice_get, slice_get_within, unwrap_or-slice_get}
use Rattle.delete_bitmap.specs.Marks.{end_at, settled, is_settling, is_removable, is_marked}
use Rattle.delete_bitmap.specs.Kept.{Stamp, plain_end, ends_of, is_above, AreInOrder, AreKept, HasNone, no_stamp, IsStampAt}

-- the end of a version, if it has one
abbrev pub End : Type 0
End = Option MarkedEnd

-- the bit of the stamp is set
abbrev pub IsSetIn : List Bool → Stamp → Type 0
IsSetIn bits s = get_or bits s.0 false ≡ true

-- the bits of the stamps are set
abbrev pub AreMarked : List Bool → List Stamp → Type 0
AreMarked bits stamps = All (IsSetIn bits) stamps

-- the stamp is of another position
abbrev pub IsApart : ℕ → Stamp → Type 0
IsApart p s = s.0 ≢ p

-- there are as many ends as bits
pub length-ends_of : (stamps : List Stamp) (bits : List Bool) → length (ends_of stamps bits) ≡ length bits
length-ends_of [] bits = length-map bits plain_end
length-ends_of (s ∷ rest) bits = length-set (ends_of rest bits) s.0 (Some (Stamped s.1)) ∙ length-ends_of rest bits

-- stamps in order are so after the first, and stand at other positions than it
pub in_order_tail : (s : Stamp) (rest : List Stamp) → AreInOrder (s ∷ rest) → AreInOrder rest
in_order_tail s rest up i j d less there = up (suc i) (suc j) d (omega arith) (omega arith)

pub later : (s : Stamp) (rest : List Stamp) → AreInOrder (s ∷ rest) → HasNone s.0 rest
later s rest up k d there same = let less = up 0 (suc k) d (omega arith) (omega arith) in absurd (omega arith)

-- a bit that is set stands at a position that is there
pub set_within : (bits : List Bool) (p : ℕ) → get_or bits p false ≡ true → p < length bits
set_within bits p is = elim (cases_lt p (length bits)) [ inl there ↦ there | inr past ↦ absurd (differ (sym (get_or_past bits p false past) ∙ is)) ]
  where
    differ : false ≡ true → ⊥
    differ e = cc

-- where no stamp is, the end is that of the bit
pub at_bit : (stamps : List Stamp) (bits : List Bool) (p : ℕ) → HasNone p stamps → get_or (ends_of stamps bits) p None ≡ plain_end (get_or bits p false)
at_bit [] bits p none = elim (cases_lt p (length bits)) [
  | inl there ↦ get_or-map plain_end bits p false None there
  | inr past ↦ get_or_past (map plain_end bits) p None (omega (arith, length-map bits plain_end)) ∙ sym (ap plain_end (get_or_past bits p false past))
]
at_bit (s ∷ rest) bits p none =
    let apart = All-head (IsApart p) s rest none in
    get_or-set_other (ends_of rest bits) s.0 p (Some (Stamped s.1)) None (λ e. apart (sym e))
    ∙ at_bit rest bits p (All-tail (IsApart p) s rest none)

-- the stamps are of different positions
abbrev pub AreApart : List Stamp → Type 0
AreApart stamps = AllPairs (λ s t. s.0 ≢ t.0) stamps

pub AreApart-order : (stamps : List Stamp) → AreInOrder stamps → AreApart stamps
AreApart-order stamps up i j d less there same = let before = up i j d less there in absurd (omega arith)

-- at a stamp it is the stamp's
pub at_apart : (stamps : List Stamp) (bits : List Bool) (k : ℕ) (d : Stamp) → AreApart stamps → AreMarked bits stamps → k < length stamps
    → get_or (ends_of stamps bits) (get_or stamps k d).0 None ≡ Some (Stamped (get_or stamps k d).1)
at_apart [] bits k d apart marked there = absurd (omega arith)
at_apart (s ∷ rest) bits zero d apart marked there =
    get_or-set_same (ends_of rest bits) s.0 (Some (Stamped s.1)) None
    (omega (arith, length-ends_of rest bits, set_within bits s.0 (All-head (IsSetIn bits) s rest marked)))
at_apart (s ∷ rest) bits (suc k) d apart marked there =
    get_or-set_other (ends_of rest bits) s.0 (get_or rest k d).0 (Some (Stamped s.1)) None (λ same. apart 0 (suc k) d (omega arith) there (sym same))
    ∙ at_apart rest bits k d (λ i j e less inside. apart (suc i) (suc j) e (omega arith) (omega arith)) (All-tail (IsSetIn bits) s rest marked) (omega arith)

pub at_stamp : (stamps : List Stamp) (bits : List Bool) (k : ℕ) (d : Stamp) → AreInOrder stamps → AreMarked bits stamps → k < length stamps
    → get_or (ends_of stamps bits) (get_or stamps k d).0 None ≡ Some (Stamped (get_or stamps k d).1)
at_stamp stamps bits k d up marked there = at_apart stamps bits k d (AreApart-order stamps up) marked there

-- under a stamp lies a plain end
pub plain_under : (s : Stamp) (rest : List Stamp) (bits : List Bool) → HasNone s.0 rest → get_or bits s.0 false ≡ true → get_or (ends_of rest bits) s.0 None ≡ Some Plain
plain_under s rest bits none is = at_bit rest bits s.0 none ∙ ap plain_end is

-- a position without an end has neither bit nor stamp
pub record IsFree (stamps : List Stamp) (bits : List Bool) (p : ℕ) : Type 0 where
  pub within : p < length bits
  pub unset : get_or bits p false ≡ false
  pub none : HasNone p stamps

pub IsFree-unmarked : (stamps : List Stamp) (bits : List Bool) (p : ℕ) → AreInOrder stamps → AreMarked bits stamps → slice_get (ends_of stamps bits) p ≡ Some None → IsFree stamps bits p
IsFree-unmarked stamps bits p up marked free = record {
  within = omega (arith, length-ends_of stamps bits, slice_get_within (ends_of stamps bits) p None free);
  unset = bit (get_or bits p false) (sym (at_bit stamps bits p none) ∙ is);
  none = none;
}
  where
    is : get_or (ends_of stamps bits) p None ≡ None
    is = get_or_from_slice_get (ends_of stamps bits) p None None free

    differ : (c : ℕ) → Some (Stamped c) ≡ None → ⊥
    differ c e = cc

    none : HasNone p stamps
    none k d there same = differ (get_or stamps k d).1 (sym (at_stamp stamps bits k d up marked there) ∙ ap (λ q. get_or (ends_of stamps bits) q None) same ∙ is)

    bit : (b : Bool) → plain_end b ≡ None → b ≡ false
    bit true e = cc
    bit false e = refl

-- a bit that is not set has no stamp
unset-none : (stamps : List Stamp) (bits : List Bool) (p : ℕ) → AreMarked bits stamps → get_or bits p false ≡ false → HasNone p stamps
unset-none stamps bits p marked unset k d there same = differ (sym (marked k d there) ∙ ap (λ q. get_or bits q false) same ∙ unset)
  where
    differ : true ≡ false → ⊥
    differ e = cc

-- the end at a position: none where its bit is not set, a plain one where it has no stamp, and else the stamp's
pub end-unset : (stamps : List Stamp) (bits : List Bool) (p : ℕ) → AreMarked bits stamps → get_or bits p false ≡ false → end_at (ends_of stamps bits) p ≡ None
end-unset stamps bits p marked unset =
    unwrap_or-slice_get (ends_of stamps bits) p None ∙ at_bit stamps bits p (unset-none stamps bits p marked unset) ∙ ap plain_end unset

pub end-plain : (stamps : List Stamp) (bits : List Bool) (p : ℕ) → HasNone p stamps → get_or bits p false ≡ true → end_at (ends_of stamps bits) p ≡ Some Plain
end-plain stamps bits p none is = unwrap_or-slice_get (ends_of stamps bits) p None ∙ at_bit stamps bits p none ∙ ap plain_end is

pub end-stamp : (stamps : List Stamp) (bits : List Bool) (p place : ℕ) → AreInOrder stamps → AreMarked bits stamps → IsStampAt stamps p place
    → end_at (ends_of stamps bits) p ≡ Some (Stamped (get_or stamps place no_stamp).1)
end-stamp stamps bits p place up marked at =
    unwrap_or-slice_get (ends_of stamps bits) p None ∙ ap (λ q. get_or (ends_of stamps bits) q None) (sym at.is_of) ∙ at_stamp stamps bits place no_stamp up marked at.there

-- a bit that is set under stamps of other positions is a plain end
pub ends_of-set : (stamps : List Stamp) (bits : List Bool) (p : ℕ) → HasNone p stamps → ends_of stamps (set bits p true) ≡ set (ends_of stamps bits) p (Some Plain)
ends_of-set [] bits p none = map-set plain_end bits p true
ends_of-set (s ∷ rest) bits p none =
    ap (λ (ends : List End). set ends s.0 (Some (Stamped s.1))) (ends_of-set rest bits p (All-tail (IsApart p) s rest none))
    ∙ set_comm (ends_of rest bits) p s.0 (Some Plain) (Some (Stamped s.1)) (λ e. All-head (IsApart p) s rest none (sym e))

-- a new stamp at any place sets the end of its position
pub ends_of-insert : (stamps : List Stamp) (bits : List Bool) (place p commit : ℕ) → HasNone p stamps
    → ends_of (insert stamps place (p, commit)) (set bits p true) ≡ set (ends_of stamps bits) p (Some (Stamped commit))
ends_of-insert stamps bits zero p commit none =
    ap (λ (ends : List End). set ends p (Some (Stamped commit))) (ends_of-set stamps bits p none) ∙ set-set (ends_of stamps bits) p (Some Plain) (Some (Stamped commit))
ends_of-insert [] bits (suc place) p commit none =
    ap (λ (ends : List End). set ends p (Some (Stamped commit))) (ends_of-set [] bits p none) ∙ set-set (ends_of [] bits) p (Some Plain) (Some (Stamped commit))
ends_of-insert (s ∷ rest) bits (suc place) p commit none =
    ap (λ (ends : List End). set ends s.0 (Some (Stamped s.1))) (ends_of-insert rest bits place p commit (All-tail (IsApart p) s rest none))
    ∙ set_comm (ends_of rest bits) p s.0 (Some (Stamped commit)) (Some (Stamped s.1)) (λ e. All-head (IsApart p) s rest none (sym e))

-- plain ends stay as they are
settled-plain : (floor : ℕ) (bits : List Bool) → map (settled floor) (map plain_end bits) ≡ map plain_end bits
settled-plain floor [] = refl
settled-plain floor (true ∷ bits) = ap (λ (ends : List End). Some Plain ∷ ends) (settled-plain floor bits)
settled-plain floor (false ∷ bits) = ap (λ (ends : List End). None ∷ ends) (settled-plain floor bits)

-- a commit is above the floor where it is not at most the floor
pub above-leb : (floor commit : ℕ) → ltb floor commit ≡ not (leb commit floor)
above-leb floor commit = grind (arith, nat_tests)

-- to settle the ends is to drop the stamps that are not above the floor
pub settled-ends_of : (floor : ℕ) (stamps : List Stamp) (bits : List Bool) → AreInOrder stamps → AreMarked bits stamps
    → ends_of (filter (is_above floor) stamps) bits ≡ map (settled floor) (ends_of stamps bits)
settled-ends_of floor [] bits up marked = sym (settled-plain floor bits)
settled-ends_of floor (s ∷ rest) bits up marked =
    ap (λ (t : Bool). ends_of (cond t (s ∷ filter (is_above floor) rest) (filter (is_above floor) rest)) bits) (above-leb floor s.1)
    ∙ step (settled-ends_of floor rest bits (in_order_tail s rest up) (All-tail (IsSetIn bits) s rest marked)) (leb s.1 floor) refl
  where
    under : get_or (ends_of (filter (is_above floor) rest) bits) s.0 None ≡ Some Plain
    under =
        plain_under s (filter (is_above floor) rest) bits (All-filter (is_above floor) (IsApart s.0) rest (later s rest up))
        (All-head (IsSetIn bits) s rest marked)

    step : ends_of (filter (is_above floor) rest) bits ≡ map (settled floor) (ends_of rest bits) → (t : Bool) → leb s.1 floor ≡ t
        → ends_of (cond (not t) (s ∷ filter (is_above floor) rest) (filter (is_above floor) rest)) bits ≡ map (settled floor) (set (ends_of rest bits) s.0 (Some (Stamped s.1)))
    step rest_is true is =
        sym (
        map-set (settled floor) (ends_of rest bits) s.0 (Some (Stamped s.1))
        ∙ ap (λ (t : Bool). set (map (settled floor) (ends_of rest bits)) s.0 (cond t (Some Plain) (Some (Stamped s.1)))) is
        ∙ ap (λ (ends : List End). set ends s.0 (Some Plain)) (sym rest_is)
        ∙ ap (λ (end : End). set (ends_of (filter (is_above floor) rest) bits) s.0 end) (sym under)
        ∙ set-get_or (ends_of (filter (is_above floor) rest) bits) s.0 None)
    step rest_is false is =
        sym (
        map-set (settled floor) (ends_of rest bits) s.0 (Some (Stamped s.1))
        ∙ ap (λ (t : Bool). set (map (settled floor) (ends_of rest bits)) s.0 (cond t (Some Plain) (Some (Stamped s.1)))) is
        ∙ ap (λ (ends : List End). set ends s.0 (Some (Stamped s.1))) (sym rest_is))

-- a stamp changes a count by what its end counts in place of a plain one
count_stamp : (p : End → Bool) (s : Stamp) (rest : List Stamp) (bits : List Bool) → AreInOrder (s ∷ rest) → AreMarked bits (s ∷ rest)
    → count_by p (ends_of (s ∷ rest) bits) + cond (p (Some Plain)) 1 0 ≡ count_by p (ends_of rest bits) + cond (p (Some (Stamped s.1))) 1 0
count_stamp p s rest bits up marked =
    let is = All-head (IsSetIn bits) s rest marked in
    let within : s.0 < length (ends_of rest bits) = omega (arith, length-ends_of rest bits, set_within bits s.0 is) in
    ap (λ (end : End). count_by p (ends_of (s ∷ rest) bits) + cond (p end) 1 0) (sym (plain_under s rest bits (later s rest up) is))
    ∙ sum_by-set (λ (end : End). cond (p end) 1 0) (ends_of rest bits) s.0 (Some (Stamped s.1)) None within

-- a test that plain ends pass and none fails counts the bits that are set
count-plain : (p : End → Bool) → p (Some Plain) ≡ true → p None ≡ false → (bits : List Bool) → count_by p (map plain_end bits) ≡ count_by (λ (bit : Bool). bit) bits
count-plain p plain none [] = refl
count-plain p plain none (true ∷ bits) =
    sum_by-cons (λ (end : End). cond (p end) 1 0) (Some Plain) (map plain_end bits) ∙ rw (plain, count-plain p plain none bits) refl
    ∙ sym (sum_by-cons (λ (bit : Bool). cond bit 1 0) true bits)
count-plain p plain none (false ∷ bits) =
    sum_by-cons (λ (end : End). cond (p end) 1 0) None (map plain_end bits) ∙ rw (none, count-plain p plain none bits) refl
    ∙ sym (sum_by-cons (λ (bit : Bool). cond bit 1 0) false bits)

-- a test that both fail counts nothing
count-none : (p : End → Bool) → p (Some Plain) ≡ false → p None ≡ false → (bits : List Bool) → count_by p (map plain_end bits) ≡ 0
count-none p plain none [] = refl
count-none p plain none (true ∷ bits) = sum_by-cons (λ (end : End). cond (p end) 1 0) (Some Plain) (map plain_end bits) ∙ rw (plain, count-none p plain none bits) refl
count-none p plain none (false ∷ bits) = sum_by-cons (λ (end : End). cond (p end) 1 0) None (map plain_end bits) ∙ rw (none, count-none p plain none bits) refl

-- each bit that is set is an end
pub count-marked : (stamps : List Stamp) (bits : List Bool) → AreInOrder stamps → AreMarked bits stamps → count_by is_marked (ends_of stamps bits) ≡ count_by (λ (bit : Bool). bit) bits
count-marked [] bits up marked = count-plain is_marked refl refl bits
count-marked (s ∷ rest) bits up marked =
    let stamp = count_stamp is_marked s rest bits up marked in
    let before = count-marked rest bits (in_order_tail s rest up) (All-tail (IsSetIn bits) s rest marked) in
    omega (arith, stamp, before)

-- how many stamps are above the floor
abbrev pub above_in : ℕ → List Stamp → ℕ
above_in floor stamps = count_by (is_above floor) stamps

above-cons : (floor : ℕ) (s : Stamp) (rest : List Stamp) → above_in floor (s ∷ rest) ≡ cond (not (leb s.1 floor)) 1 0 + above_in floor rest
above-cons floor s rest =
    sum_by-cons (λ (t : Stamp). cond (is_above floor t) 1 0) s rest ∙ ap (λ (t : Bool). cond t 1 0 + above_in floor rest) (above-leb floor s.1)

-- the ends that settle are those of the stamps that are not above the floor
pub count-settling : (floor : ℕ) (stamps : List Stamp) (bits : List Bool) → AreInOrder stamps → AreMarked bits stamps
    → count_by (is_settling floor) (ends_of stamps bits) + length (filter (is_above floor) stamps) ≡ length stamps
count-settling floor [] bits up marked = rw (count-none (is_settling floor) refl refl bits) refl
count-settling floor (s ∷ rest) bits up marked =
    ap (λ (t : Bool). count_by (is_settling floor) (ends_of (s ∷ rest) bits) + length (cond t (s ∷ filter (is_above floor) rest) (filter (is_above floor) rest))) (above-leb floor s.1)
    ∙ step (count-settling floor rest bits (in_order_tail s rest up) (All-tail (IsSetIn bits) s rest marked)) (leb s.1 floor) (count_stamp (is_settling floor) s rest bits up marked)
  where
    step : count_by (is_settling floor) (ends_of rest bits) + length (filter (is_above floor) rest) ≡ length rest
        → (t : Bool) → count_by (is_settling floor) (ends_of (s ∷ rest) bits) + 0 ≡ count_by (is_settling floor) (ends_of rest bits) + cond t 1 0
        → count_by (is_settling floor) (ends_of (s ∷ rest) bits) + length (cond (not t) (s ∷ filter (is_above floor) rest) (filter (is_above floor) rest)) ≡ length (s ∷ rest)
    step before true stamp = omega (arith, stamp, before)
    step before false stamp = omega (arith, stamp, before)

-- all ends are removable but those of the stamps above the floor
pub count-removable : (floor : ℕ) (stamps : List Stamp) (bits : List Bool) → AreInOrder stamps → AreMarked bits stamps
    → count_by (is_removable floor) (ends_of stamps bits) + above_in floor stamps ≡ count_by (λ (bit : Bool). bit) bits
count-removable floor [] bits up marked = rw (count-plain (is_removable floor) refl refl bits) (omega arith)
count-removable floor (s ∷ rest) bits up marked =
    step (count-removable floor rest bits (in_order_tail s rest up) (All-tail (IsSetIn bits) s rest marked)) (leb s.1 floor) (count_stamp (is_removable floor) s rest bits up marked) (above-cons floor s rest)
  where
    step : count_by (is_removable floor) (ends_of rest bits) + above_in floor rest ≡ count_by (λ (bit : Bool). bit) bits
        → (t : Bool) → count_by (is_removable floor) (ends_of (s ∷ rest) bits) + 1 ≡ count_by (is_removable floor) (ends_of rest bits) + cond t 1 0
        → above_in floor (s ∷ rest) ≡ cond (not t) 1 0 + above_in floor rest
        → count_by (is_removable floor) (ends_of (s ∷ rest) bits) + above_in floor (s ∷ rest) ≡ count_by (λ (bit : Bool). bit) bits
    step before true stamp above = omega (arith, stamp, above, before)
    step before false stamp above = omega (arith, stamp, above, before)

map-replicate : (n : ℕ) → map plain_end (replicate n false) ≡ replicate n None
map-replicate zero = refl
map-replicate (suc n) = ap (λ (ends : List End). None ∷ ends) (map-replicate n)

-- without a bit that is set and without stamps there is no end
pub ends_of-none : (n : ℕ) → ends_of [] (replicate n false) ≡ replicate n None
ends_of-none n = map-replicate n

-- stamps that are dropped leave what is kept true
pub AreKept-filter : (floor : ℕ) (bits : List Bool) (stamps : List Stamp) (count : ℕ) → AreKept bits stamps count → AreKept bits (filter (is_above floor) stamps) count
AreKept-filter floor bits stamps count kept = record {
  in_order = AllPairs-filter (λ (s t : Stamp). s.0 < t.0) (is_above floor) stamps kept.in_order;
  marked = All-filter (is_above floor) (IsSetIn bits) stamps kept.marked;
  counted = kept.counted;
}
