-- Where the OPEN group stands.
use Rattle.std.proofs.Common.{◌≡◌, ℕ, zero, suc, ◌<◌, ◌≤◌, ◌+◌, Bool, true, false, cond, ltb, List, [], ◌∷◌, filter, length, get_or, Option, None, Some, refl, sym, ap, ◌∙◌, arith}
use Rattle.std.specs.Prelude.{◌≢◌, slice_get, position}
use Rattle.std.specs.List.{position_or_len}
use Rattle.std.specs.Option.{option_map}
use Rattle.std.proofs.lemmas.Bool.{ltb-false}
use Rattle.std.proofs.lemmas.List.Elements.{recursion_from_All}
use Rattle.std.proofs.lemmas.List.Quantifiers.{position-Some}
use Rattle.std.proofs.lemmas.List.Sums.{fails_before_first}
use Rattle.std.proofs.lemmas.Option.{slice_get-get_or, get_or_from_slice_get, slice_get_within}
use Rattle.group_view.specs.declared.groups.Group.{Group}
use Rattle.group_book.specs.Book.{how_many}
use Rattle.group_book.proofs.Lists.{how_many-none, how_many-some}
use Rattle.group_book.proofs.Sized.{count_filter}
use Rattle.group_view.specs.Lists.{is_open, IsOpenAt}

abbrev pub opens : Group → Bool
opens group = is_open group.content

-- ---- at most one

none_open : (gs : List Group) → ((k : ℕ) (g : Group) → slice_get gs k ≡ Some g → opens g ≡ false) → how_many opens gs ≡ 0
none_open [] all = refl
none_open (g ∷ gs) all = let no : opens g ≡ false = all 0 g refl in rw (no, none_open gs (λ k h at. all (suc k) h at)) refl

pub one_open : (gs : List Group) (opened : Option ℕ) → IsOpenAt gs opened → how_many opens gs ≤ 1
one_open gs None all = let none = how_many-none opens gs (recursion_from_All (λ g. opens g ≡ false) gs all) in omega (arith, none)
one_open [] (Some at) h = let here = h.0 in cc
one_open (g ∷ gs) (Some zero) h =
    let none = none_open gs (λ k other at. h.1 (suc k) (λ e. omega (arith, e)) other at) in
    step (opens g) none
  where
    step : (t : Bool) → how_many opens gs ≡ 0 → cond t 1 0 + how_many opens gs ≤ 1
    step true none = omega (arith, none)
    step false none = omega (arith, none)
one_open (g ∷ gs) (Some (suc n)) h =
    let no : opens g ≡ false = h.1 0 (λ e. omega (arith, e)) g refl in
    let rest = one_open gs (Some n) (h.0, λ k apart other at. h.1 (suc k) (λ e. apart (omega (arith, e))) other at) in
    rw no (omega (arith, rest))

-- ---- the first one

-- a second one is none
apart_closed : (gs : List Group) (i j : ℕ) (d g : Group) → how_many opens gs ≤ 1 → i < length gs → opens (get_or gs i d) ≡ true → j ≢ i → slice_get gs j ≡ Some g → opens g ≡ false
apart_closed [] i j d g one inside here apart at = absurd (omega (arith, inside))
apart_closed (x ∷ xs) zero zero d g one inside here apart at = absurd (apart refl)
apart_closed (x ∷ xs) zero (suc j) d g one inside here apart at = step (opens g) refl
  where
    step : (t : Bool) → opens g ≡ t → t ≡ false
    step true is =
        let more = how_many-some opens xs j d (slice_get_within xs j g at) (ap opens (get_or_from_slice_get xs j g d at) ∙ is) in
        let two = rw here at one in
        absurd (omega (arith, more, two))
    step false is = refl
apart_closed (x ∷ xs) (suc i) zero d g one inside here apart at = step (opens x) refl
  where
    step : (t : Bool) → opens x ≡ t → opens g ≡ false
    step true is =
        let more = how_many-some opens xs i d (omega (arith, inside)) here in
        let two = rw is at one in
        absurd (omega (arith, more, two))
    step false is = let same : x ≡ g = cc in ap opens (sym same) ∙ is
apart_closed (x ∷ xs) (suc i) (suc j) d g one inside here apart at = apart_closed xs i j d g (omega (arith, one)) (omega (arith, inside)) here (λ e. apart (ap suc e)) at

-- where none passes, none is found
pub none_found : {X : Type 0} (p : X → Bool) (xs : List X) → position p xs ≡ None → (k : ℕ) (d : X) → k < length xs → p (get_or xs k d) ≡ false
none_found p xs h k d inside = step (ltb (position_or_len p xs) (length xs)) refl h
  where
    step : (t : Bool) → ltb (position_or_len p xs) (length xs) ≡ t → cond t (Some (position_or_len p xs)) None ≡ None → p (get_or xs k d) ≡ false
    step true is h = cc
    step false is h = let le = ltb-false (position_or_len p xs) (length xs) is in fails_before_first p xs k d (omega (arith, inside, le))

pub open_here : (gs : List Group) (opened : Option ℕ) → position opens gs ≡ opened → how_many opens gs ≤ 1 → IsOpenAt gs opened
open_here gs None at one = λ k d inside. none_found opens gs at k d inside
open_here [] (Some i) at one = absurd (cc at)
open_here (g ∷ gs) (Some i) at one =
    let found = position-Some opens (g ∷ gs) i g at in
    (ap (option_map opens) (slice_get-get_or (g ∷ gs) i g found.0) ∙ ap Some found.1, λ k apart other there. apart_closed (g ∷ gs) i k g other one found.0 found.1 apart there)

-- where some go, the first of those left
pub open-filter : (p : Group → Bool) (gs : List Group) (opened : Option ℕ) → IsOpenAt gs opened → IsOpenAt (filter p gs) (position opens (filter p gs))
open-filter p gs opened h = open_here (filter p gs) (position opens (filter p gs)) refl (let one = one_open gs opened h in omega (arith, one, count_filter opens p gs))
