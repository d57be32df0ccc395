-- Sets of positions, by what is put in and what is left.
use Rattle.std.proofs.Common.{◌≡◌, ℕ, ◌<◌, Bool, true, false, not, List, [], ◌∷◌, length, get_or, map, replicate, set, refl, sym, ap, ◌∙◌, inl, inr, arith}
use Rattle.std.specs.Prelude.{◌&&◌, ◌||◌, Option}
use Rattle.std.proofs.lemmas.Bool.{cases_eq, eq-eqb, ne_eqb}
use Rattle.std.proofs.lemmas.List.{get_or-map, get_or-replicate, get_or-set_other, get_or-set_same, length-map, length-replicate, length-set}
use Rattle.delete_bitmap.specs.declared.MarkedEnd.{MarkedEnd}
use Rattle.delete_bitmap.specs.Bits.{with_all}
use Rattle.delete_bitmap.specs.Marks.{end_at, is_removable}
use Rattle.row_group.specs.Groups.{Group, row_at}
use Rattle.row_group.specs.Fields.{AreStamps}
use Rattle.batch_scan.specs.Hidden.{is_one_of}
use Rattle.batch_scan.proofs.Added.{begins_are, or_false, or_true}

pub length-with_all : (ps : List ℕ) (bits : List Bool) → length (with_all ps bits) ≡ length bits
length-with_all [] bits = refl
length-with_all (p ∷ ps) bits = length-with_all ps (set bits p true) ∙ length-set bits p true

-- the set with positions has them and what it had
pub with_all-has : (ps : List ℕ) (bits : List Bool) (p : ℕ) → p < length bits → get_or (with_all ps bits) p false ≡ (get_or bits p false || is_one_of ps p)
with_all-has [] bits p below = sym (or_false (get_or bits p false))
with_all-has (q ∷ ps) bits p below = with_all-has ps (set bits q true) p (omega (arith, below, length-set bits q true)) ∙ elim (cases_eq q p) [
  | inl same ↦
      ap (λ (b : Bool). b || is_one_of ps p) (ap (λ k. get_or (set bits q true) k false) (sym same) ∙ get_or-set_same bits q true false (omega (arith, below, same)))
      ∙ sym (ap (λ (b : Bool). get_or bits p false || (b || is_one_of ps p)) (eq-eqb q p same) ∙ or_true (get_or bits p false))
  | inr other ↦
      ap (λ (b : Bool). b || is_one_of ps p) (get_or-set_other bits q p true false (λ e. other (sym e)))
      ∙ sym (ap (λ (b : Bool). get_or bits p false || (b || is_one_of ps p)) (ne_eqb q p other))
]

module _ (s : ℕ) (hidden : List ℕ) (marks : List (Option MarkedEnd)) (n : ℕ) (sized : n ≡ length marks) (ended left : List Bool) (same : length ended ≡ length (with_all hidden (replicate n false)))
    (each : (p : ℕ) → get_or ended p false ≡ (get_or (with_all hidden (replicate n false)) p false || is_removable s (end_at marks p))) (is : left ≡ map not ended) where
  length-ended : length ended ≡ length marks
  length-ended = same ∙ length-with_all hidden (replicate n false) ∙ length-replicate n false ∙ sized

  pub length-left : length left ≡ length marks
  length-left = ap length is ∙ length-map ended not ∙ length-ended

  -- what is neither put in nor ended is left
  pub left_is : (p : ℕ) → p < length marks → get_or left p false ≡ not (is_one_of hidden p || is_removable s (end_at marks p))
  left_is p below =
      ap (λ bits. get_or bits p false) is ∙ get_or-map not ended p false false (omega (arith, below, length-ended))
      ∙ ap not (each p ∙ ap (λ (b : Bool). b || is_removable s (end_at marks p))
      (with_all-has hidden (replicate n false) p (omega (arith, below, sized, length-replicate n false))
      ∙ ap (λ (b : Bool). b || is_one_of hidden p) (get_or-replicate n p false false (omega (arith, below, sized)))))

-- none is one of none
pub none_of : (positions : List ℕ) → length positions ≡ 0 → (p : ℕ) → is_one_of positions p ≡ false
none_of [] none p = refl
none_of (q ∷ positions) none p = absurd (omega (arith, none))

-- without stamps each begin is the base
pub all_late : (s : ℕ) (group : Group) (stamps : List (ℕ × ℕ)) → AreStamps (map (λ row. row.begin) group.rows) group.base stamps → length stamps ≡ 0 → s < group.base → (p : ℕ) → p < length group.rows → s < (row_at group p).begin
all_late s group [] are none above p below = let is = begins_are s group [] are p below in omega (arith, is, above)
all_late s group (stamp ∷ stamps) are none above p below = absurd (omega (arith, none))

-- a set into which positions are put has these
pub put_in : (count : ℕ) (ps : List ℕ) (none set : List Bool) → none ≡ replicate count false → set ≡ with_all ps none → (p : ℕ) → p < count → get_or set p false ≡ is_one_of ps p
put_in count ps none set empty is p below =
    ap (λ bits. get_or bits p false) (is ∙ ap (with_all ps) empty)
    ∙ with_all-has ps (replicate count false) p (omega (arith, below, length-replicate count false))
    ∙ ap (λ (b : Bool). b || is_one_of ps p) (get_or-replicate count p false false below)

pub length-put_in : (count : ℕ) (ps : List ℕ) (none set : List Bool) → none ≡ replicate count false → set ≡ with_all ps none → length set ≡ count
length-put_in count ps none set empty is = ap length (is ∙ ap (with_all ps) empty) ∙ length-with_all ps (replicate count false) ∙ length-replicate count false

-- what is not in either complement is in both sets
pub both_is : (first second either other joined both : List Bool) → either ≡ map not first → other ≡ map not second → length joined ≡ length either → ((p : ℕ) → get_or joined p false ≡ (get_or either p false || get_or other p false))
    → both ≡ map not joined → length first ≡ length second → (p : ℕ) → p < length first → get_or both p false ≡ (get_or first p false && get_or second p false)
both_is first second either other joined both either_is other_is long joins is same p below =
    let wide : length joined ≡ length first = long ∙ ap length either_is ∙ length-map first not in
    ap (λ bits. get_or bits p false) is ∙ get_or-map not joined p false false (omega (arith, below, wide))
    ∙ ap not (joins p)
    ∙ ap (λ (b : Bool). not (b || get_or other p false)) (ap (λ bits. get_or bits p false) either_is ∙ get_or-map not first p false false below)
    ∙ ap (λ (b : Bool). not (not (get_or first p false) || b)) (ap (λ bits. get_or bits p false) other_is ∙ get_or-map not second p false false (omega (arith, below, same)))
    ∙ de_morgan (get_or first p false) (get_or second p false)
  where
    de_morgan : (a b : Bool) → not (not a || not b) ≡ (a && b)
    de_morgan true true = refl
    de_morgan true false = refl
    de_morgan false b = refl
