-- The exponent of the numbers so far, as a loop goes on.
use Rattle.std.proofs.Common.{◌≡◌, ◌≢◌, ℕ, ◌≤◌, ◌⊎◌, inl, inr, List, [], ◌∷◌, ◌++◌, get_or, take, drop, refl, sym, ◌∙◌, ap, subst, arith, Option, ℤ, pos, ◌≤ℤ◌, All, length-append}
use Rattle.std.proofs.lemmas.Int.{ints}
use Rattle.std.proofs.lemmas.List.{take-append-drop, get_or_append_left}
use Rattle.std.proofs.lemmas.List.Elements.{All-push, All-nil, All-weaker, filter_map-append}
use Rattle.segment_value.specs.Scales.{numbers_in, Divides, IsCommonExponent, IsExponent, AreBounds}
use Rattle.segment_value.proofs.Cells.{All-front, All-last}
use Rattle.segment_value.proofs.Powers.{Divides-less, Divides-none}

pub IsCommonExponent-none : IsCommonExponent [] 18
IsCommonExponent-none = record { most = omega arith; divides = All-nil (Divides 18); greatest = λ d l _. l }

pub IsCommonExponent-push : (ns : List ℤ) (n : ℤ) (e f : ℕ) → IsCommonExponent ns e → f ≤ e → Divides f n → ((d : ℕ) → d ≤ e → Divides d n → d ≤ f) → IsCommonExponent (ns ++ n ∷ []) f
IsCommonExponent-push ns n e f is less divides greatest = record {
  most = let most = is.most in omega arith;
  divides = All-push (Divides f) ns n (All-weaker (Divides e) (Divides f) (λ m h. Divides-less f e m less h) ns is.divides) divides;
  greatest = λ d l all. greatest d (is.greatest d l (All-front (Divides d) ns n all)) (All-last (Divides d) ns n all);
}

-- once the exponent is 0 it stays so
pub IsCommonExponent-least : (cells : List (Option ℤ)) (i : ℕ) → IsCommonExponent (numbers_in (take i cells)) 0 → IsCommonExponent (numbers_in cells) 0
IsCommonExponent-least cells i is = record {
  most = omega arith;
  divides = λ k d l. Divides-none (get_or (numbers_in cells) k d);
  greatest = λ d l all. is.greatest d l (front d all);
}
  where
    parts : numbers_in cells ≡ numbers_in (take i cells) ++ numbers_in (drop i cells)
    parts = ap numbers_in (sym (take-append-drop i cells)) ∙ filter_map-append (λ c. c) (take i cells) (drop i cells)

    front : (d : ℕ) → All (Divides d) (numbers_in cells) → All (Divides d) (numbers_in (take i cells))
    front d all = λ k e low.
        let P : List ℤ → Type 0 = λ l. All (Divides d) l in
        let Q : ℤ → Type 0 = λ n. Divides d n in
        let both = subst P parts all in
        subst Q (get_or_append_left (numbers_in (take i cells)) (numbers_in (drop i cells)) e k low)
        (both k e (omega (arith, low, length-append (numbers_in (take i cells)) (numbers_in (drop i cells)))))

-- numbers whose least and greatest are 0 are all 0
pub IsExponent-zeros : (ns : List ℤ) (least greatest : ℤ) → AreBounds ns least greatest → least ≡ pos 0 → greatest ≡ pos 0 → IsExponent ns 0
IsExponent-zeros ns least greatest (inl none) _ _ = inl (rw none.0 (All-nil (λ n. n ≡ pos 0)), refl)
IsExponent-zeros ns least greatest (inr h) low high = inl ((λ k d l. between (get_or ns k d) (h.0.bound k d l) (h.1.bound k d l)), refl)
  where
    between : (n : ℤ) → least ≤ℤ n → n ≤ℤ greatest → n ≡ pos 0
    between n from to = omega (arith, ints)

pub IsExponent-some : (ns : List ℤ) (least greatest : ℤ) (e : ℕ) → AreBounds ns least greatest → (least ≢ pos 0) ⊎ (greatest ≢ pos 0) → IsCommonExponent ns e → IsExponent ns e
IsExponent-some ns least greatest e (inl none) (inl other) is = absurd (other none.1)
IsExponent-some ns least greatest e (inl none) (inr other) is = absurd (other none.2)
IsExponent-some ns least greatest e (inr h) (inl other) is = let at = h.0.reached in inr ((at.0, least, at.1, at.2, other), is)
IsExponent-some ns least greatest e (inr h) (inr other) is = let at = h.1.reached in inr ((at.0, greatest, at.1, at.2, other), is)

pub IsExponent-most : (ns : List ℤ) (e : ℕ) → IsExponent ns e → e ≤ 18
IsExponent-most ns e (inl h) = omega (arith, h.1)
IsExponent-most ns e (inr h) = h.1.most

pub IsExponent-divides : (ns : List ℤ) (e : ℕ) → IsExponent ns e → All (Divides e) ns
IsExponent-divides ns e (inl h) = λ k d l. rw h.1 (Divides-none (get_or ns k d))
IsExponent-divides ns e (inr h) = h.1.divides
