-- Patterns, and the ends of texts.
use Rattle.std.proofs.Common.{◌≡◌, ℕ, ◌==◌, Bool, true, false, ◌&&◌, ◌||◌, List, [], ◌∷◌, ◌⊎◌, inl, inr, length, refl, sym, ◌∙◌, arith, ⊎_elim}
use Rattle.cs_model.specs.Likes.{has_end, has_first, is_like, meets}

pub either_true : (a b : Bool) → a || b ≡ true → (a ≡ true) ⊎ (b ≡ true)
either_true true b h = inl refl
either_true false b h = inr h

pub right_true : (a b : Bool) → b ≡ true → a || b ≡ true
right_true true b h = refl
right_true false b h = h

pub first_true : (a b : Bool) → a && b ≡ true → a ≡ true
first_true true b h = refl
first_true false b h = cc

pub second_true : (a b : Bool) → a && b ≡ true → b ≡ true
second_true true b h = h
second_true false b h = cc

-- a text is an end of itself
pub whole_end : (test : List ℕ → Bool) (text : List ℕ) → test text ≡ true → has_end test text ≡ true
whole_end test [] h = h
whole_end test (b ∷ text) h = rw h refl

-- an end of an end is an end
pub end_of_end : (test : List ℕ → Bool) (text : List ℕ) → has_end (has_end test) text ≡ true → has_end test text ≡ true
end_of_end test [] h = h
end_of_end test (b ∷ text) h =
    ⊎_elim (λ (here : has_end test (b ∷ text) ≡ true). here)
    (λ (later : has_end (has_end test) text ≡ true). right_true (test (b ∷ text)) (has_end test text) (end_of_end test text later))
    (either_true (has_end test (b ∷ text)) (has_end (has_end test) text) h)

-- where an end of a text begins with a pattern's byte, what is after that byte is an end of what is after the text's first one
behind_first : (p : ℕ) (test first : List ℕ → Bool) → ((text : List ℕ) → first text ≡ has_first p test text)
    → (b : ℕ) (text : List ℕ) → has_end first (b ∷ text) ≡ true → has_end test text ≡ true
behind_first p test first same b [] h =
    ⊎_elim (λ (here : first (b ∷ []) ≡ true). second_true (meets p b) (test []) (sym (same (b ∷ [])) ∙ here))
    (λ (later : first [] ≡ true). let e = same [] in cc)
    (either_true (first (b ∷ [])) (first []) h)
behind_first p test first same b (c ∷ text) h =
    ⊎_elim (λ (here : first (b ∷ c ∷ text) ≡ true). whole_end test (c ∷ text) (second_true (meets p b) (test (c ∷ text)) (sym (same (b ∷ c ∷ text)) ∙ here)))
    (λ (later : has_end first (c ∷ text) ≡ true). right_true (test (c ∷ text)) (has_end test text) (behind_first p test first same c text later))
    (either_true (first (b ∷ c ∷ text)) (has_end first (c ∷ text)) h)

-- ---- the steps of a comparison

both_ways : (a b : Bool) → (a ≡ true → b ≡ true) → (b ≡ true → a ≡ true) → a ≡ b
both_ways true true f g = refl
both_ways true false f g = sym (f refl)
both_ways false true f g = g refl
both_ways false false f g = refl

module _ (pattern text : List ℕ) where
  -- the pattern's rest begins with `%`
  pub at_any : (behind left : List ℕ) → is_like (37 ∷ behind) left ≡ is_like pattern text
      → (has_end (is_like pattern) text ≡ true → has_end (is_like (37 ∷ behind)) left ≡ true)
      → has_end (is_like pattern) text ≡ has_end (is_like behind) left
  at_any behind left same ends =
      both_ways (has_end (is_like pattern) text) (has_end (is_like behind) left)
      (λ h. end_of_end (is_like behind) left (ends h))
      (λ h. whole_end (is_like pattern) text (sym same ∙ h))

  -- it begins with a byte that stands for the first one of what is left
  pub at_one : (p b : ℕ) (behind after : List ℕ) → (p == 37) ≡ false → meets p b ≡ true → is_like (p ∷ behind) (b ∷ after) ≡ is_like pattern text
      → (has_end (is_like pattern) text ≡ true → has_end (is_like (p ∷ behind)) (b ∷ after) ≡ true)
      → (is_like behind after ≡ is_like pattern text) × (has_end (is_like pattern) text ≡ true → has_end (is_like behind) after ≡ true)
  at_one p b behind after not met same ends =
      (rw (not, met) at same, λ h. behind_first p (is_like behind) (is_like (p ∷ behind)) (λ t. rw not refl) b after (ends h))

  -- both are at their ends
  pub at_end : (rest left : List ℕ) → length rest ≡ 0 → length left ≡ 0 → is_like rest left ≡ is_like pattern text → has_end (is_like pattern) text ≡ true
  at_end [] [] none over same = whole_end (is_like pattern) text (sym same)
  at_end [] (b ∷ left) none over same = absurd (omega arith)
  at_end (p ∷ rest) left none over same = absurd (omega arith)
