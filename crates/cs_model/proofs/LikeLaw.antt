-- The test of LIKE and the relation.
use Rattle.std.proofs.Common.{◌≡◌, ◌≢◌, ◌↔◌, ℕ, ◌==◌, Bool, true, false, List, [], ◌∷◌, ◌++◌, inl, inr, IsTrue, refl, sym, ap, arith, ⊎_elim}
use Rattle.std.proofs.lemmas.Bool.{ne_eqb}
use Rattle.std.proofs.lemmas.Bool.Decides.{nat_tests, eqb_tells}
use Rattle.cs_model.specs.Likes.{Like, StandsFor, has_end, has_first, is_like, meets}
use Rattle.cs_model.proofs.LikeLemmas.{whole_end, either_true, right_true, first_true, second_true}

-- an end is what stands after a run
end_splits : (test : List ℕ → Bool) (text : List ℕ) → has_end test text ≡ true → (run : List ℕ) × (rest : List ℕ) × (text ≡ run ++ rest) × (test rest ≡ true)
end_splits test [] h = ([], [], refl, h)
end_splits test (b ∷ text) h =
    ⊎_elim (λ (here : test (b ∷ text) ≡ true). ([], b ∷ text, refl, here))
    (λ (later : has_end test text ≡ true). let s = end_splits test text later in (b ∷ s.0, s.1, ap (λ t. b ∷ t) s.2, s.3))
    (either_true (test (b ∷ text)) (has_end test text) h)

end_joins : (test : List ℕ → Bool) (run rest : List ℕ) → test rest ≡ true → has_end test (run ++ rest) ≡ true
end_joins test [] rest h = whole_end test rest h
end_joins test (b ∷ run) rest h = right_true (test (b ∷ run ++ rest)) (has_end test (run ++ rest)) (end_joins test run rest h)

met_stands : (p b : ℕ) → p ≢ 37 → meets p b ≡ true → StandsFor p (b ∷ [])
met_stands p b not met =
    ⊎_elim (λ (one : ((p == 95) ≡ true) × (p ≡ 95)). inr (inl (one.1, refl)))
    (λ (other : ((p == 95) ≡ false) × (p ≢ 95)). let e : p ≡ b = grind (arith, nat_tests) in inr (inr (not, other.1, ap (λ x. x ∷ []) (sym e))))
    (eqb_tells p 95)

first_tested : (p : ℕ) (pattern text : List ℕ) → p ≢ 37 → ((rest : List ℕ) → is_like pattern rest ≡ true → Like pattern rest)
    → has_first p (is_like pattern) text ≡ true → Like (p ∷ pattern) text
first_tested p pattern [] not behind h = cc
first_tested p pattern (b ∷ text) not behind h =
    (b ∷ [], text, refl, met_stands p b not (first_true (meets p b) (is_like pattern text) h), behind text (second_true (meets p b) (is_like pattern text) h))

tested : (pattern text : List ℕ) → is_like pattern text ≡ true → Like pattern text
tested [] [] h = refl
tested [] (b ∷ text) h = cc
tested (p ∷ pattern) text h =
    ⊎_elim (λ (any : ((p == 37) ≡ true) × (p ≡ 37)).
    let s = end_splits (is_like pattern) text (rw any.0 at h) in (s.0, s.1, s.2, inl any.1, tested pattern s.1 s.3))
    (λ (other : ((p == 37) ≡ false) × (p ≢ 37)). first_tested p pattern text other.1 (tested pattern) (rw other.0 at h))
    (eqb_tells p 37)

first_passes : (p : ℕ) (pattern run rest : List ℕ) → StandsFor p run → is_like pattern rest ≡ true → is_like (p ∷ pattern) (run ++ rest) ≡ true
first_passes p pattern run rest (inl any) h = rw any (end_joins (is_like pattern) run rest h)
first_passes p pattern [] rest (inr (inl (one, long))) h = absurd (omega arith)
first_passes p pattern (b ∷ []) rest (inr (inl (one, long))) h = rw one h
first_passes p pattern (b ∷ c ∷ run) rest (inr (inl (one, long))) h = absurd (omega arith)
first_passes p pattern run rest (inr (inr (not, other, same))) h =
    let none : (p == 37) ≡ false = ne_eqb p 37 not in
    let met : meets p p ≡ true = right_true (p == 95) (p == p) (grind (arith, nat_tests)) in
    rw (same, none, met) h

passes : (pattern text : List ℕ) → Like pattern text → is_like pattern text ≡ true
passes [] text h = rw h refl
passes (p ∷ pattern) text (run, rest, e, stands, like) = rw e (first_passes p pattern run rest stands (passes pattern rest like))

pub like_tells : (pattern text : List ℕ) → IsTrue (is_like pattern text) ↔ Like pattern text
like_tells pattern text = (tested pattern text, passes pattern text)
