-- Chains over lists of numbers, part by part.
use Rattle.std.proofs.Common.{◌≡◌, ◌≤◌, ◌<◌, ◌+◌, suc, ◌∙◌, sym, ap, ℕ, ℤ, List, ◌∷◌, map, drop, length, get_or, Some, Ok, add-one, drop-cons, arith}
use Rattle.std.proofs.lemmas.List.{drop_all}
use Rattle.cs_types.specs.declared.Loose.TheVariants.{Number}
use Rattle.cs_model.specs.declared.expr.Expr.{Expr}
use Rattle.cs_model.specs.Expressions.{Computed, chain, on_two, whole_of, ◌>>=◌}
use Rattle.batch_compute.specs.Values.{at, over, AreOver, AreOverBoth}

-- a part of a chain over a number
abbrev pub on : {Op : Type 0} → ℤ → Op × Expr → Op × Computed
on number part = (part.0, over number part.1)

module _ {Op : Type 0} (f : Op → ℤ → ℤ → Computed) where
  stepped : (op : Op) (computed : Computed) (total right joined : ℤ) (rest : List (Op × Computed)) → computed ≡ Ok (Number right 0) → f op total right ≡ Ok (Number joined 0)
      → chain f (Number total 0) ((op, computed) ∷ rest) ≡ chain f (Number joined 0) rest
  stepped op computed total right joined rest is to =
      ap (λ p. p >>= (λ x. on_two (f op) (Some total) (whole_of x) >>= (λ y. chain f y rest))) is ∙ ap (λ p. p >>= (λ y. chain f y rest)) to

  module _ (numbers left : List ℤ) (rest : List (Op × Expr)) where
    -- at each place the total so far and the parts from the number i on make the whole
    abbrev pub AreChainsFrom : ℕ → List ℤ → Type 0
    AreChainsFrom i totals = (k : ℕ) → k < length numbers → chain f (Number (at totals k) 0) (map (on (at numbers k)) (drop i rest)) ≡ chain f (Number (at left k) 0) (map (on (at numbers k)) rest)

    pub chains_more : (totals values joined : List ℤ) (i : ℕ) (part : Op × Expr) → i < length rest → part ≡ get_or rest i part → length totals ≡ length numbers → AreChainsFrom i totals
        → AreOver (λ number. over number part.1) numbers values → AreOverBoth (f part.0) totals values joined → AreChainsFrom (i + 1) joined
    chains_more totals values joined i part there is long before are both k within =
        let next = drop-cons rest i part there in
        ap (λ n. chain f (Number (at joined k) 0) (map (on (at numbers k)) (drop n rest))) (add-one i)
        ∙ sym (stepped part.0 (over (at numbers k) part.1) (at totals k) (at values k) (at joined k) (map (on (at numbers k)) (drop (suc i) rest)) (are.1 k within) (both.1 k (omega (arith, long, within))))
        ∙ ap (λ (p : Op × Expr). chain f (Number (at totals k) 0) (on (at numbers k) p ∷ map (on (at numbers k)) (drop (suc i) rest))) is
        ∙ ap (λ parts. chain f (Number (at totals k) 0) (map (on (at numbers k)) parts)) (sym next)
        ∙ before k within

    pub chains_end : (totals : List ℤ) (i : ℕ) → length rest ≤ i → length totals ≡ length numbers → length left ≡ length numbers → AreChainsFrom i totals
        → AreOverBoth (λ total number. chain f (Number total 0) (map (on number) rest)) left numbers totals
    chains_end totals i end long long' before = (
      long ∙ sym long',
      λ k within. sym (before k (omega (arith, long', within))) ∙ ap (λ parts. chain f (Number (at totals k) 0) (map (on (at numbers k)) parts)) (drop_all i rest end),
    )
