-- Keys of which each is below the next ascend.
use Rattle.std.proofs.Common.{◌≡◌, ℕ, ◌+◌, ◌-◌, ◌<◌, zero, suc, List, length, get_or, arith, subst, Less}
use Rattle.cs_types.specs.declared.Key.{Key}
use Rattle.cs_types.specs.Keys.{key_cmp}
use Rattle.cs_types.proofs.KeyLemmas.{key_total}
use Rattle.version_store.specs.Newest.{Ascend}

module _ (keys : List Key) (steps : (k : ℕ) (d : Key) → k + 1 < length keys → key_cmp (get_or keys k d) (get_or keys (k + 1) d) ≡ Less) where
  above : (i n : ℕ) (d : Key) → i + 1 + n < length keys → key_cmp (get_or keys i d) (get_or keys (i + 1 + n) d) ≡ Less
  above i zero d within = let one : i + 1 ≡ i + 1 + 0 = omega arith in subst (λ k. key_cmp (get_or keys i d) (get_or keys k d) ≡ Less) one (steps i d (omega (arith, within)))
  above i (suc n) d within =
      let next : i + 1 + n + 1 ≡ i + 1 + suc n = omega arith in
      subst (λ k. key_cmp (get_or keys i d) (get_or keys k d) ≡ Less) next
      (key_total.trans (get_or keys i d) (get_or keys (i + 1 + n) d) (get_or keys (i + 1 + n + 1) d) (above i n d (omega (arith, within))) (steps (i + 1 + n) d (omega (arith, within))))

  pub ascends : Ascend keys
  ascends i j d lower within =
      let n : ℕ = j - (i + 1) in
      let is : i + 1 + n ≡ j = omega (arith, lower) in
      subst (λ k. key_cmp (get_or keys i d) (get_or keys k d) ≡ Less) is (above i n d (omega (arith, within, is)))
