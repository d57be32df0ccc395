-- Writes in the order of their keys.
use Rattle.std.proofs.Common.{◌≡◌, ℕ, ◌+◌, ◌<◌, suc, List, [], ◌∷◌, length, get_or, sym, subst, arith, Bool, true, false, true≢false, IsTrue, Result, Ok, Err, IfOk}
use Rattle.std.specs.List.{IsAllAdjacentAnswer}
use Rattle.std.specs.declared.cmp.Ordering.TheVariants.{Less}
use Rattle.std.specs.Ordering.{is_lt}
use Rattle.std.proofs.lemmas.List.Kept.{AllPairs-cons}
use Rattle.cs_types.specs.Keys.{key_cmp}
use Rattle.cs_types.proofs.KeyLemmas.{key_total}
use Rattle.write_set.specs.declared.write.Write.{Write}
use Rattle.write_set.specs.Writes.{Ascend, put, staged}
use Rattle.write_set.proofs.Puts.{less_by, Rises, head, all_cons, all_none, Ascend-put}

no_pairs : Ascend []
no_pairs = λ i j d l there. absurd (omega (arith, there))

-- where each key is below the next, they ascend
next_rises : (ws : List Write) → ((k : ℕ) (d : Write) → suc k < length ws → key_cmp (get_or ws k d).key (get_or ws (suc k) d).key ≡ Less) → Ascend ws
next_rises [] next = no_pairs
next_rises (w ∷ []) next = AllPairs-cons Rises w [] (all_none (Rises w)) no_pairs
next_rises (w ∷ v ∷ ws) next =
    let rest = next_rises (v ∷ ws) (λ k d l. next (suc k) d (omega (arith, l))) in
    let first : key_cmp w.key v.key ≡ Less = next 0 w (omega arith) in
    AllPairs-cons Rises w (v ∷ ws) (all_cons (Rises w) v ws first (λ k d l. key_total.trans w.key v.key (get_or ws k d).key first (head v ws rest k d l))) rest

pub told_in_order : (ws : List Write) (told : Bool) → IsAllAdjacentAnswer (λ (a b : Write) (r : Bool). r ≡ is_lt (key_cmp a.key b.key)) ws told → IsTrue told → Ascend ws
told_in_order ws true facts is = next_rises ws (λ k d l.
    let same : k + 1 ≡ suc k = omega arith in
    less_by (key_cmp (get_or ws k d).key (get_or ws (suc k) d).key)
    (subst (λ (m : ℕ). true ≡ is_lt (key_cmp (get_or ws k d).key (get_or ws m d).key)) same (facts k d (omega (arith, l)))))
told_in_order ws false facts is = absurd (true≢false (sym is))

staged_rises : (ws acc : List Write) → Ascend acc → Ascend (staged acc ws)
staged_rises [] acc up = up
staged_rises (w ∷ ws) acc up = staged_rises ws (put acc w) (Ascend-put acc w up)

pub result_rises : {V E : Type 0} (items : V → List Write) (ws : List Write) (r : Result V E) → IfOk r (λ v. items v ≡ staged [] ws) → IfOk r (λ v. Ascend (items v))
result_rises items ws (Ok v) e = subst Ascend (sym e) (staged_rises ws [] no_pairs)
result_rises items ws (Err error) e = tt
