-- Writes, and what they are as edits.
use Rattle.std.proofs.Common.{◌≡◌, ℕ, zero, suc, List, [], ◌∷◌, refl, sym, ap, ◌∙◌, subst, cond, Bool, true, false, arith, All, None, Some, slice_get}
use Rattle.std.specs.Prelude.{◌≢◌}
use Rattle.std.specs.List.{AllByRecursion}
use Rattle.std.specs.declared.cmp.Ordering.TheVariants.{Less}
use Rattle.std.specs.Ordering.{is_eq, ordering_reverse}
use Rattle.std.specs.Map.{keys_of}
use Rattle.std.specs.List.Sorted.{IsStrictlySortedBy}
use Rattle.std.proofs.lemmas.Cmp.{tied_itself}
use Rattle.std.proofs.lemmas.Option.{same_Some}
use Rattle.cs_types.specs.declared.Key.{Key}
use Rattle.write_set.specs.declared.write.Write.{Write}
use Rattle.write_set.specs.Writes as writes
use Rattle.write_set.specs.Writes.{put, IsFoundAt, Ascend}
use Rattle.write_set.proofs.Orders.{put_entry}
use Rattle.write_set.proofs.Puts.{head, tail}
use Rattle.cs_types.specs.Keys.{key_cmp, same_key}
use Rattle.cs_model.specs.Steps.{staged}
use Rattle.edit_laws.specs.Edits.{edits_of}
use Rattle.cs_types.proofs.KeyLemmas.{key_total, one_key}
use Rattle.edit_laws.proofs.Tables.{Ascends, at}

-- ---- writes that are staged

pub staged_edits : (own more : List Write) → edits_of (writes.staged own more) ≡ staged (edits_of own) (edits_of more)
staged_edits own [] = refl
staged_edits own (w ∷ more) = staged_edits (put own w) more ∙ ap (λ es. staged es (edits_of more)) (put_entry (λ v. v.row) own w)

-- ---- their order

above : (v : Write) (vs : List Write) → All (λ (w : Write). key_cmp v.key w.key ≡ Less) vs → AllByRecursion (λ k. key_cmp v.key k ≡ Less) (keys_of (edits_of vs))
above v [] all = tt
above v (w ∷ vs) all = (all 0 w (omega arith), above v vs (λ k d l. all (suc k) d (omega (arith, l))))

pub ascends : (own : List Write) → Ascend own → Ascends (edits_of own)
unfolding IsStrictlySortedBy
ascends [] up = tt
ascends (v ∷ vs) up = (above v vs (head v vs up), ascends vs (tail v vs up))

-- ---- the write of a key

pub found_at : (own : List Write) (key : Key) (i : ℕ) (write : Write) → Ascend own → IsFoundAt own key i → slice_get own i ≡ Some write → at key (edits_of own) ≡ Some write.row
found_at [] key i write up found e = absurd (omega (arith, found.within))
found_at (v ∷ vs) key zero write up found e =
    let is : v ≡ write = same_Some v write e in
    ap (λ r. cond (is_eq r) (Some v.row) (at key (edits_of vs))) (ap (λ (k : Key). key_cmp key k) (found.is v) ∙ tied_itself key_total key) ∙ ap (λ (w : Write). Some w.row) is
found_at (v ∷ vs) key (suc i) write up found e =
    let below : key_cmp v.key key ≡ Less = subst (λ (k : Key). key_cmp v.key k ≡ Less) (found.is v) (up 0 (suc i) v (omega arith) found.within) in
    ap (λ r. cond (is_eq r) (Some v.row) (at key (edits_of vs))) (key_total.antisymm key v.key ∙ ap ordering_reverse below)
    ∙ found_at vs key i write (tail v vs up) (record { within = let l = found.within in omega (arith, l); is = λ d. found.is d }) e

pub none_at : (own : List Write) (key : Key) → All (λ (write : Write). write.key ≢ key) own → at key (edits_of own) ≡ None
none_at [] key apart = refl
none_at (v ∷ vs) key apart = by (same_key key v.key) refl (none_at vs key (λ k d l. apart (suc k) d (omega (arith, l))))
  where
    by : (b : Bool) → same_key key v.key ≡ b → at key (edits_of vs) ≡ None → cond b (Some v.row) (at key (edits_of vs)) ≡ None
    by true e rest = absurd (apart 0 v (omega arith) (sym (one_key key v.key e)))
    by false e rest = rest
