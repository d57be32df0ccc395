-- What a look-up finds in a list of pairs, and what an edit of the list does to it.
use Rattle.std.proofs.Common.{◌≡◌, ℕ, ℤ, zero, suc, ◌<◌, ◌≢◌, Bool, true, false, cond, List, [], ◌∷◌, ◌++◌, length, get_or, set, Option, Some, None, refl, sym, ap, ◌∙◌, arith}
use Rattle.std.specs.List.{insert}
use Rattle.std.specs.Option.{option_or}
use Rattle.std.specs.Ordering.{is_eq, int_cmp}
use Rattle.std.proofs.lemmas.Cmp.{tied_itself}
use Rattle.cs_types.specs.declared.Key.{Key}
use Rattle.cs_types.specs.Keys.{same_key}
use Rattle.cs_types.proofs.KeyLemmas.{key_total, one_key}
use Rattle.delta_store.specs.Index.{place_in, key_at, no_pair, IsAt, SetsOnly, HaveSamePlaces}

-- what the test of two keys tells
pub same_is : (a b : Key) → same_key a b ≡ true → a.0 ≡ b.0
same_is a b is = ap (λ (key : Key). key.0) (one_key a b is)

pub alike : (a b : Key) → a.0 ≡ b.0 → same_key a b ≡ true
alike a b same = ap (λ (z : ℤ). is_eq (int_cmp a.0 z)) (sym same) ∙ ap is_eq (tied_itself key_total a)

pub apart : (a b : Key) → a.0 ≢ b.0 → same_key a b ≡ false
apart a b differ = step (same_key a b) refl
  where
    step : (t : Bool) → same_key a b ≡ t → same_key a b ≡ false
    step true is = absurd (differ (same_is a b is))
    step false is = is

-- no pair before place i has the key
abbrev pub NoKeyBefore : List (Key × ℕ) → Key → ℕ → Type 0
NoKeyBefore l k i = (j : ℕ) → j < i → key_at l j ≢ k.0

no_key_before_tail : (x : Key × ℕ) (l : List (Key × ℕ)) (k : Key) (i : ℕ) → NoKeyBefore (x ∷ l) k (suc i) → NoKeyBefore l k i
no_key_before_tail x l k i no_key j lt = no_key (suc j) (omega arith)

is_at_tail : (x : Key × ℕ) (l : List (Key × ℕ)) (k : Key) (i : ℕ) → IsAt (x ∷ l) k (suc i) → IsAt l k i
is_at_tail x l k i is_at = record { in_range = omega (arith, is_at.in_range); has_key = is_at.has_key }

-- a key that no pair has is not found
pub place_in-absent : (l : List (Key × ℕ)) (k : Key) → NoKeyBefore l k (length l) → place_in l k ≡ None
place_in-absent [] k no_key = refl
place_in-absent (x ∷ l) k no_key = rw (apart x.0 k (no_key 0 (omega arith)), place_in-absent l k (no_key_before_tail x l k (length l) no_key)) refl

-- the first pair that has the key gives the place
pub place_in-present : (l : List (Key × ℕ)) (k : Key) (i : ℕ) → IsAt l k i → NoKeyBefore l k i → place_in l k ≡ Some (get_or l i no_pair).1
place_in-present [] k i is_at no_key = absurd (omega (arith, is_at.in_range))
place_in-present (x ∷ l) k zero is_at no_key = rw (alike x.0 k is_at.has_key) refl
place_in-present (x ∷ l) k (suc i) is_at no_key = rw (apart x.0 k (no_key 0 (omega arith)), place_in-present l k i (is_at_tail x l k i is_at) (no_key_before_tail x l k i no_key)) refl

-- writing over the first pair that has the key sets its place
pub place_in-set : (l : List (Key × ℕ)) (k : Key) (v i : ℕ) → IsAt l k i → NoKeyBefore l k i → SetsOnly l (set l i (k, v)) k v
place_in-set [] k v i is_at no_key q = absurd (omega (arith, is_at.in_range))
place_in-set (x ∷ l) k v zero is_at no_key q = step (same_key k q) refl
  where
    step : (t : Bool) → same_key k q ≡ t → cond t (Some v) (place_in l q) ≡ cond t (Some v) (cond (same_key x.0 q) (Some x.1) (place_in l q))
    step true is = refl
    step false is = let other : same_key x.0 q ≡ false = ap (λ (z : ℤ). is_eq (int_cmp z q.0)) is_at.has_key ∙ is in rw other refl
place_in-set (x ∷ l) k v (suc i) is_at no_key q = rw (place_in-set l k v i (is_at_tail x l k i is_at) (no_key_before_tail x l k i no_key) q) (step (same_key x.0 q) (same_key k q) refl refl)
  where
    step : (s t : Bool) → same_key x.0 q ≡ s → same_key k q ≡ t → cond s (Some x.1) (cond t (Some v) (place_in l q)) ≡ cond t (Some v) (cond s (Some x.1) (place_in l q))
    step true true is_s is_t =
        let other = no_key 0 (omega arith) in
        absurd (other (same_is x.0 q is_s ∙ sym (same_is k q is_t)))
    step true false is_s is_t = refl
    step false true is_s is_t = refl
    step false false is_s is_t = refl

-- so does a new pair before any pair that has the key
pub place_in-insert : (l : List (Key × ℕ)) (k : Key) (v i : ℕ) → NoKeyBefore l k i → SetsOnly l (insert l i (k, v)) k v
place_in-insert l k v zero no_key q = refl
place_in-insert [] k v (suc i) no_key q = refl
place_in-insert (x ∷ l) k v (suc i) no_key q = rw (place_in-insert l k v i (no_key_before_tail x l k i no_key) q) (step (same_key x.0 q) (same_key k q) refl refl)
  where
    step : (s t : Bool) → same_key x.0 q ≡ s → same_key k q ≡ t → cond s (Some x.1) (cond t (Some v) (place_in l q)) ≡ cond t (Some v) (cond s (Some x.1) (place_in l q))
    step true true is_s is_t =
        let other = no_key 0 (omega arith) in
        absurd (other (same_is x.0 q is_s ∙ sym (same_is k q is_t)))
    step true false is_s is_t = refl
    step false true is_s is_t = refl
    step false false is_s is_t = refl

-- ---- lists of pairs one after the other

-- a key has its place among the first pairs, and where it has none there, its place among those after
pub place_in-append : (l r : List (Key × ℕ)) (q : Key) → place_in (l ++ r) q ≡ option_or (place_in l q) (place_in r q)
place_in-append [] r q = refl
place_in-append (x ∷ l) r q = step (same_key x.0 q) (place_in-append l r q)
  where
    step : (t : Bool) → place_in (l ++ r) q ≡ option_or (place_in l q) (place_in r q) → cond t (Some x.1) (place_in (l ++ r) q) ≡ option_or (cond t (Some x.1) (place_in l q)) (place_in r q)
    step true rest = refl
    step false rest = rest

-- what is done to the first part is done to the whole
pub SetsOnly-front : (old new r : List (Key × ℕ)) (k : Key) (v : ℕ) → SetsOnly old new k v → SetsOnly (old ++ r) (new ++ r) k v
SetsOnly-front old new r k v sets q =
    place_in-append new r q
    ∙ ap (λ (o : Option ℕ). option_or o (place_in r q)) (sets q)
    ∙ step (same_key k q)
    ∙ ap (cond (same_key k q) (Some v)) (sym (place_in-append old r q))
  where
    step : (t : Bool) → option_or (cond t (Some v) (place_in old q)) (place_in r q) ≡ cond t (Some v) (option_or (place_in old q) (place_in r q))
    step true = refl
    step false = refl

-- so is what leaves the places of the first pairs or of the rest
pub same-front : (old new r : List (Key × ℕ)) → HaveSamePlaces old new → HaveSamePlaces (old ++ r) (new ++ r)
same-front old new r same q = place_in-append new r q ∙ ap (λ (o : Option ℕ). option_or o (place_in r q)) (same q) ∙ sym (place_in-append old r q)

pub same-behind : (l old new : List (Key × ℕ)) → HaveSamePlaces old new → HaveSamePlaces (l ++ old) (l ++ new)
same-behind l old new same q = place_in-append l new q ∙ ap (option_or (place_in l q)) (same q) ∙ sym (place_in-append l old q)

-- a pair after others, none of which is of its key, may as well stand before them
pub place_in-behind : (l r : List (Key × ℕ)) (y : Key × ℕ) (q : Key) → NoKeyBefore l y.0 (length l) → place_in (l ++ y ∷ r) q ≡ place_in (y ∷ (l ++ r)) q
place_in-behind [] r y q no_key = refl
place_in-behind (x ∷ l) r y q no_key = rw (place_in-behind l r y q (no_key_before_tail x l y.0 (length l) no_key)) (step (same_key x.0 q) (same_key y.0 q) refl refl)
  where
    step : (s t : Bool) → same_key x.0 q ≡ s → same_key y.0 q ≡ t → cond s (Some x.1) (cond t (Some y.1) (place_in (l ++ r) q)) ≡ cond t (Some y.1) (cond s (Some x.1) (place_in (l ++ r) q))
    step true true is_s is_t =
        let other = no_key 0 (omega arith) in
        absurd (other (same_is x.0 q is_s ∙ sym (same_is y.0 q is_t)))
    step true false is_s is_t = refl
    step false true is_s is_t = refl
    step false false is_s is_t = refl

-- and after one that is of its key it decides nothing
pub place_in-shadowed : (x : Key × ℕ) (l r : List (Key × ℕ)) (y : Key × ℕ) → x.0.0 ≡ y.0.0 → NoKeyBefore l y.0 (length l) → HaveSamePlaces (x ∷ (l ++ y ∷ r)) (x ∷ (l ++ r))
place_in-shadowed x l r y same no_key q = step (same_key x.0 q) refl
  where
    step : (t : Bool) → same_key x.0 q ≡ t → cond t (Some x.1) (place_in (l ++ r) q) ≡ cond t (Some x.1) (place_in (l ++ y ∷ r) q)
    step true is = refl
    step false is = let other : same_key y.0 q ≡ false = ap (λ (z : ℤ). is_eq (int_cmp z q.0)) (sym same) ∙ is in sym (rw (place_in-behind l r y q no_key) (rw other refl))
