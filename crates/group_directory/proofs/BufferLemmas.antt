-- The entries that a commit adds to the delete buffer, in order.
use Rattle.std.proofs.Common.{◌≡◌, ℕ, zero, suc, ◌<◌, ◌≤◌, ◌⊎◌, inl, inr, Bool, true, false, cond, List, [], ◌∷◌, ◌++◌, map, None, refl, sym, ap, subst, ◌∙◌, arith}
use Rattle.std.specs.declared.cmp.Ordering.{Ordering}
use Rattle.std.specs.declared.cmp.Ordering.TheVariants.{Less, Equal}
use Rattle.std.specs.Ordering.{is_eq, is_lt, ordering_then, nat_cmp}
use Rattle.std.specs.List.{All, AllByRecursion, Contains}
use Rattle.std.specs.List.Sorted.{IsPermutation, IsStrictlySortedBy}
use Rattle.std.proofs.lemmas.Cmp.{tied_itself}
use Rattle.std.proofs.lemmas.List.{map-append}
use Rattle.std.proofs.lemmas.List.Elements.{All-contains, All-from_recursion}
use Rattle.std.proofs.lemmas.List.Sorted.{IsPermutation-refl, IsPermutation-cons, IsPermutation-trans, IsPermutation-sym, IsPermutation-map, IsPermutation-middle, Contains-permutation}
use Rattle.cs_types.specs.declared.Key.{Key}
use Rattle.cs_types.specs.Keys.{key_cmp, same_key}
use Rattle.cs_model.specs.Changes.{Edit}
use Rattle.delete_buffer.specs.Entries.{Entry, entry_cmp, AreInOrder, Ascend, ended}
use Rattle.group_book.specs.Book.{Ending}
use Rattle.group_book.specs.Commits.{ending_cmp, with_ending, with_endings}
use Rattle.group_book.proofs.Lists.{list_any-none}
use Rattle.group_book.proofs.Made.{HasEachKeyOnce, once-keys, apart-endings, sorted-endings, ending_total, endings_of as ended_at}
use Rattle.group_view.specs.Views.{endings_of}

-- ---- a strictly sorted list is told by what it contains

abbrev IsIn : List Ending → List Ending → Type 0
IsIn xs ys = (z : Ending) → Contains xs z → Contains ys z

contains_cons : (x : Ending) (xs : List Ending) (z : Ending) → Contains (x ∷ xs) z → (x ≡ z) ⊎ Contains xs z
contains_cons x xs z (zero, below, is) = inl is
contains_cons x xs z (suc k, below, is) = inr (k, omega (arith, below), is)

contains_more : (x : Ending) (xs : List Ending) (z : Ending) → Contains xs z → Contains (x ∷ xs) z
contains_more x xs z (k, below, is) = (suc k, omega (arith, below), is)

contains_first : (x : Ending) (xs : List Ending) → Contains (x ∷ xs) x
contains_first x xs = (0, omega arith, refl)

none_in_nil : (z : Ending) → Contains [] z → ⊥
none_in_nil z (k, below, is) = absurd (omega (arith, below))

abbrev IsBefore : Ending → Ending → Type 0
IsBefore x y = ending_cmp x y ≡ Less

abbrev Rises : List Ending → Type 0
Rises [] = Unit {0}
Rises (x ∷ xs) = AllByRecursion (IsBefore x) xs × Rises xs

not_itself : (x : Ending) → IsBefore x x → ⊥
not_itself x less = differ (sym less ∙ tied_itself ending_total x)
  where
    differ : Less ≡ Equal → ⊥
    differ h = cc

not_both : (x y : Ending) → IsBefore x y → IsBefore y x → ⊥
not_both x y less more = not_itself x (ending_total.trans x y x less more)

heads_same : (x y : Ending) (xs ys : List Ending) → Rises (x ∷ xs) → Rises (y ∷ ys) → IsIn (x ∷ xs) (y ∷ ys) → IsIn (y ∷ ys) (x ∷ xs) → x ≡ y
heads_same x y xs ys up_x up_y there back = step (contains_cons y ys x (there x (contains_first x xs))) (contains_cons x xs y (back y (contains_first y ys)))
  where
    step : (y ≡ x) ⊎ Contains ys x → (x ≡ y) ⊎ Contains xs y → x ≡ y
    step (inl is) other = sym is
    step (inr inside) (inl is) = is
    step (inr inside) (inr other) = absurd (not_both x y (All-contains (IsBefore x) xs y (All-from_recursion (IsBefore x) xs up_x.0) other) (All-contains (IsBefore y) ys x (All-from_recursion (IsBefore y) ys up_y.0) inside))

tails_in : (x : Ending) (xs ys : List Ending) → AllByRecursion (IsBefore x) xs → IsIn (x ∷ xs) (x ∷ ys) → IsIn xs ys
tails_in x xs ys up there z inside = step (contains_cons x ys z (there z (contains_more x xs z inside)))
  where
    step : (x ≡ z) ⊎ Contains ys z → Contains ys z
    step (inr more) = more
    step (inl is) = absurd (not_itself x (subst (IsBefore x) (sym is) (All-contains (IsBefore x) xs z (All-from_recursion (IsBefore x) xs up) inside)))

same_risen : (xs ys : List Ending) → Rises xs → Rises ys → IsIn xs ys → IsIn ys xs → xs ≡ ys
same_risen [] [] up_x up_y there back = refl
same_risen [] (y ∷ ys) up_x up_y there back = absurd (none_in_nil y (back y (contains_first y ys)))
same_risen (x ∷ xs) [] up_x up_y there back = absurd (none_in_nil x (there x (contains_first x xs)))
same_risen (x ∷ xs) (y ∷ ys) up_x up_y there back =
    let heads = heads_same x y xs ys up_x up_y there back in
    let there' = subst (λ (z : Ending). IsIn (x ∷ xs) (z ∷ ys)) (sym heads) there in
    let back' = subst (λ (z : Ending). IsIn (z ∷ ys) (x ∷ xs)) (sym heads) back in
    let up = subst (λ (z : Ending). AllByRecursion (IsBefore z) ys) (sym heads) up_y.0 in
    ap (λ (z : Ending). z ∷ xs) heads ∙ ap (λ (zs : List Ending). y ∷ zs) (same_risen xs ys up_x.1 up_y.1 (tails_in x xs ys up_x.0 there') (tails_in x ys xs up back'))

rises : (xs : List Ending) → IsStrictlySortedBy ending_cmp xs → Rises xs
unfolding IsStrictlySortedBy
rises [] up = tt
rises (x ∷ xs) up = (up.0, rises xs up.1)

sorted : (xs : List Ending) → Rises xs → IsStrictlySortedBy ending_cmp xs
unfolding IsStrictlySortedBy
sorted [] up = tt
sorted (x ∷ xs) up = (up.0, sorted xs up.1)

-- ---- the buffer

rises_entries : (entries : List Entry) → AreInOrder entries → Rises (endings_of entries)
rises_entries [] order = tt
rises_entries (x ∷ xs) order = (first xs (λ k d below. order 0 (suc k) d (omega arith) (omega (arith, below))), rises_entries xs (λ i j d less below. order (suc i) (suc j) d (omega (arith, less)) (omega (arith, below))))
  where
    first : (ys : List Entry) → All (λ (y : Entry). entry_cmp x y ≡ Less) ys → AllByRecursion (IsBefore (record { key = x.0; end = x.1 })) (endings_of ys)
    first [] all = tt
    first (y ∷ ys) all = (all 0 x (omega arith), first ys (λ k d below. all (suc k) d (omega (arith, below))))

one_ending : (x : Ending) (xs : List Ending) → IsPermutation (x ∷ xs) (with_ending x xs)
one_ending x [] = IsPermutation-refl (x ∷ [])
one_ending x (y ∷ ys) = step (is_lt (ending_cmp x y)) (one_ending x ys)
  where
    step : (t : Bool) → IsPermutation (x ∷ ys) (with_ending x ys) → IsPermutation (x ∷ y ∷ ys) (cond t (x ∷ y ∷ ys) (y ∷ with_ending x ys))
    step true rest = IsPermutation-refl (x ∷ y ∷ ys)
    step false rest = IsPermutation-trans (x ∷ y ∷ ys) (y ∷ x ∷ ys) (y ∷ with_ending x ys) (IsPermutation-sym (y ∷ x ∷ ys) (x ∷ y ∷ ys) (IsPermutation-middle (y ∷ []) x ys)) (IsPermutation-cons y (x ∷ ys) (with_ending x ys) rest)

all_endings : (buffer xs : List Ending) → IsPermutation (xs ++ buffer) (with_endings buffer xs)
all_endings buffer [] = IsPermutation-refl buffer
all_endings buffer (x ∷ xs) = IsPermutation-trans (x ∷ (xs ++ buffer)) (x ∷ with_endings buffer xs) (with_ending x (with_endings buffer xs)) (IsPermutation-cons x (xs ++ buffer) (with_endings buffer xs) (all_endings buffer xs)) (one_ending x (with_endings buffer xs))

-- entries that rise go before none
with_none : (xs : List Ending) → Rises xs → with_endings [] xs ≡ xs
with_none [] up = refl
with_none (x ∷ []) up = refl
with_none (x ∷ y ∷ ys) up = rw (with_none (y ∷ ys) up.1, up.0.0) refl

ended_endings : (keys : List Key) (c : ℕ) → endings_of (ended keys c) ≡ ended_at c keys
ended_endings [] c = refl
ended_endings (key ∷ keys) c = ap (λ (more : List Ending). record { key = key; end = c } ∷ more) (ended_endings keys c)

-- deletes of the keys
abbrev deletes : List Key → List Edit
deletes keys = map (λ (key : Key). (key, None)) keys

deleted_keys : (keys : List Key) → map (λ (edit : Edit). edit.0) (deletes keys) ≡ keys
deleted_keys [] = refl
deleted_keys (key ∷ keys) = ap (λ (more : List Key). key ∷ more) (deleted_keys keys)

each_once : (keys : List Key) → Ascend keys → HasEachKeyOnce (deletes keys)
each_once [] up = tt
each_once (key ∷ keys) up = (list_any-none (λ (edit : Edit). same_key key edit.0) (deletes keys) (apart keys (λ k d below. up 0 (suc k) d (omega arith) (omega (arith, below)))), each_once keys (λ i j d less below. up (suc i) (suc j) d (omega (arith, less)) (omega (arith, below))))
  where
    apart : (ks : List Key) → All (λ (k : Key). key_cmp key k ≡ Less) ks → AllByRecursion (λ (edit : Edit). same_key key edit.0 ≡ false) (deletes ks)
    apart [] all = tt
    apart (k ∷ ks) all = (ap is_eq (all 0 k (omega arith)), apart ks (λ i d below. all (suc i) d (omega (arith, below))))

rises_keys : (keys : List Key) (c : ℕ) → Ascend keys → Rises (ended_at c keys)
rises_keys [] c up = tt
rises_keys (key ∷ keys) c up = (first keys (λ k d below. up 0 (suc k) d (omega arith) (omega (arith, below))), rises_keys keys c (λ i j d less below. up (suc i) (suc j) d (omega (arith, less)) (omega (arith, below))))
  where
    first : (ks : List Key) → All (λ (k : Key). key_cmp key k ≡ Less) ks → AllByRecursion (IsBefore (record { key = key; end = c })) (ended_at c ks)
    first [] all = tt
    first (k ∷ ks) all = (ap (λ (o : Ordering). ordering_then o (nat_cmp c c)) (all 0 k (omega arith)), first ks (λ i d below. all (suc i) d (omega (arith, below))))

-- the entries go into the buffer in order
sorted_with : (old : List Entry) (keys : List Key) (c : ℕ) → AreInOrder old → Ascend keys → All (λ (entry : Entry). entry.1 < c) old → Rises (with_endings (endings_of old) (ended_at c keys))
sorted_with [] keys c order up below = subst Rises (sym (with_none (ended_at c keys) risen)) risen
  where
    risen : Rises (ended_at c keys)
    risen = rises_keys keys c up
sorted_with (first ∷ old) keys zero order up below = absurd (omega (arith, below 0 first (omega arith)))
sorted_with (first ∷ old) keys (suc n) order up below =
    rises _ (subst (λ (ks : List Key). IsStrictlySortedBy ending_cmp (with_endings (endings_of (first ∷ old)) (ended_at (suc n) ks))) (deleted_keys keys)
    (sorted-endings (endings_of (first ∷ old)) (ended_at (suc n) (map (λ (edit : Edit). edit.0) (deletes keys)))
    (apart-endings n (suc n) (endings_of (first ∷ old)) (map (λ (edit : Edit). edit.0) (deletes keys)) (omega arith) (low (first ∷ old) below) (once-keys (deletes keys) (each_once keys up)))
    (sorted (endings_of (first ∷ old)) (rises_entries (first ∷ old) order))))
  where
    low : (entries : List Entry) → All (λ (entry : Entry). entry.1 < suc n) entries → AllByRecursion (λ (entry : Ending). entry.end ≤ n) (endings_of entries)
    low [] all = tt
    low (entry ∷ entries) all = (omega (arith, all 0 entry (omega arith)), low entries (λ k d below. all (suc k) d (omega (arith, below))))

-- what adds an entry of each key gives the book's buffer
pub buffer_is : (old new : List Entry) (keys : List Key) (c : ℕ) → AreInOrder old → AreInOrder new → Ascend keys → All (λ (entry : Entry). entry.1 < c) old
    → IsPermutation (ended keys c ++ old) new → endings_of new ≡ with_endings (endings_of old) (ended_at c keys)
buffer_is old new keys c order order_new up below same =
    same_risen (endings_of new) (with_endings (endings_of old) (ended_at c keys)) (rises_entries new order_new) (sorted_with old keys c order up below)
    (λ z inside. Contains-permutation _ _ z whole (Contains-permutation _ _ z (IsPermutation-sym _ _ moved) inside))
    (λ z inside. Contains-permutation _ _ z moved (Contains-permutation _ _ z (IsPermutation-sym _ _ whole) inside))
  where
    to_ending : Entry → Ending
    to_ending entry = record { key = entry.0; end = entry.1 }

    moved : IsPermutation (ended_at c keys ++ endings_of old) (endings_of new)
    moved = subst (λ (xs : List Ending). IsPermutation xs (endings_of new)) (map-append to_ending (ended keys c) old ∙ ap (λ (xs : List Ending). xs ++ endings_of old) (ended_endings keys c)) (IsPermutation-map to_ending (ended keys c ++ old) new same)

    whole : IsPermutation (ended_at c keys ++ endings_of old) (with_endings (endings_of old) (ended_at c keys))
    whole = all_endings (endings_of old) (ended_at c keys)
