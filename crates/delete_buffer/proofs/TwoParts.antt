-- Two parts that are merged into one list in order.
use Rattle.std.proofs.Common.{◌≡◌, ◌<◌, ◌≤◌, ℕ, zero, suc, ◌+◌, ◌||◌, ◌⊎◌, inl, inr, Bool, true, false, cond, List, [], ◌∷◌, ◌++◌, length, filter, get_or, refl, sym, ap, subst, ◌∙◌, arith, length-append, All, Contains, Option, None, Some}
use Rattle.std.specs.declared.cmp.Ordering.{Ordering}
use Rattle.std.specs.declared.cmp.Ordering.TheVariants.{Less, Equal, Greater}
use Rattle.std.specs.List.{list_any}
use Rattle.std.specs.List.Sorted.{IsPermutation}
use Rattle.std.specs.Ordering.{is_lt, ordering_reverse}
use Rattle.std.proofs.lemmas.Bool.{cases_lt}
use Rattle.std.proofs.lemmas.Cmp.{tied_itself}
use Rattle.std.proofs.lemmas.List.{append-nil}
use Rattle.std.proofs.lemmas.List.Elements.{All-append, All-cons, All-contains, All-contains_itself, All-filter, All-head, All-tail, All-weaker, Contains-append_cases, Contains-append_left, Contains-append_right, filter_passes}
use Rattle.std.proofs.lemmas.List.Folds.{list_any-append}
use Rattle.std.proofs.lemmas.List.Kept.{AllPairs-cons, AllPairs-filter}
use Rattle.std.proofs.lemmas.List.Sorted.{All-permutation, Contains-permutation, IsPermutation-append_comm, IsPermutation-cons, IsPermutation-middle, IsPermutation-refl, IsPermutation-sym, IsPermutation-trans, length_permutation, list_any-IsPermutation}
use Rattle.cs_types.specs.declared.Key.{Key}
use Rattle.delete_buffer.specs.Entries.{Entry, entry_cmp, AreInOrder, AreParts, IsLeastEnd, lesser, merged, placed}
use Rattle.delete_buffer.proofs.Order.{entry_total, same_entry}

-- an entry comes before another
abbrev pub IsLess : Entry → Entry → Type 0
IsLess x y = entry_cmp x y ≡ Less

pub less_trans : (x y z : Entry) → IsLess x y → IsLess y z → IsLess x z
less_trans x y z = entry_total.trans x y z

pub less_from_greater : (x y : Entry) → entry_cmp x y ≡ Greater → IsLess y x
less_from_greater x y greater = entry_total.antisymm y x ∙ ap ordering_reverse greater

-- ---- lists in order

never : (x : Entry) → IsLess x x → ⊥
never x less = differ (sym (tied_itself entry_total x) ∙ less)
  where
    differ : Equal ≡ Less → ⊥
    differ e = cc

first_least : (x : Entry) (xs : List Entry) → AreInOrder (x ∷ xs) → All (IsLess x) xs
first_least x xs up k d there = up 0 (suc k) d (omega arith) (omega arith)

rest_in_order : (x : Entry) (xs : List Entry) → AreInOrder (x ∷ xs) → AreInOrder xs
rest_in_order x xs up i j d less there = up (suc i) (suc j) d (omega arith) (omega arith)

no_pairs : AreInOrder []
no_pairs i j d less there = absurd (omega (arith, there))

not_later : (x : Entry) (xs : List Entry) → AreInOrder (x ∷ xs) → Contains xs x → ⊥
not_later x xs up has = never x (All-contains (IsLess x) xs x (first_least x xs up) has)

cons_cases : (x z : Entry) (xs : List Entry) → Contains (x ∷ xs) z → (x ≡ z) ⊎ Contains xs z
cons_cases x z xs (zero, there, is) = inl is
cons_cases x z xs (suc k, there, is) = inr (k, omega (arith, there), is)

cons_here : (x : Entry) (xs : List Entry) → Contains (x ∷ xs) x
cons_here x xs = (0, omega arith, refl)

cons_later : (x z : Entry) (xs : List Entry) → Contains xs z → Contains (x ∷ xs) z
cons_later x z xs (k, there, is) = (suc k, omega (arith, there), is)

none_there : (z : Entry) → Contains [] z → ⊥
none_there z (k, there, is) = omega (arith, there)

-- two lists in order that have the same entries are one
pub same_entries : (xs ys : List Entry) → AreInOrder xs → AreInOrder ys → ((z : Entry) → Contains xs z → Contains ys z) → ((z : Entry) → Contains ys z → Contains xs z) → xs ≡ ys
same_entries [] [] up up' to back = refl
same_entries [] (y ∷ ys) up up' to back = absurd (none_there y (back y (cons_here y ys)))
same_entries (x ∷ xs) [] up up' to back = absurd (none_there x (to x (cons_here x xs)))
same_entries (x ∷ xs) (y ∷ ys) up up' to back =
    let same : x ≡ y = elim (cons_cases y x ys (to x (cons_here x xs))) [
      | inl e ↦ sym e
      | inr later ↦ elim (cons_cases x y xs (back y (cons_here y ys))) [
        | inl e ↦ e
        | inr also ↦ absurd (never x (less_trans x y x (All-contains (IsLess x) xs y (first_least x xs up) also) (All-contains (IsLess y) ys x (first_least y ys up') later)))
      ]
    ] in
    let rest : xs ≡ ys = same_entries xs ys (rest_in_order x xs up) (rest_in_order y ys up')
    (λ z has. elim (cons_cases y z ys (to z (cons_later x z xs has))) [
      | inl e ↦ absurd (not_later x xs up (subst (Contains xs) (sym (same ∙ e)) has))
      | inr later ↦ later
    ])
    (λ z has. elim (cons_cases x z xs (back z (cons_later y z ys has))) [
      | inl e ↦ absurd (not_later y ys up' (subst (Contains ys) (sym (sym same ∙ e)) has))
      | inr later ↦ later
    ]) in
    λ i. same i ∷ rest i

pub same_permutation : (xs ys : List Entry) → AreInOrder xs → AreInOrder ys → IsPermutation xs ys → xs ≡ ys
same_permutation xs ys up up' moved =
    same_entries xs ys up up' (λ z. Contains-permutation xs ys z moved) (λ z. Contains-permutation ys xs z (IsPermutation-sym xs ys moved))

-- ---- one entry placed among others

IsPermutation-placed : (x : Entry) (ys : List Entry) → IsPermutation (x ∷ ys) (placed x ys)
IsPermutation-placed x [] = IsPermutation-refl (x ∷ [])
IsPermutation-placed x (y ∷ ys) = go (is_lt (entry_cmp x y)) (IsPermutation-placed x ys)
  where
    go : (b : Bool) → IsPermutation (x ∷ ys) (placed x ys) → IsPermutation (x ∷ y ∷ ys) (cond b (x ∷ y ∷ ys) (y ∷ placed x ys))
    go true moved = IsPermutation-refl (x ∷ y ∷ ys)
    go false moved =
        IsPermutation-trans (x ∷ y ∷ ys) (y ∷ x ∷ ys) (y ∷ placed x ys)
        (IsPermutation-sym (y ∷ x ∷ ys) (x ∷ y ∷ ys) (IsPermutation-middle (y ∷ []) x ys)) (IsPermutation-cons y (x ∷ ys) (placed x ys) moved)

in_order-placed : (x : Entry) (ys : List Entry) → AreInOrder ys → (Contains ys x → ⊥) → AreInOrder (placed x ys)
in_order-placed x [] up absent = AllPairs-cons IsLess x [] (λ k d there. absurd (omega (arith, there))) no_pairs
in_order-placed x (y ∷ ys) up absent =
    go (entry_cmp x y) refl (in_order-placed x ys (rest_in_order y ys up) (λ has. absent (cons_later y x ys has)))
  where
    go : (o : Ordering) → entry_cmp x y ≡ o → AreInOrder (placed x ys) → AreInOrder (cond (is_lt o) (x ∷ y ∷ ys) (y ∷ placed x ys))
    go Less e rest =
        AllPairs-cons IsLess x (y ∷ ys)
        (All-cons (IsLess x) y ys e (All-weaker (IsLess y) (IsLess x) (λ z less. less_trans x y z e less) ys (first_least y ys up))) up
    go Equal e rest = absurd (absent (0, omega arith, sym (same_entry x y e)))
    go Greater e rest =
        AllPairs-cons IsLess y (placed x ys)
        (All-permutation (IsLess y) (x ∷ ys) (placed x ys) (IsPermutation-placed x ys) (All-cons (IsLess y) x ys (less_from_greater x y e) (first_least y ys up))) rest

-- ---- two parts merged

pub IsPermutation-merged : (settled recent : List Entry) → IsPermutation (settled ++ recent) (merged settled recent)
IsPermutation-merged settled [] = subst (λ (xs : List Entry). IsPermutation xs settled) (sym (append-nil settled)) (IsPermutation-refl settled)
IsPermutation-merged settled (x ∷ recent) =
    IsPermutation-trans (settled ++ x ∷ recent) (x ∷ (settled ++ recent)) (placed x (merged settled recent)) (IsPermutation-middle settled x recent)
    (IsPermutation-trans (x ∷ (settled ++ recent)) (x ∷ merged settled recent) (placed x (merged settled recent))
    (IsPermutation-cons x (settled ++ recent) (merged settled recent) (IsPermutation-merged settled recent)) (IsPermutation-placed x (merged settled recent)))

back-merged : (settled recent : List Entry) → IsPermutation (merged settled recent) (settled ++ recent)
back-merged settled recent = IsPermutation-sym (settled ++ recent) (merged settled recent) (IsPermutation-merged settled recent)

pub length-merged : (settled recent : List Entry) → length (merged settled recent) ≡ length settled + length recent
length-merged settled recent = length_permutation (settled ++ recent) (merged settled recent) (IsPermutation-merged settled recent) ∙ length-append settled recent

pub merged_cases : (settled recent : List Entry) (z : Entry) → Contains (merged settled recent) z → Contains settled z ⊎ Contains recent z
merged_cases settled recent z has = Contains-append_cases settled recent z (Contains-permutation (merged settled recent) (settled ++ recent) z (back-merged settled recent) has)

pub in_settled : (settled recent : List Entry) (z : Entry) → Contains settled z → Contains (merged settled recent) z
in_settled settled recent z has = Contains-permutation (settled ++ recent) (merged settled recent) z (IsPermutation-merged settled recent) (Contains-append_left settled recent z has)

pub in_recent : (settled recent : List Entry) (z : Entry) → Contains recent z → Contains (merged settled recent) z
in_recent settled recent z has = Contains-permutation (settled ++ recent) (merged settled recent) z (IsPermutation-merged settled recent) (Contains-append_right settled recent z has)

pub in_order-merged : (settled recent : List Entry) → AreParts settled recent → AreInOrder (merged settled recent)
in_order-merged settled [] parts = parts.settled_in_order
in_order-merged settled (x ∷ recent) parts =
    in_order-placed x (merged settled recent)
    (in_order-merged settled recent (record {
      settled_in_order = parts.settled_in_order;
      recent_in_order = rest_in_order x recent parts.recent_in_order;
      apart = All-tail (λ (y : Entry). Contains settled y → ⊥) x recent parts.apart;
    }))
    (λ has. elim (merged_cases settled recent x has) [
      | inl there ↦ All-head (λ (y : Entry). Contains settled y → ⊥) x recent parts.apart there
      | inr there ↦ not_later x recent parts.recent_in_order there
    ])

-- whether one passes a test
pub any-merged : (p : Entry → Bool) (settled recent : List Entry) → list_any p (merged settled recent) ≡ (list_any p settled || list_any p recent)
any-merged p settled recent =
    sym (list_any-IsPermutation p (settled ++ recent) (merged settled recent) (IsPermutation-merged settled recent)) ∙ list_any-append p settled recent

-- a merge is the one list in order of these entries
pub merged_is : (settled recent all : List Entry) → AreParts settled recent → AreInOrder all → IsPermutation (recent ++ settled) all → all ≡ merged settled recent
merged_is settled recent all parts up moved =
    same_permutation all (merged settled recent) up (in_order-merged settled recent parts)
    (IsPermutation-trans all (recent ++ settled) (merged settled recent) (IsPermutation-sym (recent ++ settled) all moved)
    (IsPermutation-trans (recent ++ settled) (settled ++ recent) (merged settled recent) (IsPermutation-append_comm recent settled) (IsPermutation-merged settled recent)))

-- ---- what passes a test

pub Contains-filter : (p : Entry → Bool) (xs : List Entry) (z : Entry) → Contains xs z → p z ≡ true → Contains (filter p xs) z
Contains-filter p [] z has passes = absurd (none_there z has)
Contains-filter p (x ∷ xs) z has passes = elim (cons_cases x z xs has) [
  | inl e ↦ here (p x) (ap p e ∙ passes) e
  | inr later ↦ go (p x) (Contains-filter p xs z later passes)
]
  where
    here : (b : Bool) → b ≡ true → x ≡ z → Contains (cond b (x ∷ filter p xs) (filter p xs)) z
    here true is e = (0, omega arith, e)
    here false is e = absurd (differ is)
      where
        differ : false ≡ true → ⊥
        differ e = cc

    go : (b : Bool) → Contains (filter p xs) z → Contains (cond b (x ∷ filter p xs) (filter p xs)) z
    go true later = cons_later x z (filter p xs) later
    go false later = later

pub Contains-unfiltered : (p : Entry → Bool) (xs : List Entry) (z : Entry) → Contains (filter p xs) z → Contains xs z
Contains-unfiltered p xs z has = All-contains (Contains xs) (filter p xs) z (All-filter p (Contains xs) xs (All-contains_itself xs)) has

passed_test : (p : Entry → Bool) (xs : List Entry) (z : Entry) → Contains (filter p xs) z → p z ≡ true
passed_test p xs z has = All-contains (λ x. p x ≡ true) (filter p xs) z (filter_passes p xs) has

-- parts of the parts
pub AreParts-filter : (p q : Entry → Bool) (settled recent : List Entry) → AreParts settled recent → AreParts (filter p settled) (filter q recent)
AreParts-filter p q settled recent parts = record {
  settled_in_order = AllPairs-filter IsLess p settled parts.settled_in_order;
  recent_in_order = AllPairs-filter IsLess q recent parts.recent_in_order;
  apart =
      All-filter q (λ (x : Entry). Contains (filter p settled) x → ⊥) recent
      (All-weaker (λ (x : Entry). Contains settled x → ⊥) (λ (x : Entry). Contains (filter p settled) x → ⊥) (λ x none has. none (Contains-unfiltered p settled x has)) recent parts.apart);
}

pub filter-merged : (p : Entry → Bool) (settled recent : List Entry) → AreParts settled recent → filter p (merged settled recent) ≡ merged (filter p settled) (filter p recent)
filter-merged p settled recent parts =
    same_entries (filter p (merged settled recent)) (merged (filter p settled) (filter p recent))
    (AllPairs-filter IsLess p (merged settled recent) (in_order-merged settled recent parts))
    (in_order-merged (filter p settled) (filter p recent) (AreParts-filter p p settled recent parts))
    (λ z has.
    let passes = passed_test p (merged settled recent) z has in
    elim (merged_cases settled recent z (Contains-unfiltered p (merged settled recent) z has)) [
      | inl there ↦ in_settled (filter p settled) (filter p recent) z (Contains-filter p settled z there passes)
      | inr there ↦ in_recent (filter p settled) (filter p recent) z (Contains-filter p recent z there passes)
    ])
    (λ z has. elim (merged_cases (filter p settled) (filter p recent) z has) [
      | inl there ↦ Contains-filter p (merged settled recent) z (in_settled settled recent z (Contains-unfiltered p settled z there)) (passed_test p settled z there)
      | inr there ↦ Contains-filter p (merged settled recent) z (in_recent settled recent z (Contains-unfiltered p recent z there)) (passed_test p recent z there)
    ])

-- ---- the least end of a key

abbrev Beyond : Key → ℕ → ℕ → Entry → Type 0
Beyond key begin end x = x.0 ≡ key → begin < x.1 → end ≤ x.1

abbrev UpTo : Key → ℕ → Entry → Type 0
UpTo key begin x = x.0 ≡ key → x.1 ≤ begin

module _ (settled recent : List Entry) (key : Key) (begin : ℕ) where
  all : (P : Entry → Type 0) → All P settled → All P recent → All P (merged settled recent)
  all P first second = All-permutation P (settled ++ recent) (merged settled recent) (IsPermutation-merged settled recent) (All-append P settled recent first second)

  past : (end : ℕ) (xs : List Entry) → begin < end → All (UpTo key begin) xs → All (Beyond key begin end) xs
  past end xs above none k d there same beyond = absurd (omega (arith, none k d there same, beyond))

  nearer : (end other : ℕ) (xs : List Entry) → end ≤ other → All (Beyond key begin other) xs → All (Beyond key begin end) xs
  nearer end other xs less far k d there same beyond = omega (arith, far k d there same beyond, less)

  pub least-merged : (first second : Option ℕ) → IsLeastEnd settled key begin first → IsLeastEnd recent key begin second → IsLeastEnd (merged settled recent) key begin (lesser first second)
  least-merged None None a b = all (UpTo key begin) a b
  least-merged None (Some end) a b = (in_recent settled recent (key, end) b.0, b.1, all (Beyond key begin end) (past end settled b.1 a) b.2)
  least-merged (Some end) None a b = (in_settled settled recent (key, end) a.0, a.1, all (Beyond key begin end) a.2 (past end recent a.1 b))
  least-merged (Some end) (Some other) a b = elim (cases_lt end other) [
    | inl less ↦
        subst (λ (n : ℕ). IsLeastEnd (merged settled recent) key begin (Some n)) (omega arith)
        (in_settled settled recent (key, end) a.0, a.1, all (Beyond key begin end) a.2 (nearer end other recent (omega arith) b.2))
    | inr more ↦
        subst (λ (n : ℕ). IsLeastEnd (merged settled recent) key begin (Some n)) (omega arith)
        (in_recent settled recent (key, other) b.0, b.1, all (Beyond key begin other) (nearer other end settled more a.2) b.2)
  ]

-- an entry of the one part is not in the other
pub is_new : (settled recent : List Entry) → AreParts settled recent → (k : ℕ) (x : Entry) → k < length recent → get_or recent k x ≡ x → Contains settled x → ⊥
is_new settled recent parts k x there is has = parts.apart k x there (subst (Contains settled) (sym is) has)
