-- The entries of the buffer that end lent versions, and which versions had ended by them.
use Rattle.std.proofs.Common.{◌≡◌, ◌≢◌, ℕ, ◌<◌, ◌≤◌, Bool, true, false, cond, not, ◌&&◌, ◌||◌, eqb, ltb, leb, List, [], ◌∷◌, length, get_or, Option, Some, None, inl, inr, refl, sym, ap, subst, ◌∙◌, arith}
use Rattle.std.specs.Prelude.{min, is_some}
use Rattle.std.specs.List.{All, AllByRecursion, Contains, filter, list_any}
use Rattle.std.proofs.lemmas.Bool.{cases_lt, lt-leb, le-leb, le-ltb, lt-ltb, or_right, eqb-true}
use Rattle.std.proofs.lemmas.Bool.Decides.{nat_tests}
use Rattle.std.proofs.lemmas.List.{length-map, get_or-map}
use Rattle.std.proofs.lemmas.List.Elements.{All-from_recursion, recursion_from_All}
use Rattle.std.proofs.lemmas.List.Folds.{list_any-from_Any}
use Rattle.cs_types.specs.declared.Key.{Key}
use Rattle.cs_types.specs.Keys.{same_key}
use Rattle.group_book.specs.Book.{End, Version, Ending, has_ended, is_buffered}
use Rattle.group_book.specs.Turns.{lesser, least_entry, unless_ended, buffered_end, is_number, ends, holds, entries_for, is_gone}
use Rattle.group_book.proofs.Keys.{key_here, key_is}
use Rattle.group_book.specs.Book.End.{Plain}
use Rattle.group_view.specs.Parts.{Rowed}
use Rattle.group_view.specs.Books.{versions_of}
use Rattle.group_view.specs.Claims.{IsEndedOnce}
use Rattle.tuple_mover.specs.Kept.{is_left_out, kept_of}

-- ---- the least entry

-- no entry of the key lies above the begin, or this one is the least of them
abbrev pub IsLeast : List Ending → Key → ℕ → Option ℕ → Type 0
IsLeast buffer key begin None = AllByRecursion (λ (x : Ending). same_key key x.key ≡ true → begin < x.end → ⊥) buffer
IsLeast buffer key begin (Some e) = (begin < e) × (holds buffer key e ≡ true) × AllByRecursion (λ (x : Ending). same_key key x.key ≡ true → begin < x.end → e ≤ x.end) buffer

each : (P Q : Ending → Type 0) → ((x : Ending) → P x → Q x) → (xs : List Ending) → AllByRecursion P xs → AllByRecursion Q xs
each P Q weaker [] all = tt
each P Q weaker (x ∷ xs) all = (weaker x all.0, each P Q weaker xs all.1)

held_first : (key : Key) (x : Ending) (xs : List Ending) → same_key key x.key ≡ true → holds (x ∷ xs) key x.end ≡ true
held_first key x xs of_key = rw (of_key, eqb-refl x.end) refl
  where
    eqb-refl : (n : ℕ) → eqb n n ≡ true
    eqb-refl n = grind (arith, nat_tests)

pub least-of : (buffer : List Ending) (key : Key) (begin : ℕ) → IsLeast buffer key begin (least_entry buffer key begin)
least-of [] key begin = tt
least-of (x ∷ xs) key begin = step (same_key key x.key) (ltb begin x.end) refl refl (least_entry xs key begin) (least-of xs key begin)
  where
    skip : (o : Option ℕ) → (same_key key x.key ≡ true → begin < x.end → ⊥) → IsLeast xs key begin o → IsLeast (x ∷ xs) key begin o
    skip None none rest = (none, rest)
    skip (Some e) none rest = (rest.0, or_right (same_key key x.key && eqb x.end e) (holds xs key e) rest.1, (λ of_key above. absurd (none of_key above), rest.2))

    take : (o : Option ℕ) → same_key key x.key ≡ true → begin < x.end → IsLeast xs key begin o → IsLeast (x ∷ xs) key begin (lesser x.end o)
    take None of_key above rest =
        (above, held_first key x xs of_key, (λ p q. omega arith, each (λ (y : Ending). same_key key y.key ≡ true → begin < y.end → ⊥) (λ (y : Ending). same_key key y.key ≡ true → begin < y.end → x.end ≤ y.end) (λ y none p q. absurd (none p q)) xs rest))
    take (Some e) of_key above rest =
        (omega (arith, above, rest.0), held, (λ p q. omega arith, each (λ (y : Ending). same_key key y.key ≡ true → begin < y.end → e ≤ y.end) (λ (y : Ending). same_key key y.key ≡ true → begin < y.end → min x.end e ≤ y.end) (λ y most p q. omega (arith, most p q)) xs rest.2))
      where
        held : holds (x ∷ xs) key (min x.end e) ≡ true
        held = elim (cases_lt x.end e) [
          | inl low ↦ let is : x.end ≡ min x.end e = omega (arith, low) in subst (λ (n : ℕ). holds (x ∷ xs) key n ≡ true) is (held_first key x xs of_key)
          | inr high ↦ let is : e ≡ min x.end e = omega (arith, high) in subst (λ (n : ℕ). holds (x ∷ xs) key n ≡ true) is (or_right (same_key key x.key && eqb x.end e) (holds xs key e) rest.1)
        ]

    step : (p q : Bool) → same_key key x.key ≡ p → ltb begin x.end ≡ q → (o : Option ℕ) → IsLeast xs key begin o → IsLeast (x ∷ xs) key begin (cond (p && q) (lesser x.end o) o)
    step true true of_key above o rest = let less : begin < x.end = grind (arith, nat_tests, above) in take o of_key less rest
    step true false of_key above o rest = let most : x.end ≤ begin = grind (arith, nat_tests, above) in skip o (λ p less. absurd (omega (arith, most, less))) rest
    step false q of_key above o rest = skip o (λ p less. differ (sym p ∙ of_key)) rest
      where
        differ : true ≡ false → ⊥
        differ h = cc

-- ---- what has ended by a number

past-buffered : (key : Key) (begin f : ℕ) (xs : List Ending) → AllByRecursion (λ (x : Ending). same_key key x.key ≡ true → begin < x.end → f < x.end) xs → is_buffered xs key begin f ≡ false
past-buffered key begin f [] past = refl
past-buffered key begin f (x ∷ xs) past = step (same_key key x.key) refl (past-buffered key begin f xs past.1)
  where
    step : (p : Bool) → same_key key x.key ≡ p → is_buffered xs key begin f ≡ false → ((p && (ltb begin x.end && leb x.end f)) || is_buffered xs key begin f) ≡ false
    step false of_key none = none
    step true of_key none = elim (cases_lt begin x.end) [
      | inl above ↦ rw (lt-ltb begin x.end above, lt-leb x.end f (past.0 of_key above)) none
      | inr low ↦ rw (le-ltb begin x.end low) none
    ]

any-weaker : (p h : Ending → Bool) → ((x : Ending) → h x ≡ true → p x ≡ true) → (xs : List Ending) → list_any h xs ≡ true → list_any p xs ≡ true
any-weaker p h each [] is = cc
any-weaker p h each (x ∷ xs) is = step (h x) refl is (any-weaker p h each xs)
  where
    step : (q : Bool) → h x ≡ q → (q || list_any h xs) ≡ true → (list_any h xs ≡ true → list_any p xs ≡ true) → (p x || list_any p xs) ≡ true
    step true of is rest = rw (each x of) refl
    step false of is rest = or_right (p x) (list_any p xs) (rest is)

held-buffered : (key : Key) (begin e f : ℕ) (xs : List Ending) → begin < e → e ≤ f → holds xs key e ≡ true → is_buffered xs key begin f ≡ true
held-buffered key begin e f xs above within held =
    any-weaker (λ (x : Ending). same_key key x.key && (ltb begin x.end && leb x.end f)) (λ (x : Ending). same_key key x.key && eqb x.end e) each xs held
  where
    each : (x : Ending) → (same_key key x.key && eqb x.end e) ≡ true → (same_key key x.key && (ltb begin x.end && leb x.end f)) ≡ true
    each x held = step (same_key key x.key) (eqb x.end e) refl held
      where
        step : (p q : Bool) → eqb x.end e ≡ q → (p && q) ≡ true → (p && (ltb begin x.end && leb x.end f)) ≡ true
        step true true number both =
            let same : x.end ≡ e = eqb-true x.end e number in
            rw (lt-ltb begin x.end (omega (arith, same, above)), le-leb x.end f (omega (arith, same, within))) refl
        step true false number both = absurd (differ both)
          where
            differ : false ≡ true → ⊥
            differ h = cc
        step false q number both = absurd (differ both)
          where
            differ : false ≡ true → ⊥
            differ h = cc

-- ---- among the lent entries

any-filter : (p h t : Ending → Bool) → ((x : Ending) → h x ≡ true → (t x ≡ true) × (p x ≡ true)) → (xs : List Ending) → list_any h xs ≡ true → list_any p (filter t xs) ≡ true
any-filter p h t each [] is = cc
any-filter p h t each (x ∷ xs) is = step (h x) refl is (any-filter p h t each xs)
  where
    here : (q : Bool) → h x ≡ true → t x ≡ q → list_any p (cond q (x ∷ filter t xs) (filter t xs)) ≡ true
    here true of is = rw (each x of).1 refl
    here false of is = absurd (differ (sym (each x of).0 ∙ is))
      where
        differ : true ≡ false → ⊥
        differ h = cc

    there : (q : Bool) → list_any p (filter t xs) ≡ true → list_any p (cond q (x ∷ filter t xs) (filter t xs)) ≡ true
    there true is = or_right (p x) (list_any p (filter t xs)) is
    there false is = is

    step : (q : Bool) → h x ≡ q → (q || list_any h xs) ≡ true → (list_any h xs ≡ true → list_any p (filter t xs) ≡ true) → list_any p (cond (t x) (x ∷ filter t xs) (filter t xs)) ≡ true
    step true of is rest = here (t x) of refl
    step false of is rest = there (t x) (rest is)

any-fewer : (p t : Ending → Bool) (xs : List Ending) → list_any p xs ≡ false → list_any p (filter t xs) ≡ false
any-fewer p t [] none = refl
any-fewer p t (x ∷ xs) none = step (p x) (t x) refl none (any-fewer p t xs)
  where
    step : (q r : Bool) → p x ≡ q → (q || list_any p xs) ≡ false → (list_any p xs ≡ false → list_any p (filter t xs) ≡ false) → list_any p (cond r (x ∷ filter t xs) (filter t xs)) ≡ false
    step true r is none rest = absurd (differ none)
      where
        differ : true ≡ false → ⊥
        differ h = cc
    step false true is none rest = rw is (rest none)
    step false false is none rest = rest none

module _ (buffer : List Ending) (versions : List Version) (version : Version) (lent : Contains versions version) where
  any-version : (x : Ending) → ends buffer x version ≡ true → list_any (ends buffer x) versions ≡ true
  any-version x ended = list_any-from_Any (ends buffer x) versions (lent.0, version, lent.1, lent.2, ended)

  -- an entry of the key and the least number above the begin ends the version
  ends-least : (e : ℕ) → buffered_end buffer version ≡ Some e → (x : Ending) → (same_key version.key x.key && eqb x.end e) ≡ true → ends buffer x version ≡ true
  ends-least e is x held = step (same_key version.key x.key) (eqb x.end e) refl refl held
    where
      step : (p q : Bool) → same_key version.key x.key ≡ p → eqb x.end e ≡ q → (p && q) ≡ true → (same_key x.key version.key && is_number x.end (buffered_end buffer version)) ≡ true
      step true true of_key number both =
          let key : x.key ≡ version.key = key_is version.key x.key of_key in
          let same : x.end ≡ e = eqb-true x.end e number in
          rw (key_here x.key version.key (sym key), is, sym same) (grind (arith, nat_tests))
      step true false of_key number both = absurd (differ both)
        where
          differ : false ≡ true → ⊥
          differ h = cc
      step false q of_key number both = absurd (differ both)
        where
          differ : false ≡ true → ⊥
          differ h = cc

  -- the entry that ends a lent version is lent
  pub lent-holds : (e : ℕ) → buffered_end buffer version ≡ Some e → holds buffer version.key e ≡ true → holds (entries_for buffer versions) version.key e ≡ true
  lent-holds e is held =
      any-filter (λ (x : Ending). same_key version.key x.key && eqb x.end e) (λ (x : Ending). same_key version.key x.key && eqb x.end e) (λ (x : Ending). list_any (ends buffer x) versions)
      (λ x there. (any-version x (ends-least e is x there), there)) buffer held

  -- the lent entries end it as all do
  same-buffered : (f : ℕ) → version.end ≡ None → is_buffered buffer version.key version.begin f ≡ is_buffered (entries_for buffer versions) version.key version.begin f
  same-buffered f none = step (least_entry buffer version.key version.begin) refl (least-of buffer version.key version.begin)
    where
      fewer : is_buffered buffer version.key version.begin f ≡ false → is_buffered buffer version.key version.begin f ≡ is_buffered (entries_for buffer versions) version.key version.begin f
      fewer is = is ∙ sym (any-fewer (λ (x : Ending). same_key version.key x.key && (ltb version.begin x.end && leb x.end f)) (λ (x : Ending). list_any (ends buffer x) versions) buffer is)

      step : (o : Option ℕ) → least_entry buffer version.key version.begin ≡ o → IsLeast buffer version.key version.begin o
          → is_buffered buffer version.key version.begin f ≡ is_buffered (entries_for buffer versions) version.key version.begin f
      step None is least =
          fewer (past-buffered version.key version.begin f buffer (each (λ (x : Ending). same_key version.key x.key ≡ true → version.begin < x.end → ⊥) (λ (x : Ending). same_key version.key x.key ≡ true → version.begin < x.end → f < x.end) (λ x no_entry of_key above. absurd (no_entry of_key above)) buffer least))
      step (Some e) is least = elim (cases_lt f e) [
        | inl later ↦
            fewer (past-buffered version.key version.begin f buffer (each (λ (x : Ending). same_key version.key x.key ≡ true → version.begin < x.end → e ≤ x.end) (λ (x : Ending). same_key version.key x.key ≡ true → version.begin < x.end → f < x.end) (λ x most of_key above. omega (arith, most of_key above, later)) buffer least.2))
        | inr within ↦
            held-buffered version.key version.begin e f buffer least.0 within least.1
            ∙ sym (held-buffered version.key version.begin e f (entries_for buffer versions) least.0 within (lent-holds e (ap (λ (end : Option End). unless_ended end (least_entry buffer version.key version.begin)) none ∙ is) least.1))
      ]

  -- what is left out is what had ended by the floor
  pub same-gone : (f : ℕ) → IsEndedOnce f (entries_for buffer versions) version → is_left_out f buffer version ≡ is_gone f (entries_for buffer versions) version
  same-gone f once = step version.end refl
    where
      step : (end : Option End) → version.end ≡ end → is_left_out f buffer version ≡ is_gone f (entries_for buffer versions) version
      step None is =
          ap (λ (end : Option End). cond (is_some end) (has_ended f end) (is_buffered buffer version.key version.begin f)) is
          ∙ same-buffered f is
          ∙ sym (ap (λ (end : Option End). has_ended f end || is_buffered (entries_for buffer versions) version.key version.begin f) is)
      step (Some end) is =
          ap (λ (some : Bool). cond some (has_ended f version.end) (is_buffered buffer version.key version.begin f)) (ap (λ (end : Option End). is_some end) is)
          ∙ sym (once (ap (λ (end : Option End). is_some end) is))

-- ---- all lent versions

abbrev test_of : (Version → Bool) → Rowed → Bool
test_of gone rowed = not (gone rowed.version)

same-kept : (p q : Version → Bool) (rowed : List Rowed) → AllByRecursion (λ (version : Rowed). p version.version ≡ q version.version) rowed → filter (λ (version : Rowed). not (p version.version)) rowed ≡ filter (λ (version : Rowed). not (q version.version)) rowed
same-kept p q [] same = refl
same-kept p q (first ∷ rowed) same =
    ap (λ (t : Bool). cond (not t) (first ∷ filter (test_of p) rowed) (filter (test_of p) rowed)) same.0
    ∙ ap (λ (kept : List Rowed). cond (not (q first.version)) (first ∷ kept) kept) (same-kept p q rowed same.1)

pub kept-is : (f : ℕ) (buffer : List Ending) (rowed : List Rowed) → All (IsEndedOnce f (entries_for buffer (versions_of rowed))) (versions_of rowed)
    → kept_of f buffer rowed ≡ filter (λ (version : Rowed). not (is_gone f (entries_for buffer (versions_of rowed)) version.version)) rowed
kept-is f buffer rowed once =
    let versions = versions_of rowed in
    same-kept (is_left_out f buffer) (is_gone f (entries_for buffer versions)) rowed
    (recursion_from_All (λ (version : Rowed). is_left_out f buffer version.version ≡ is_gone f (entries_for buffer versions) version.version) rowed
    (λ k d l.
    let version : Rowed = get_or rowed k d in
    let m : k < length versions = omega (arith, l, length-map rowed (λ (v : Rowed). v.version)) in
    let at : get_or versions k version.version ≡ version.version = get_or-map (λ (v : Rowed). v.version) rowed k d version.version l in
    same-gone buffer versions version.version (k, m, at) f (subst (λ (v : Version). IsEndedOnce f (entries_for buffer versions) v) at (once k version.version m))))

-- no plain end is kept
pub kept-numbered : (f : ℕ) (buffer : List Ending) (rowed : List Rowed) → All (λ (version : Rowed). version.version.end ≢ Some Plain) (kept_of f buffer rowed)
kept-numbered f buffer rowed = All-from_recursion (λ (version : Rowed). version.version.end ≢ Some Plain) (kept_of f buffer rowed) (kept rowed)
  where
    kept : (rowed : List Rowed) → AllByRecursion (λ (version : Rowed). version.version.end ≢ Some Plain) (kept_of f buffer rowed)
    kept [] = tt
    kept (first ∷ rowed) = step (is_left_out f buffer first.version) refl (kept rowed)
      where
        step : (t : Bool) → is_left_out f buffer first.version ≡ t → AllByRecursion (λ (version : Rowed). version.version.end ≢ Some Plain) (kept_of f buffer rowed)
            → AllByRecursion (λ (version : Rowed). version.version.end ≢ Some Plain) (cond (not t) (first ∷ kept_of f buffer rowed) (kept_of f buffer rowed))
        step true is rest = rest
        step false is rest = (λ plain. differ (sym (ap (λ (end : Option End). cond (is_some end) (has_ended f end) (is_buffered buffer first.version.key first.version.begin f)) plain) ∙ is), rest)
          where
            differ : true ≡ false → ⊥
            differ h = cc
