-- Entries in the order of their keys, cut to the keys of a group.
use Rattle.std.proofs.Common.{◌≡◌, ◌≢◌, ℕ, ℤ, ◌+◌, ◌<◌, ◌≤◌, ◌<ℤ◌, ◌≤ℤ◌, true, false, inl, inr, List, length, get_or, refl, sym, ap, subst, arith}
use Rattle.std.specs.Prelude.{slice_index}
use Rattle.std.specs.declared.cmp.Ordering.{Ordering}
use Rattle.std.specs.declared.cmp.Ordering.TheVariants.{Less, Equal, Greater}
use Rattle.std.specs.Cmp.{int_cmp_is}
use Rattle.std.specs.Ordering.{int_cmp, is_gt, is_le, is_lt, nat_cmp, ordering_then}
use Rattle.std.proofs.lemmas.Bool.{cases_lt}
use Rattle.std.proofs.lemmas.Cmp.{int_ranked}
use Rattle.std.proofs.lemmas.Int.{ints}
use Rattle.cs_types.specs.declared.Key.{Key}
use Rattle.cs_types.specs.Keys.{key_cmp}
use Rattle.delete_buffer.specs.Entries.{Entry, AreInOrder}
use Rattle.row_group.specs.Groups.{Group, key_at_place, AreByKey}
use Rattle.row_group.proofs.GroupLemmas.{places_by_key}
use Rattle.group_view.specs.Spans.{key_at, AreKeysBetween, HasNoRowOf}

-- ---- what the tests of two numbers tell

pub below_is : (a b : ℤ) → is_lt (int_cmp a b) ≡ true → a <ℤ b
below_is a b is = step (int_cmp a b) refl is
  where
    step : (o : Ordering) → o ≡ int_cmp a b → is_lt o ≡ true → a <ℤ b
    step Less e is = int_ranked a b Less e
    step Equal e is = cc
    step Greater e is = cc

pub is_below : (a b : ℤ) → a <ℤ b → is_lt (int_cmp a b) ≡ true
is_below a b less = ap is_lt (sym (int_cmp_is a b Less less))

pub above_is : (a b : ℤ) → is_gt (int_cmp a b) ≡ true → b <ℤ a
above_is a b is = step (int_cmp a b) refl is
  where
    step : (o : Ordering) → o ≡ int_cmp a b → is_gt o ≡ true → b <ℤ a
    step Less e is = cc
    step Equal e is = cc
    step Greater e is = int_ranked a b Greater e

-- a number is at most another, or above it
pub up_to_is : (a b : ℤ) → is_le (int_cmp a b) ≡ true → a ≤ℤ b
up_to_is a b is = step (int_cmp a b) refl is
  where
    step : (o : Ordering) → o ≡ int_cmp a b → is_le o ≡ true → a ≤ℤ b
    step Less e is = let less : a <ℤ b = int_ranked a b Less e in omega (arith, ints)
    step Equal e is = let same : a ≡ b = int_ranked a b Equal e in omega (arith, ints)
    step Greater e is = cc

pub is_up_to : (a b : ℤ) → a ≤ℤ b → is_le (int_cmp a b) ≡ true
is_up_to a b up = step (int_cmp a b) refl
  where
    step : (o : Ordering) → o ≡ int_cmp a b → is_le (int_cmp a b) ≡ true
    step Less e = ap is_le (sym e)
    step Equal e = ap is_le (sym e)
    step Greater e = absurd (let more : b <ℤ a = int_ranked a b Greater e in omega (arith, ints))

pub not_up_to : (a b : ℤ) → is_le (int_cmp a b) ≡ false → b <ℤ a
not_up_to a b is = step (int_cmp a b) refl is
  where
    step : (o : Ordering) → o ≡ int_cmp a b → is_le o ≡ false → b <ℤ a
    step Less e is = cc
    step Equal e is = cc
    step Greater e is = int_ranked a b Greater e

pub up_to_below : (a b c : ℤ) → a ≤ℤ b → b <ℤ c → a <ℤ c
up_to_below a b c up less = omega (arith, ints)

pub below_up_to : (a b c : ℤ) → a <ℤ b → b ≤ℤ c → a <ℤ c
below_up_to a b c less up = omega (arith, ints)

pub up_to_up_to : (a b c : ℤ) → a ≤ℤ b → b ≤ℤ c → a ≤ℤ c
up_to_up_to a b c low up = omega (arith, ints)

-- ---- keys in order

not_after : (first second : Ordering) → ordering_then first second ≡ Less → first ≢ Greater
not_after Less second is = λ e. cc
not_after Equal second is = λ e. cc
not_after Greater second is = λ e. cc

-- a key that does not come after another is at most that one
key_up_to : (a b : Key) → key_cmp a b ≢ Greater → a.0 ≤ℤ b.0
key_up_to a b other = step (key_cmp a b) refl
  where
    step : (o : Ordering) → o ≡ key_cmp a b → a.0 ≤ℤ b.0
    step Less is = let less : a.0 <ℤ b.0 = int_ranked a.0 b.0 Less is in omega (arith, ints)
    step Equal is = let same : a.0 ≡ b.0 = int_ranked a.0 b.0 Equal is in omega (arith, ints)
    step Greater is = absurd (other (sym is))

-- keys that rise strictly, or not, rise from each place to each later one and to itself
pub up_to_itself : (f : ℕ → ℤ) (i j : ℕ) → i ≤ j → (i < j → f i ≤ℤ f j) → f i ≤ℤ f j
up_to_itself f i j up later = elim (cases_lt i j) [
  | inl less ↦ later less
  | inr more ↦ let same : i ≡ j = omega arith in subst (λ (n : ℕ). f i ≤ℤ f n) same (itself (f i))
]
  where
    itself : (a : ℤ) → a ≤ℤ a
    itself a = omega (arith, ints)

pub entries_rise : (entries : List Entry) → AreInOrder entries → (i j : ℕ) (d : Entry) → i ≤ j → j < length entries → (get_or entries i d).0.0 ≤ℤ (get_or entries j d).0.0
entries_rise entries order i j d up there =
    let x = get_or entries i d in
    let y = get_or entries j d in
    up_to_itself (λ n. (get_or entries n d).0.0) i j up (λ less. key_up_to x.0 y.0 (not_after (key_cmp x.0 y.0) (nat_cmp x.1 y.1) (order i j d less there)))

-- ---- the keys of a group

module _ (group : Group) (by_key : AreByKey group) where
  keys_rise : (i j : ℕ) → i ≤ j → j < length group.places → (key_at_place group i).0 ≤ℤ (key_at_place group j).0
  keys_rise i j up there =
      up_to_itself (λ n. (key_at_place group n).0) i j up (λ less.
      key_up_to (key_at_place group i) (key_at_place group j) (not_after (key_cmp (key_at_place group i) (key_at_place group j)) (nat_cmp (slice_index group.places i) (slice_index group.places j)) ((places_by_key group by_key).sorted i j less there)))

  -- they lie from the key at the first place to that at the last
  pub keys_between : (last : ℕ) → last + 1 ≡ length group.places → AreKeysBetween (key_at_place group 0) (key_at_place group last) group
  keys_between last count p there =
      let found = (places_by_key group by_key).each p there in
      let at = ap (λ (q : ℕ). (key_at group q).0) found.2 in (
        subst (λ (k : ℤ). (key_at_place group 0).0 ≤ℤ k) at (keys_rise 0 found.0 (omega arith) found.1),
        subst (λ (k : ℤ). k ≤ℤ (key_at_place group last).0) at (keys_rise found.0 last (omega (arith, found.1, count)) (omega (arith, count))),
      )

-- keys below the least or above the greatest are of no row
module _ (group : Group) (least greatest : Key) (between : AreKeysBetween least greatest group) (key : Key) where
  pub none_below : key.0 <ℤ least.0 → HasNoRowOf group key
  none_below less p there same = differ (key_at group p).0 key.0 least.0 (between p there).0 less (ap (λ (k : Key). k.0) same)
    where
      differ : (a b c : ℤ) → c ≤ℤ a → b <ℤ c → a ≡ b → ⊥
      differ a b c low less same = omega (arith, ints)

  pub none_above : greatest.0 <ℤ key.0 → HasNoRowOf group key
  none_above less p there same = differ (key_at group p).0 key.0 greatest.0 (between p there).1 less (ap (λ (k : Key). k.0) same)
    where
      differ : (a b c : ℤ) → a ≤ℤ c → c <ℤ b → a ≡ b → ⊥
      differ a b c low less same = omega (arith, ints)
