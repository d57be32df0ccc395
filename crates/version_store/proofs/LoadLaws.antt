-- Loads in their order: what is found among their changes, as one is added and as some are dropped.
use Rattle.std.proofs.Common.{◌≡◌, ℕ, ◌+◌, ◌<◌, ◌≤◌, arith, Bool, true, false, ◌||◌, cond, List, [], ◌∷◌, ◌++◌, map, length, get_or, take, zero, suc, All, refl, sym, ◌∙◌, ap, subst, append_assoc, length-append, Option, Some, None, nat_lt}
use Rattle.std.specs.List.{filter, list_any}
use Rattle.std.specs.Option.{option_or, ForSome}
use Rattle.std.specs.FinMap as finite
use Rattle.std.proofs.lemmas.List.{take_more}
use Rattle.cs_types.specs.declared.Key.{Key}
use Rattle.cs_types.specs.Keys.{key_cmp, same_key}
use Rattle.cs_types.proofs.KeyLemmas.{key_total, exact_key}
use Rattle.version_store.specs.declared.NewestChange.{NewestChange}
use Rattle.version_store.specs.Newest.{noted_by, IsApart, above}
use Rattle.version_store.specs.Loads.{Load, changes_of, newest_first, found, IsOver, AreInOrder, room_under}
use Rattle.version_store.proofs.Laid.{found-append, apart_both, above_was, above-or, get-noted}
use Rattle.version_store.proofs.RunLaws.{place_of}

-- ---- one load

any_step : (p q : Bool) (change : NewestChange) → cond p (Some change) (cond q (Some change) None) ≡ cond (p || q) (Some change) None
any_step true q change = refl
any_step false q change = refl

pub found-load : (change : NewestChange) (keys : List Key) (key : Key) → found (map (λ k. (k, change)) keys) key ≡ cond (list_any (same_key key) keys) (Some change) None
found-load change [] key = refl
found-load change (k ∷ keys) key = ap (cond (same_key key k) (Some change)) (found-load change keys key) ∙ any_step (same_key key k) (list_any (same_key key) keys) change

pub length-load : (change : NewestChange) (keys : List Key) → length {A = Key × NewestChange} (map (λ k. (k, change)) keys) ≡ length keys
length-load change [] = refl
length-load change (k ∷ keys) = let rest = length-load change keys in omega (arith, rest)

-- the load is found among its keys alone
found_in : (load : Load) (key : Key) (o : Option NewestChange) → option_or (found (changes_of load) key) o ≡ cond (list_any (same_key key) load.keys) (Some load.change) o
found_in load key o = ap (λ (p : Option NewestChange). option_or p o) (found-load load.change load.keys key) ∙ by (list_any (same_key key) load.keys)
  where
    by : (b : Bool) → option_or (cond b (Some load.change) None) o ≡ cond b (Some load.change) o
    by true = refl
    by false = refl

-- it goes as a whole
same_either : (b : Bool) (o : Option NewestChange) → cond b o o ≡ o
same_either true o = refl
same_either false o = refl

load_above : (floor : ℕ) (load : Load) (key : Key) → above floor (found (changes_of load) key) ≡ cond (nat_lt floor load.change.commit) (found (changes_of load) key) None
load_above floor load key =
    ap (above floor) (found-load load.change load.keys key)
    ∙ by (list_any (same_key key) load.keys)
    ∙ ap (λ (o : Option NewestChange). cond (nat_lt floor load.change.commit) o None) (sym (found-load load.change load.keys key))
  where
    by : (b : Bool) → above floor (cond b (Some load.change) None) ≡ cond (nat_lt floor load.change.commit) (cond b (Some load.change) None) None
    by true = refl
    by false = sym (same_either (nat_lt floor load.change.commit) None)

-- ---- one load more

append_none : (es : List (Key × NewestChange)) → es ++ [] ≡ es
append_none [] = refl
append_none (e ∷ es) = ap (λ (rest : List (Key × NewestChange)). e ∷ rest) (append_none es)

pub newest_first-push : (loads : List Load) (load : Load) → newest_first (loads ++ load ∷ []) ≡ changes_of load ++ newest_first loads
newest_first-push [] load = sym (append_none (changes_of load))
newest_first-push (first ∷ loads) load = ap (λ (es : List (Key × NewestChange)). es ++ changes_of first) (newest_first-push loads load) ∙ append_assoc (changes_of load) (newest_first loads) (changes_of first)

pub length-push : (loads : List Load) (load : Load) → length (newest_first (loads ++ load ∷ [])) ≡ length (newest_first loads) + length load.keys
length-push loads load =
    let is = ap length (newest_first-push loads load) in
    let sum = length-append (changes_of load) (newest_first loads) in
    let own = length-load load.change load.keys in
    omega (arith, is, sum, own)

pub found-push : (loads : List Load) (load : Load) (key : Key) → found (newest_first (loads ++ load ∷ [])) key ≡ option_or (found (changes_of load) key) (found (newest_first loads) key)
found-push loads load key = ap (λ (es : List (Key × NewestChange)). found es key) (newest_first-push loads load) ∙ found-append (changes_of load) (newest_first loads) key

pub apart_more : (loads : List Load) (load : Load) (least greatest : Key) → IsApart least greatest (found (changes_of load)) → IsApart least greatest (found (newest_first loads)) → IsApart least greatest (found (newest_first (loads ++ load ∷ [])))
apart_more loads load least greatest none none' = subst (λ (es : List (Key × NewestChange)). IsApart least greatest (found es)) (sym (newest_first-push loads load)) (apart_both (changes_of load) (newest_first loads) least greatest none none')

-- its keys are noted
pub run_noted : (loads : List Load) (load : Load) → finite.from_entries {R = key_cmp} (newest_first (loads ++ load ∷ [])) ≡ noted_by load.change (finite.from_entries (newest_first loads)) load.keys
run_noted loads load = finite.same_map key_total exact_key _ _ (λ key.
    finite.get-from_entries key_total (newest_first (loads ++ load ∷ [])) key
    ∙ found-push loads load key
    ∙ found_in load key (found (newest_first loads) key)
    ∙ ap (cond (list_any (same_key key) load.keys) (Some load.change)) (sym (finite.get-from_entries key_total (newest_first loads) key))
    ∙ sym (get-noted load.change (finite.from_entries (newest_first loads)) load.keys key))

-- what is found of its keys before it was not committed later
abbrev pub ComesAfter : List Load → Load → Type 0
ComesAfter loads load = (key : Key) (other : NewestChange) → list_any (same_key key) load.keys ≡ true → found (newest_first loads) key ≡ Some other → other.commit ≤ load.change.commit

over_first : (first : Load) (loads : List Load) (load : Load) → IsOver (newest_first loads) (changes_of first) → ComesAfter (first ∷ loads) load → IsOver (newest_first (loads ++ load ∷ [])) (changes_of first)
over_first first loads load over after key change other at there = by (list_any (same_key key) load.keys) refl (sym (found_in load key (found (newest_first loads) key)) ∙ sym (found-push loads load key) ∙ at)
  where
    both : found (newest_first (first ∷ loads)) key ≡ option_or (found (newest_first loads) key) (found (changes_of first) key)
    both = found-append (newest_first loads) (changes_of first) key

    here : list_any (same_key key) load.keys ≡ true → (o : Option NewestChange) → found (newest_first loads) key ≡ o → other.commit ≤ load.change.commit
    here e None is = after key other e (both ∙ ap (λ (o : Option NewestChange). option_or o (found (changes_of first) key)) is ∙ there)
    here e (Some last) is =
        let low = over key last other is there in
        let high = after key last e (both ∙ ap (λ (o : Option NewestChange). option_or o (found (changes_of first) key)) is) in
        omega (arith, low, high)

    by : (b : Bool) → list_any (same_key key) load.keys ≡ b → cond b (Some load.change) (found (newest_first loads) key) ≡ Some change → other.commit ≤ change.commit
    by true e is = let low = here e (found (newest_first loads) key) refl in let same : load.change ≡ change = cc is in subst (λ (c : NewestChange). other.commit ≤ c.commit) same low
    by false e is = over key change other is there

pub order_pushed : (loads : List Load) (load : Load) → AreInOrder loads → ComesAfter loads load → AreInOrder (loads ++ load ∷ [])
order_pushed [] load order after = (λ key change other at there. absurd (cc at), tt)
order_pushed (first ∷ loads) load order after = (over_first first loads load order.0 after, order_pushed loads load order.1 later)
  where
    later : ComesAfter loads load
    later key other e is = after key other e (found-append (newest_first loads) (changes_of first) key ∙ ap (λ (o : Option NewestChange). option_or o (found (changes_of first) key)) is)

pub comes_after : (loads : List Load) (load : Load) → All (λ (key : Key). ForSome (found (newest_first loads) key) (λ other. other.commit < load.change.commit)) load.keys → ComesAfter loads load
comes_after loads load older key other among at =
    let place = place_of load.keys key among in
    let less = older place.0 key place.1 other (ap (found (newest_first loads)) (place.2 key) ∙ at) in
    omega (arith, less)

-- ---- the first loads

pub newest_first-taken : (loads : List Load) (i : ℕ) (load : Load) → i < length loads → load ≡ get_or loads i load → newest_first (take (i + 1) loads) ≡ changes_of load ++ newest_first (take i loads)
newest_first-taken loads i load within is = ap newest_first (take_more loads i load within ∙ ap (λ (last : Load). take i loads ++ last ∷ []) (sym is)) ∙ newest_first-push (take i loads) load

pub length-taken : (loads : List Load) (i : ℕ) (load : Load) → i < length loads → load ≡ get_or loads i load → length (newest_first (take (i + 1) loads)) ≡ length (newest_first (take i loads)) + length load.keys
length-taken loads i load within is =
    let more = ap length (newest_first-taken loads i load within is) in
    let sum = length-append (changes_of load) (newest_first (take i loads)) in
    let own = length-load load.change load.keys in
    omega (arith, more, sum, own)

pub fewer_taken : (n : ℕ) (loads : List Load) → length (newest_first (take n loads)) ≤ length (newest_first loads)
fewer_taken zero loads = omega arith
fewer_taken (suc n) [] = omega arith
fewer_taken (suc n) (load ∷ loads) =
    let rest = fewer_taken n loads in
    let some = length-append (newest_first (take n loads)) (changes_of load) in
    let whole = length-append (newest_first loads) (changes_of load) in
    omega (arith, rest, some, whole)

-- ---- loads above a floor

module _ (floor : ℕ) where
  abbrev left : List Load → List Load
  left loads = filter (λ (load : Load). nat_lt floor load.change.commit) loads

  or_none : (o : Option NewestChange) → option_or o None ≡ o
  or_none None = refl
  or_none (Some change) = refl

  pub loads_above : (loads : List Load) → AreInOrder loads → (key : Key) → found (newest_first (left loads)) key ≡ above floor (found (newest_first loads) key)
  loads_above [] order key = refl
  loads_above (load ∷ loads) order key =
      by (loads_above loads order.1 key) (nat_lt floor load.change.commit) refl
      ∙ sym (ap (above floor) (found-append (newest_first loads) (changes_of load) key) ∙ above-or floor (found (newest_first loads) key) (found (changes_of load) key) (order.0 key))
    where
      by : found (newest_first (left loads)) key ≡ above floor (found (newest_first loads) key) → (b : Bool) → nat_lt floor load.change.commit ≡ b
          → found (newest_first (cond b (load ∷ left loads) (left loads))) key ≡ option_or (above floor (found (newest_first loads) key)) (above floor (found (changes_of load) key))
      by rest true e =
          found-append (newest_first (left loads)) (changes_of load) key
          ∙ ap (λ (o : Option NewestChange). option_or o (found (changes_of load) key)) rest
          ∙ ap (option_or (above floor (found (newest_first loads) key))) (sym (load_above floor load key ∙ ap (λ (b : Bool). cond b (found (changes_of load) key) None) e))
      by rest false e =
          rest ∙ sym (or_none (above floor (found (newest_first loads) key)))
          ∙ ap (option_or (above floor (found (newest_first loads) key))) (sym (load_above floor load key ∙ ap (λ (b : Bool). cond b (found (changes_of load) key) None) e))

  pub order_pruned : (loads : List Load) → AreInOrder loads → AreInOrder (left loads)
  order_pruned [] order = tt
  order_pruned (load ∷ loads) order = by (order_pruned loads order.1) (nat_lt floor load.change.commit)
    where
      over : IsOver (newest_first (left loads)) (changes_of load)
      over key change other at there = order.0 key change other (above_was floor (found (newest_first loads) key) change (sym (loads_above loads order.1 key) ∙ at)) there

      by : AreInOrder (left loads) → (b : Bool) → AreInOrder (cond b (load ∷ left loads) (left loads))
      by rest true = (over, rest)
      by rest false = rest

  pub fewer_left : (loads : List Load) → length (newest_first (left loads)) ≤ length (newest_first loads)
  fewer_left [] = omega arith
  fewer_left (load ∷ loads) = by (fewer_left loads) (nat_lt floor load.change.commit)
    where
      by : length (newest_first (left loads)) ≤ length (newest_first loads) → (b : Bool) → length (newest_first (cond b (load ∷ left loads) (left loads))) ≤ length (newest_first loads ++ changes_of load)
      by rest true = let sum = length-append (newest_first (left loads)) (changes_of load) in let whole = length-append (newest_first loads) (changes_of load) in omega (arith, rest, sum, whole)
      by rest false = let whole = length-append (newest_first loads) (changes_of load) in omega (arith, rest, whole)

-- ---- where a run finds room

pub none_above : (es : List (Key × NewestChange)) (room n : ℕ) → 0 < n → n ≤ room_under es room → es ≡ []
none_above [] room n some fits = refl
none_above (e ∷ es) room n some fits = absurd (omega (arith, some, fits))
