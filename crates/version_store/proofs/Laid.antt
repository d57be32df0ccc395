-- Look-ups among changes that are laid over older ones, and the finite maps of them.
use Rattle.std.proofs.Common.{◌≡◌, ℕ, ◌+◌, ◌<◌, ◌≤◌, arith, Bool, true, false, ◌||◌, cond, List, [], ◌∷◌, ◌++◌, length, refl, sym, ◌∙◌, ap, subst, Option, Some, None, is_some, nat_lt}
use Rattle.std.specs.List.{filter, list_any, IsDistinct}
use Rattle.std.specs.Map.{lookup, keys_of}
use Rattle.std.specs.Option.{option_or, ForSome}
use Rattle.std.specs.Ordering.{eq_by_cmp}
use Rattle.std.specs.FinMap as finite
use Rattle.std.proofs.lemmas.Bool.Decides.{nat_tests}
use Rattle.std.proofs.lemmas.Cmp.{eq_by_cmp_equiv}
use Rattle.std.proofs.lemmas.Map.Entries.{option_filter, lookup-filter-values}
use Rattle.cs_types.specs.declared.Key.{Key}
use Rattle.cs_types.specs.Keys.{key_cmp, same_key}
use Rattle.cs_types.proofs.KeyLemmas.{key_total, exact_key, one_key}
use Rattle.version_store.specs.declared.NewestChange.{NewestChange}
use Rattle.version_store.specs.Newest.{Changes, noted_by, IsApart, above}
use Rattle.version_store.specs.Loads.{found, IsOver}

-- ---- one list over another

or_step : (b : Bool) (change : NewestChange) (o p : Option NewestChange) → cond b (Some change) (option_or o p) ≡ option_or (cond b (Some change) o) p
or_step true change o p = refl
or_step false change o p = refl

pub found-append : (es fs : List (Key × NewestChange)) (key : Key) → found (es ++ fs) key ≡ option_or (found es key) (found fs key)
found-append [] fs key = refl
found-append (e ∷ es) fs key = ap (cond (eq_by_cmp key_cmp key e.0) (Some e.1)) (found-append es fs key) ∙ or_step (eq_by_cmp key_cmp key e.0) e.1 (found es key) (found fs key)

pub get-laid : (es fs : List (Key × NewestChange)) (key : Key) → finite.get (finite.from_entries {R = key_cmp} (es ++ fs)) key ≡ option_or (found es key) (found fs key)
get-laid es fs key = finite.get-from_entries key_total (es ++ fs) key ∙ found-append es fs key

pub found-lookup : (es : List (Key × NewestChange)) (key : Key) → found es key ≡ lookup (eq_by_cmp key_cmp key) es
found-lookup [] key = refl
found-lookup (e ∷ es) key = ap (cond (eq_by_cmp key_cmp key e.0) (Some e.1)) (found-lookup es key)

-- no key between the two has a change in either
pub apart_both : (es fs : List (Key × NewestChange)) (least greatest : Key) → IsApart least greatest (found es) → IsApart least greatest (found fs) → IsApart least greatest (found (es ++ fs))
apart_both es fs least greatest none none' key within = found-append es fs key ∙ ap (λ (o : Option NewestChange). option_or o (found fs key)) (none key within) ∙ none' key within

-- the map has at most one change for each
pub len_at_most : (es : List (Key × NewestChange)) → finite.len (finite.from_entries {R = key_cmp} es) ≤ length es
len_at_most [] = let none = finite.len-empty key_cmp NewestChange in omega (arith, none)
len_at_most (e ∷ es) =
    let rest = finite.from_entries {R = key_cmp} es in
    let fewer = len_at_most es in
    let one = finite.len-insert key_total rest e.0 e.1 in
    by (is_some (finite.get rest e.0)) (finite.len rest) (finite.len (finite.insert rest e.0 e.1)) one fewer
  where
    by : (b : Bool) (was now : ℕ) → now ≡ cond b was (was + 1) → was ≤ length es → now ≤ length (e ∷ es)
    by true was now is le = omega (arith, is, le)
    by false was now is le = omega (arith, is, le)

-- ---- a change of the upper list

module _ (es es' fs : List (Key × NewestChange)) where
  abbrev over : Changes
  over = finite.from_entries {R = key_cmp} (es ++ fs)

  abbrev over' : Changes
  over' = finite.from_entries {R = key_cmp} (es' ++ fs)

  -- look-ups that find the same make the same map
  module _ (same : (key : Key) → lookup (eq_by_cmp key_cmp key) es' ≡ lookup (eq_by_cmp key_cmp key) es) where
    same_found : (key : Key) → found es' key ≡ found es key
    same_found key = found-lookup es' key ∙ same key ∙ sym (found-lookup es key)

    pub same_changes : over' ≡ over
    same_changes = finite.same_map key_total exact_key _ _ (λ key. get-laid es' fs key ∙ ap (λ (o : Option NewestChange). option_or o (found fs key)) (same_found key) ∙ sym (get-laid es fs key))

    pub same_over : IsOver es fs → IsOver es' fs
    same_over is key change other at = is key change other (sym (same_found key) ∙ at)

  -- look-ups that find one change more make the map with it
  module _ (key : Key) (change : NewestChange) (more : (q : Key) → lookup (eq_by_cmp key_cmp q) es' ≡ cond (eq_by_cmp key_cmp key q) (Some change) (lookup (eq_by_cmp key_cmp q) es)) where
    more_found : (q : Key) → found es' q ≡ cond (same_key q key) (Some change) (found es q)
    more_found q =
        found-lookup es' q ∙ more q
        ∙ ap (λ (b : Bool). cond b (Some change) (lookup (eq_by_cmp key_cmp q) es)) ((eq_by_cmp_equiv key_total).symm key q)
        ∙ ap (cond (same_key q key) (Some change)) (sym (found-lookup es q))

    pub one_change : over' ≡ finite.insert over key change
    one_change = finite.same_map key_total exact_key _ _ (λ q.
        get-laid es' fs q
        ∙ ap (λ (o : Option NewestChange). option_or o (found fs q)) (more_found q)
        ∙ sym (or_step (same_key q key) change (found es q) (found fs q))
        ∙ ap (cond (same_key q key) (Some change)) (sym (get-laid es fs q))
        ∙ sym (finite.get-insert key_total over key change q))

    pub one_over : IsOver es fs → ForSome (finite.get over key) (λ other. other.commit < change.commit) → IsOver es' fs
    one_over is older q now other at there = by (same_key q key) refl (sym (more_found q) ∙ at)
      where
        laid : finite.get over key ≡ option_or (found es key) (found fs key)
        laid = get-laid es fs key

        low : found fs key ≡ Some other → (o : Option NewestChange) → found es key ≡ o → other.commit ≤ change.commit
        low here None e = let less = older other (laid ∙ ap (λ (o : Option NewestChange). option_or o (found fs key)) e ∙ here) in omega (arith, less)
        low here (Some last) e =
            let less = older last (laid ∙ ap (λ (o : Option NewestChange). option_or o (found fs key)) e) in
            let le = is key last other e here in
            omega (arith, less, le)

        by : (b : Bool) → same_key q key ≡ b → cond b (Some change) (found es q) ≡ Some now → other.commit ≤ now.commit
        by true e at' =
            let here : found fs key ≡ Some other = subst (λ (k : Key). found fs k ≡ Some other) (one_key q key e) there in
            let le = low here (found es key) refl in
            let same : change ≡ now = cc at' in
            subst (λ (c : NewestChange). other.commit ≤ c.commit) same le
        by false e at' = is q now other at' there

-- ---- a prune

pub above_was : (floor : ℕ) (o : Option NewestChange) (change : NewestChange) → above floor o ≡ Some change → o ≡ Some change
above_was floor None change is = absurd (cc is)
above_was floor (Some was) change is = by (nat_lt floor was.commit) is
  where
    by : (b : Bool) → cond b (Some was) None ≡ Some change → Some was ≡ Some change
    by true e = e
    by false e = absurd (cc e)

pub above-or : (floor : ℕ) (o p : Option NewestChange) → ((change other : NewestChange) → o ≡ Some change → p ≡ Some other → other.commit ≤ change.commit) → above floor (option_or o p) ≡ option_or (above floor o) (above floor p)
above-or floor None p older = refl
above-or floor (Some change) None older = by (nat_lt floor change.commit)
  where
    by : (b : Bool) → cond b (Some change) None ≡ option_or (cond b (Some change) None) None
    by true = refl
    by false = refl
above-or floor (Some change) (Some other) older = by (nat_lt floor change.commit) refl
  where
    low : nat_lt floor change.commit ≡ false → nat_lt floor other.commit ≡ false
    low e = let le = older change other refl refl in grind (arith, nat_tests, le, e)

    by : (b : Bool) → nat_lt floor change.commit ≡ b → cond b (Some change) None ≡ option_or (cond b (Some change) None) (above floor (Some other))
    by true e = refl
    by false e = sym (ap (λ (b : Bool). cond b (Some other) None) (low e))

above-filter : (floor : ℕ) (o : Option NewestChange) → option_filter (λ (change : NewestChange). nat_lt floor change.commit) o ≡ above floor o
above-filter floor None = refl
above-filter floor (Some change) = refl

-- what a look-up finds among the entries above the floor
pub kept_above : (floor : ℕ) (es fs : List (Key × NewestChange)) → IsDistinct (eq_by_cmp key_cmp) (keys_of es) → fs ≡ filter (λ (e : Key × NewestChange). nat_lt floor e.1.commit) es → (key : Key) → found fs key ≡ above floor (found es key)
kept_above floor es fs distinct kept key =
    found-lookup fs key
    ∙ ap (λ (list : List (Key × NewestChange)). lookup (eq_by_cmp key_cmp key) list) kept
    ∙ lookup-filter-values (eq_by_cmp_equiv key_total) (λ (change : NewestChange). nat_lt floor change.commit) key es distinct
    ∙ above-filter floor (lookup (eq_by_cmp key_cmp key) es)
    ∙ ap (above floor) (sym (found-lookup es key))

module _ (floor : ℕ) (es es' fs fs' : List (Key × NewestChange)) (upper : (key : Key) → found es' key ≡ above floor (found es key)) (lower : (key : Key) → found fs' key ≡ above floor (found fs key)) where
  pub over_pruned : IsOver es fs → IsOver es' fs'
  over_pruned is key change other at there = is key change other (above_was floor (found es key) change (sym (upper key) ∙ at)) (above_was floor (found fs key) other (sym (lower key) ∙ there))

  pub found_pruned : IsOver es fs → (key : Key) → found (es' ++ fs') key ≡ above floor (found (es ++ fs) key)
  found_pruned is key =
      found-append es' fs' key
      ∙ ap (λ (o : Option NewestChange). option_or o (found fs' key)) (upper key)
      ∙ ap (option_or (above floor (found es key))) (lower key)
      ∙ sym (ap (above floor) (found-append es fs key) ∙ above-or floor (found es key) (found fs key) (is key))

  pub changes_pruned : IsOver es fs → (key : Key) → finite.get (finite.from_entries {R = key_cmp} (es' ++ fs')) key ≡ above floor (finite.get (finite.from_entries {R = key_cmp} (es ++ fs)) key)
  changes_pruned is key = finite.get-from_entries key_total (es' ++ fs') key ∙ found_pruned is key ∙ ap (above floor) (sym (finite.get-from_entries key_total (es ++ fs) key))

-- ---- the keys of a commit

noted_step : (p q : Bool) (note : NewestChange) (o : Option NewestChange) → cond q (Some note) (cond p (Some note) o) ≡ cond (p || q) (Some note) o
noted_step true true note o = refl
noted_step true false note o = refl
noted_step false q note o = refl

pub get-noted : (note : NewestChange) (noted : Changes) (keys : List Key) (key : Key) → finite.get (noted_by note noted keys) key ≡ cond (list_any (same_key key) keys) (Some note) (finite.get noted key)
get-noted note noted [] key = refl
get-noted note noted (k ∷ keys) key =
    get-noted note (finite.insert noted k note) keys key
    ∙ ap (cond (list_any (same_key key) keys) (Some note)) (finite.get-insert key_total noted k note key)
    ∙ noted_step (same_key key k) (list_any (same_key key) keys) note (finite.get noted key)
