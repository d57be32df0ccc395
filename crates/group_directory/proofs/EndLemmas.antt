-- Versions that a commit ends in the open store, and the entries for the others.
use Rattle.std.proofs.Common.{◌≡◌, ℕ, ◌<◌, ◌+◌, Bool, true, false, not, ◌||◌, ◌&&◌, cond, List, [], ◌∷◌, ◌++◌, map, length, get_or, take, Option, Some, None, is_none, refl, sym, ap, ◌∙◌, arith}
use Rattle.std.specs.declared.cmp.Ordering.TheVariants.{Less}
use Rattle.std.specs.Ordering.{int_eq, is_eq}
use Rattle.std.specs.Option.{option_map}
use Rattle.std.specs.List.{All, AllPairs}
use Rattle.std.proofs.lemmas.List.{get_or-take, get_or_default, length-take-le, take_more}
use Rattle.std.proofs.lemmas.List.Elements.{recursion_from_All, filter_more}
use Rattle.std.proofs.lemmas.List.Folds.{list_any-append}
use Rattle.cs_types.specs.declared.Key.{Key}
use Rattle.cs_types.specs.Keys.{key_cmp, same_key}
use Rattle.cs_types.proofs.KeyLemmas.{one_key}
use Rattle.delta_store.specs.declared.version.KeyedVersion.{KeyedVersion}
use Rattle.delta_store.specs.Versions as store
use Rattle.delta_store.specs.Versions.{ended_at}
use Rattle.delta_store.proofs.VersionLemmas as stored
use Rattle.group_book.specs.Book.{End, Version}
use Rattle.group_book.specs.Book.End.{At}
use Rattle.group_book.specs.Commits.{is_one_of, has_live, end_after, ended_by}
use Rattle.group_book.proofs.Lists.{list_any-none}
use Rattle.group_book.proofs.Keys.{key_is, key_here}
use Rattle.group_view.specs.Parts.{stored_version, stored_versions}
use Rattle.group_view.specs.Books.{versions_of}
use Rattle.group_directory.specs.Committing.{origin_of, not_live}

-- ---- keys

true_false : true ≡ false → ⊥
true_false h = cc

same_is : (a b : Key) → same_key a b ≡ int_eq b.0 a.0
same_is a b = step (same_key a b) (int_eq b.0 a.0) refl refl
  where
    step : (s t : Bool) → same_key a b ≡ s → int_eq b.0 a.0 ≡ t → s ≡ t
    step true true s_is t_is = refl
    step false false s_is t_is = refl
    step true false s_is t_is = absurd (true_false (sym (stored.key_itself a b (one_key a b s_is)) ∙ t_is))
    step false true s_is t_is = absurd (true_false (sym (key_here a b (stored.key_is b a t_is)) ∙ s_is))

same_turned : (a b : Key) → same_key a b ≡ same_key b a
same_turned a b = step (same_key a b) (same_key b a) refl refl
  where
    step : (s t : Bool) → same_key a b ≡ s → same_key b a ≡ t → s ≡ t
    step true true s_is t_is = refl
    step false false s_is t_is = refl
    step true false s_is t_is = absurd (true_false (sym (key_here b a (one_key a b s_is)) ∙ t_is))
    step false true s_is t_is = absurd (true_false (sym (key_here a b (one_key b a t_is)) ∙ s_is))

-- ---- the versions of a store as the book has them

none_map : (e : Option ℕ) → is_none (option_map At e) ≡ is_none e
none_map None = refl
none_map (Some end) = refl

pub live_same : (key : Key) (vs : List KeyedVersion) → has_live key (versions_of (stored_versions vs)) ≡ store.has_live key vs
live_same key [] = refl
live_same key (v ∷ vs) = rw (same_is key v.key, none_map v.version.end, live_same key vs) refl

ended_step : (t : Bool) (e : Option ℕ) (c : ℕ) → option_map At (cond (t && is_none e) (Some c) e) ≡ end_after (t || false) c (option_map At e)
ended_step true None c = refl
ended_step true (Some end) c = refl
ended_step false e c = refl

ended_one : (key : Key) (c : ℕ) (v : KeyedVersion) → (let rowed = stored_version (ended_at key c v) in rowed.version) ≡ ended_by (key ∷ []) c (let rowed = stored_version v in rowed.version)
ended_one key c v =
    let same : same_key v.key key ≡ int_eq v.key.0 key.0 = same_turned v.key key ∙ same_is key v.key in
    ap (λ (end : Option End). let version : Version = record { key = v.key; begin = v.version.begin; end = end } in version)
    (ended_step (int_eq v.key.0 key.0) v.version.end c ∙ ap (λ (t : Bool). end_after (t || false) c (option_map At v.version.end)) (sym same))

pub ended_same : (key : Key) (c : ℕ) (vs : List KeyedVersion) → versions_of (stored_versions (map (ended_at key c) vs)) ≡ map (ended_by (key ∷ []) c) (versions_of (stored_versions vs))
ended_same key c [] = refl
ended_same key c (v ∷ vs) = rw (ended_one key c v, ended_same key c vs) refl

pub origins_same : (key : Key) (c : ℕ) (vs : List KeyedVersion) → map origin_of (stored_versions (map (ended_at key c) vs)) ≡ map origin_of (stored_versions vs)
origins_same key c [] = refl
origins_same key c (v ∷ vs) = rw (origins_same key c vs) refl

-- ---- more keys

any_append : (q : Key) (ks ls : List Key) → is_one_of (ks ++ ls) q ≡ (is_one_of ks q || is_one_of ls q)
any_append q ks ls = list_any-append (same_key q) ks ls

end_twice : (t s : Bool) (c : ℕ) (e : Option End) → end_after (t || s) c e ≡ end_after s c (end_after t c e)
end_twice true true c None = refl
end_twice true false c None = refl
end_twice true true c (Some end) = refl
end_twice true false c (Some end) = refl
end_twice false true c e = refl
end_twice false false c e = refl

ended_more_one : (ks : List Key) (key : Key) (c : ℕ) (v : Version) → ended_by (ks ++ key ∷ []) c v ≡ ended_by (key ∷ []) c (ended_by ks c v)
ended_more_one ks key c v =
    ap (λ (end : Option End). let version : Version = record { key = v.key; begin = v.begin; end = end } in version)
    (ap (λ (t : Bool). end_after t c v.end) (any_append v.key ks (key ∷ [])) ∙ end_twice (is_one_of ks v.key) (is_one_of (key ∷ []) v.key) c v.end)

pub ended_more : (ks : List Key) (key : Key) (c : ℕ) (vs : List Version) → map (ended_by (ks ++ key ∷ []) c) vs ≡ map (ended_by (key ∷ []) c) (map (ended_by ks c) vs)
ended_more ks key c [] = refl
ended_more ks key c (v ∷ vs) = rw (ended_more_one ks key c v, ended_more ks key c vs) refl

pub ended_none : (c : ℕ) (vs : List Version) → map (ended_by [] c) vs ≡ vs
ended_none c [] = refl
ended_none c (v ∷ vs) = rw (ended_none c vs) refl

-- a key that is none of the ended ones is live where it was
live_step : (ks : List Key) (key : Key) (c : ℕ) (v : Version) (t : Bool) → same_key key v.key ≡ t → is_one_of ks key ≡ false → (t && is_none (end_after (is_one_of ks v.key) c v.end)) ≡ (t && is_none v.end)
live_step ks key c v false t_is apart = refl
live_step ks key c v true t_is apart = rw (key_is key v.key t_is, apart) refl

pub live_kept : (ks : List Key) (key : Key) (c : ℕ) (vs : List Version) → is_one_of ks key ≡ false → has_live key (map (ended_by ks c) vs) ≡ has_live key vs
live_kept ks key c [] apart = refl
live_kept ks key c (v ∷ vs) apart = rw (live_step ks key c v (same_key key v.key) refl apart, live_kept ks key c vs apart) refl

-- a key of an ascending list is none of those before it
pub less_apart : (a b : Key) → key_cmp a b ≡ Less → same_key b a ≡ false
less_apart a b less = same_turned b a ∙ ap is_eq less

pub apart_before : (keys : List Key) (i : ℕ) (d : Key) → AllPairs (λ a b. key_cmp a b ≡ Less) keys → i < length keys → is_one_of (take i keys) (get_or keys i d) ≡ false
apart_before keys i d up there =
    list_any-none (same_key (get_or keys i d)) (take i keys)
    (recursion_from_All (λ (k : Key). same_key (get_or keys i d) k ≡ false) (take i keys) each)
  where
    each : All (λ (k : Key). same_key (get_or keys i d) k ≡ false) (take i keys)
    each k e below =
        let near : k < i = omega (arith, below, length-take-le i keys (omega (arith, there))) in
        let same : get_or (take i keys) k e ≡ get_or keys k d = get_or-take i keys k e near ∙ sym (get_or_default keys k d e (omega (arith, near, there))) in
        rw same (less_apart (get_or keys k d) (get_or keys i d) (up k i d near there))

-- ---- one key more of those in a list

module _ (keys : List Key) (i : ℕ) (d : Key) (c : ℕ) (old now : List KeyedVersion) (there : i < length keys)
    (so_far : versions_of (stored_versions now) ≡ map (ended_by (take i keys) c) (versions_of (stored_versions old))) where
  pub ended_next : (new : List KeyedVersion) → new ≡ map (ended_at (get_or keys i d) c) now → versions_of (stored_versions new) ≡ map (ended_by (take (i + 1) keys) c) (versions_of (stored_versions old))
  ended_next new is =
      ap (λ (vs : List KeyedVersion). versions_of (stored_versions vs)) is
      ∙ ended_same (get_or keys i d) c now
      ∙ ap (map (ended_by (get_or keys i d ∷ []) c)) so_far
      ∙ sym (ended_more (take i keys) (get_or keys i d) c (versions_of (stored_versions old)))
      ∙ ap (λ (ks : List Key). map (ended_by ks c) (versions_of (stored_versions old))) (sym (take_more keys i d there))

  pub others_next : (found : Bool) → found ≡ store.has_live (get_or keys i d) now → AllPairs (λ a b. key_cmp a b ≡ Less) keys
      → not_live (versions_of (stored_versions old)) (take (i + 1) keys) ≡ not_live (versions_of (stored_versions old)) (take i keys) ++ cond (not found) (get_or keys i d ∷ []) []
  others_next found is up =
      filter_more (λ (key : Key). not (has_live key (versions_of (stored_versions old)))) keys i d there
      ∙ ap (λ (t : Bool). not_live (versions_of (stored_versions old)) (take i keys) ++ cond (not t) (get_or keys i d ∷ []) [])
      (sym (is ∙ sym (live_same (get_or keys i d) now) ∙ ap (has_live (get_or keys i d)) so_far ∙ live_kept (take i keys) (get_or keys i d) c (versions_of (stored_versions old)) (apart_before keys i d up there)))
