-- The last place of a key, and its live version.
use Rattle.std.proofs.Common.{◌≡◌, ℕ, zero, suc, ◌<◌, ◌≤◌, ◌+◌, ◌≢◌, Bool, true, false, ◌&&◌, ◌||◌, cond, List, [], ◌∷◌, ◌++◌, map, length, get_or, set, slice_get, Option, Some, None, is_none, is_some, refl, sym, ap, ◌∙◌, add-one, arith}
use Rattle.std.specs.List.{AllWithin}
use Rattle.std.specs.Option.{option_map}
use Rattle.cs_types.specs.declared.row.Version.{Version}
use Rattle.cs_types.specs.declared.Key.{Key}
use Rattle.cs_types.specs.Keys.{same_key}
use Rattle.cs_types.proofs.KeyLemmas.{one_key}
use Rattle.delta_store.specs.declared.version.KeyedVersion.{KeyedVersion}
use Rattle.delta_store.specs.Index.{SetsOnly, HaveSamePlaces, place_in}
use Rattle.delta_store.proofs.Pairs.{alike}
use Rattle.delta_store.specs.Versions.{is_of, is_live, has_live, ended_at, is_ended, IsLastPlace, AreByBegin}
use Rattle.delta_store.specs.Places.{one_on, last_place, AreEndedButLast, IsIndexed}

-- keys that test alike are one, and one key tests alike
pub key_is : (a b : Key) → same_key a b ≡ true → a ≡ b
key_is = one_key

pub key_itself : (a b : Key) → a ≡ b → same_key b a ≡ true
key_itself a b is = alike b a (ap (λ (k : Key). k.0) (sym is))

-- the place after the last version is that of its key, and every other key keeps its place
last_place-push_step : (o : Option ℕ) (t s : Bool) (n : ℕ) → one_on (cond t (Some n) o) s ≡ cond t (Some (n + 1)) (one_on o s)
last_place-push_step o true s n = refl
last_place-push_step o false s n = refl

pub last_place-push : (vs : List KeyedVersion) (v : KeyedVersion) (q : Key) → last_place (vs ++ v ∷ []) q ≡ cond (is_of q v) (Some (length vs)) (last_place vs q)
last_place-push [] v q = step (is_of q v)
  where
    step : (t : Bool) → one_on None t ≡ cond t (Some 0) None
    step true = refl
    step false = refl
last_place-push (u ∷ vs) v q = rw (last_place-push vs v q) (last_place-push_step (last_place vs q) (is_of q v) (is_of q u) (length vs) ∙ ap (λ n. cond (is_of q v) (Some n) (one_on (last_place vs q) (is_of q u))) (omega arith))

-- a version after them all leaves the others ended but the last of each key, where its key has no live version
ended-push_step : (u v : KeyedVersion) (vs : List KeyedVersion) (t : Bool) → is_of u.key v ≡ t → (is_live v.key u || has_live v.key vs) ≡ false → (is_none (last_place vs u.key) || is_ended u) ≡ true → (is_none (cond t (Some (length vs)) (last_place vs u.key)) || is_ended u) ≡ true
ended-push_step u v vs false is dead was = was
ended-push_step u v vs true is dead was = step (is_of v.key u) u.version.end (key_itself v.key u.key (key_is v.key u.key is)) dead
  where
    step : (s : Bool) (o : Option ℕ) → s ≡ true → ((s && is_none o) || has_live v.key vs) ≡ false → is_some o ≡ true
    step true None is_s h = cc
    step true (Some e) is_s h = refl
    step false o is_s h = cc

dead_rest : (a b : Bool) → (a || b) ≡ false → b ≡ false
dead_rest true b h = cc
dead_rest false b h = h

pub ended-push : (vs : List KeyedVersion) (v : KeyedVersion) → AreEndedButLast vs → has_live v.key vs ≡ false → AreEndedButLast (vs ++ v ∷ [])
ended-push [] v ended dead = (refl, tt)
ended-push (u ∷ vs) v ended dead = (
  rw (last_place-push vs v u.key) (ended-push_step u v vs (is_of u.key v) refl dead ended.0),
  ended-push vs v ended.1 (dead_rest (is_live v.key u) (has_live v.key vs) dead),
)

-- an index that was given the place of the new version has the last places
pub IsIndexed-push : (vs : List KeyedVersion) (v : KeyedVersion) (old new : List (Key × ℕ)) → SetsOnly old new v.key (length vs) → has_live v.key vs ≡ false → IsIndexed vs old → IsIndexed (vs ++ v ∷ []) new
IsIndexed-push vs v old new sets dead ok = record {
  places = λ q. sets q ∙ ap (λ (o : Option ℕ). cond (is_of q v) (Some (length vs)) o) (ok.places q) ∙ sym (last_place-push vs v q);
  ended = ended-push vs v ok.ended dead;
}

-- so has one that has the same places
pub IsIndexed-same : (vs : List KeyedVersion) (old new : List (Key × ℕ)) → HaveSamePlaces old new → IsIndexed vs old → IsIndexed vs new
IsIndexed-same vs old new same ok = record { places = λ q. same q ∙ ok.places q; ended = ok.ended }

-- a key without a last place has no live version, and nothing changes where it is ended
dead_absent_step : (o : Option ℕ) (s n l : Bool) → one_on o s ≡ None → (o ≡ None → l ≡ false) → ((s && n) || l) ≡ false
dead_absent_step (Some p) s n l is rest = cc
dead_absent_step None true n l is rest = cc
dead_absent_step None false n l is rest = rest refl

pub dead_absent : (vs : List KeyedVersion) (q : Key) → last_place vs q ≡ None → has_live q vs ≡ false
dead_absent [] q is = refl
dead_absent (v ∷ vs) q is = dead_absent_step (last_place vs q) (is_of q v) (is_none v.version.end) (has_live q vs) is (dead_absent vs q)

-- a key that has no place among some versions has none among those after the first
none_rest : (o : Option ℕ) (s : Bool) → one_on o s ≡ None → (o ≡ None) × (s ≡ false)
none_rest (Some p) s is = cc
none_rest None true is = cc
none_rest None false is = (refl, refl)

-- a version of another key, and one that is not live, stays as it is
ended_at-other : (v : KeyedVersion) (q : Key) (e : ℕ) → is_of q v ≡ false → ended_at q e v ≡ v
ended_at-other v q e is = rw is refl

pub map-absent : (vs : List KeyedVersion) (q : Key) (e : ℕ) → last_place vs q ≡ None → map (ended_at q e) vs ≡ vs
map-absent [] q e is = refl
map-absent (v ∷ vs) q e is =
    let parts = none_rest (last_place vs q) (is_of q v) is in
    rw (ended_at-other v q e parts.1, map-absent vs q e parts.0) refl

-- a last place is a place that is there
pub last_place_below : (vs : List KeyedVersion) (q : Key) (p : ℕ) → last_place vs q ≡ Some p → p < length vs
last_place_below [] q p is = cc
last_place_below (v ∷ vs) q p is = step (last_place vs q) (is_of q v) (last_place_below vs q) is
  where
    step : (o : Option ℕ) (s : Bool) → ((r : ℕ) → o ≡ Some r → r < length vs) → one_on o s ≡ Some p → p < length (v ∷ vs)
    step (Some r) s rest is = let same : r + 1 ≡ p = cc in omega (arith, rest r refl)
    step None true rest is = let same : 0 ≡ p = cc in omega arith
    step None false rest is = cc

-- a version with a later one of its key is not live
settled : (v : KeyedVersion) (vs : List KeyedVersion) (q : Key) (r : ℕ) → last_place vs q ≡ Some r → (is_none (last_place vs v.key) || is_ended v) ≡ true → is_live q v ≡ false
settled v vs q r later ended = step (is_of q v) refl
  where
    step : (s : Bool) → is_of q v ≡ s → (s && is_none v.version.end) ≡ false
    step false is = refl
    step true is = over v.version.end (rw (key_is v.key q is, later) at ended)
      where
        over : (o : Option ℕ) → (false || is_some o) ≡ true → (true && is_none o) ≡ false
        over None h = cc
        over (Some e) h = refl

ended_at-settled : (v : KeyedVersion) (q : Key) (e : ℕ) → is_live q v ≡ false → ended_at q e v ≡ v
ended_at-settled v q e dead = rw dead refl

-- the live version of a key stands at its last place
pub live_at : (vs : List KeyedVersion) (q : Key) (p : ℕ) (d : KeyedVersion) → AreEndedButLast vs → last_place vs q ≡ Some p → has_live q vs ≡ is_live q (get_or vs p d)
live_at [] q p d ended is = cc
live_at (v ∷ vs) q p d ended is = step (last_place vs q) (is_of q v) p refl is (λ r r_is. live_at vs q r d ended.1 r_is) (dead_absent vs q)
  where
    step : (o : Option ℕ) (s : Bool) (p : ℕ) → last_place vs q ≡ o → one_on o s ≡ Some p → ((r : ℕ) → last_place vs q ≡ Some r → has_live q vs ≡ is_live q (get_or vs r d)) → (last_place vs q ≡ None → has_live q vs ≡ false) → (is_live q v || has_live q vs) ≡ is_live q (get_or (v ∷ vs) p d)
    step (Some r) s p o_is is rest none =
        let same : r + 1 ≡ p = cc in
        rw (← same, settled v vs q r o_is ended.0) (rw add-one (rest r o_is))
    step None true p o_is is rest none =
        let same : 0 ≡ p = cc in
        rw (← same, none o_is) (or-false (is_live q v))
      where
        or-false : (t : Bool) → (t || false) ≡ t
        or-false true = refl
        or-false false = refl
    step None false p o_is is rest none = cc

-- to end the version at the last place of a key is to end its live version
pub map_at : (vs : List KeyedVersion) (q : Key) (e p : ℕ) (d : KeyedVersion) → AreEndedButLast vs → last_place vs q ≡ Some p → map (ended_at q e) vs ≡ set vs p (ended_at q e (get_or vs p d))
map_at [] q e p d ended is = cc
map_at (v ∷ vs) q e p d ended is = step (last_place vs q) (is_of q v) p refl is (λ r r_is. map_at vs q e r d ended.1 r_is) (map-absent vs q e)
  where
    step : (o : Option ℕ) (s : Bool) (p : ℕ) → last_place vs q ≡ o → one_on o s ≡ Some p → ((r : ℕ) → last_place vs q ≡ Some r → map (ended_at q e) vs ≡ set vs r (ended_at q e (get_or vs r d))) → (last_place vs q ≡ None → map (ended_at q e) vs ≡ vs) → (ended_at q e v ∷ map (ended_at q e) vs) ≡ set (v ∷ vs) p (ended_at q e (get_or (v ∷ vs) p d))
    step (Some r) s p o_is is rest none =
        let same : r + 1 ≡ p = cc in
        rw (← same, add-one, ended_at-settled v q e (settled v vs q r o_is ended.0), rest r o_is) refl
    step None true p o_is is rest none =
        let same : 0 ≡ p = cc in
        rw (← same, none o_is) refl
    step None false p o_is is rest none = cc

-- an end moves no place
pub last_place-map : (vs : List KeyedVersion) (q k : Key) (e : ℕ) → last_place (map (ended_at q e) vs) k ≡ last_place vs k
last_place-map [] q k e = refl
last_place-map (v ∷ vs) q k e = ap (λ (o : Option ℕ). one_on o (is_of k v)) (last_place-map vs q k e)

pub ended-map : (vs : List KeyedVersion) (q : Key) (e : ℕ) → AreEndedButLast vs → AreEndedButLast (map (ended_at q e) vs)
ended-map [] q e ended = tt
ended-map (v ∷ vs) q e ended = (rw (last_place-map vs q v.key e) (step (is_none (last_place vs v.key)) (is_live q v) v.version.end ended.0), ended-map vs q e ended.1)
  where
    step : (n t : Bool) (o : Option ℕ) → (n || is_some o) ≡ true → (n || is_some (cond t (Some e) o)) ≡ true
    step true t o h = refl
    step false true o h = refl
    step false false o h = h

pub IsIndexed-map : (vs : List KeyedVersion) (pairs : List (Key × ℕ)) (q : Key) (e : ℕ) → IsIndexed vs pairs → IsIndexed (map (ended_at q e) vs) pairs
IsIndexed-map vs pairs q e ok = record {
  places = λ k. ok.places k ∙ sym (last_place-map vs q k e);
  ended = ended-map vs q e ok.ended;
}

has_live-ended_step : (s l : Bool) (o : Option ℕ) (e : ℕ) → l ≡ false → ((s && is_none (cond (s && is_none o) (Some e) o)) || l) ≡ false
has_live-ended_step false l o e rest = rest
has_live-ended_step true l None e rest = rest
has_live-ended_step true l (Some old) e rest = rest

-- a key has no live version once it was ended
pub has_live-ended : (vs : List KeyedVersion) (q : Key) (e : ℕ) → has_live q (map (ended_at q e) vs) ≡ false
has_live-ended [] q e = refl
has_live-ended (v ∷ vs) q e = has_live-ended_step (is_of q v) (has_live q (map (ended_at q e) vs)) v.version.end e (has_live-ended vs q e)

-- the place that the index has is that of the last version of the key
pub IsLastPlace-last_place : (vs : List KeyedVersion) (q : Key) → IsLastPlace vs q (last_place vs q)
IsLastPlace-last_place [] q = λ k d below. absurd (omega arith)
IsLastPlace-last_place (v ∷ vs) q = step (last_place vs q) (is_of q v) refl (IsLastPlace-last_place vs q)
  where
    step : (o : Option ℕ) (s : Bool) → is_of q v ≡ s → IsLastPlace vs q o → IsLastPlace (v ∷ vs) q (one_on o s)
    step (Some p) s is last = (omega (arith, last.0), (λ d. rw add-one (last.1 d)), later)
      where
        later : (k : ℕ) (d : KeyedVersion) → p + 1 + 1 ≤ k → k < length (v ∷ vs) → (get_or (v ∷ vs) k d).key ≢ q
        later zero d from below = absurd (omega arith)
        later (suc k) d from below = last.2 k d (omega arith) (omega arith)
    step None true is none = (omega arith, (λ d. key_is v.key q is), later)
      where
        later : (k : ℕ) (d : KeyedVersion) → 0 + 1 ≤ k → k < length (v ∷ vs) → (get_or (v ∷ vs) k d).key ≢ q
        later zero d from below = absurd (omega arith)
        later (suc k) d from below = none k d (omega arith)
    step None false is none = all
      where
        differ : true ≡ false → ⊥
        differ e = cc

        all : (k : ℕ) (d : KeyedVersion) → k < length (v ∷ vs) → (get_or (v ∷ vs) k d).key ≢ q
        all zero d below = λ same. differ (sym (key_itself q v.key (sym same)) ∙ is)
        all (suc k) d below = none k d (omega arith)

-- a key without a place has no version
pub absent : (vs : List KeyedVersion) (pairs : List (Key × ℕ)) (q : Key) → IsIndexed vs pairs → place_in pairs q ≡ None → last_place vs q ≡ None
absent vs pairs q ok has = sym (ok.places q) ∙ has

-- ---- versions by their begins

version_read : (vs : List KeyedVersion) (i : ℕ) (w : Version) → option_map (λ (v : KeyedVersion). v.version) (slice_get vs i) ≡ Some w → (d : KeyedVersion) → (get_or vs i d).version ≡ w
version_read [] i w is d = absurd (cc)
version_read (v ∷ vs) zero w is d = cc
version_read (v ∷ vs) (suc i) w is d = version_read vs i w is d

module _ (vs : List KeyedVersion) (by_begin : AreByBegin vs) (begin m : ℕ) (w : Version) (there : m < length vs) (is : option_map (λ (v : KeyedVersion). v.version) (slice_get vs m) ≡ Some w) where
  -- up to a version that doesn't begin after the commit none does
  pub none_up_to : w.begin ≤ begin → AllWithin (λ (v : KeyedVersion). v.version.begin ≤ begin) vs 0 (m + 1)
  none_up_to early k d from below =
      let rise = by_begin k m d (omega arith) there in
      let same = ap (λ (u : Version). u.begin) (version_read vs m w is d) in
      omega (arith, rise, same, early)

  -- and from one on that does all do
  pub all_from : begin < w.begin → AllWithin (λ (v : KeyedVersion). begin < v.version.begin) vs m (length vs)
  all_from late k d from below =
      let rise = by_begin m k d from below in
      let same = ap (λ (u : Version). u.begin) (version_read vs m w is d) in
      omega (arith, rise, same, late)
