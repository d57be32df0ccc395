-- Stored versions: their links, by when those before had ended, the number of those that have an end, and their live versions.
use Rattle.std.proofs.Common.{◌≡◌, ℕ, zero, suc, ◌+◌, ◌<◌, ◌≤◌, Bool, true, false, ◌&&◌, ◌||◌, cond, List, [], ◌∷◌, ◌++◌, map, length, take, get_or, set, slice_get, slice_index_or, Option, Some, None, is_none, is_some, IfNone, IfSome, count_by, refl, sym, ap, ◌∙◌, subst, inl, inr, arith}
use Rattle.std.specs.Option.{option_map}
use Rattle.std.proofs.lemmas.Bool.{cases_eq, cases_lt}
use Rattle.std.proofs.lemmas.List.{map-append, map-set, length-map, take-append-le, take_all, take-map}
use Rattle.std.proofs.lemmas.List.Recursion.{is_count_by}
use Rattle.std.proofs.lemmas.List.Sums.{count_by-le-length}
use Rattle.std.proofs.lemmas.Option.{slice_get-map, slice_get_within, get_or_from_slice_get}
use Rattle.std.proofs.Math.Seq.{map-set_same}
use Rattle.cs_types.specs.declared.Key.{Key}
use Rattle.delta_store.specs.declared.version.KeyedVersion.{KeyedVersion}
use Rattle.delta_store.specs.declared.version.LinkedVersion.{LinkedVersion}
use Rattle.delta_store.specs.Chunks.{linked_ended}
use Rattle.delta_store.specs.Index.{place_in, SetsOnly, HaveSamePlaces}
use Rattle.delta_store.specs.Versions.{is_of, is_live, has_live, ended_at, is_ended, IsEarlier, IsEndedBy, IsLastPlace}
use Rattle.delta_store.specs.Places.{last_place, one_on, AreEndedButLast, keyed_in, AreLinked, AreEndedInTurn, IsEndedAfter, IsStored, IsLiveAt}
use Rattle.delta_store.proofs.Parts.{get_front}
use Rattle.delta_store.proofs.VersionLemmas.{key_is, key_itself, last_place-map, IsIndexed-push, IsIndexed-map, IsIndexed-same, IsLastPlace-last_place, live_at, map_at, absent, dead_absent, last_place_below}

-- ---- lists

get_last : {X : Type 0} (xs : List X) (y : X) → slice_get (xs ++ y ∷ []) (length xs) ≡ Some y
get_last [] y = refl
get_last (x ∷ xs) y = get_last xs y

get_beyond : {X : Type 0} (xs : List X) (y : X) (i : ℕ) → length xs < i → slice_get (xs ++ y ∷ []) i ≡ None
get_beyond [] y zero past = absurd (omega (arith, past))
get_beyond [] y (suc i) past = refl
get_beyond (x ∷ xs) y zero past = absurd (omega (arith, past))
get_beyond (x ∷ xs) y (suc i) past = get_beyond xs y i (omega (arith, past))

element : {X : Type 0} (xs : List X) (i : ℕ) → i < length xs → (x : X) × (slice_get xs i ≡ Some x)
element [] i below = absurd (omega (arith, below))
element (x ∷ xs) zero below = (x, refl)
element (x ∷ xs) (suc i) below = element xs i (omega (arith, below))

abbrev how_many : {X : Type 0} → (X → Bool) → List X → ℕ
how_many p [] = 0
how_many p (x ∷ xs) = cond (p x) (1 + how_many p xs) (how_many p xs)

counts : {X : Type 0} (p : X → Bool) (xs : List X) → how_many p xs ≡ count_by p xs
counts p xs = is_count_by (how_many p) p refl (λ x xs. refl) xs

how_many-set : {X : Type 0} (p : X → Bool) (xs : List X) (i : ℕ) (x y : X) → slice_get xs i ≡ Some x → p x ≡ false → p y ≡ true → how_many p (set xs i y) ≡ how_many p xs + 1
how_many-set p [] i x y is off on = cc
how_many-set p (z ∷ xs) zero x y is off on =
    let same : z ≡ x = cc in
    let old : p z ≡ false = ap p same ∙ off in
    rw (on, old) (omega arith)
how_many-set p (z ∷ xs) (suc i) x y is off on = step (p z) (how_many-set p xs i x y is off on)
  where
    step : (t : Bool) → how_many p (set xs i y) ≡ how_many p xs + 1 → cond t (1 + how_many p (set xs i y)) (how_many p (set xs i y)) ≡ cond t (1 + how_many p xs) (how_many p xs) + 1
    step true h = omega (arith, h)
    step false h = h

how_many-push : {X : Type 0} (p : X → Bool) (xs : List X) (x : X) → p x ≡ false → how_many p (xs ++ x ∷ []) ≡ how_many p xs
how_many-push p [] x off = rw off refl
how_many-push p (z ∷ xs) x off = ap (λ n. cond (p z) (1 + n) n) (how_many-push p xs x off)

-- ---- links

abbrev IsLinkedBy : List (Option ℕ) → List KeyedVersion → Type 0
IsLinkedBy links vs = (i : ℕ) → slice_get links i ≡ option_map (λ (v : KeyedVersion). last_place (take i vs) v.key) (slice_get vs i)

linked-push : (links : List (Option ℕ)) (vs : List KeyedVersion) (o : Option ℕ) (v : KeyedVersion) → length links ≡ length vs → IsLinkedBy links vs → o ≡ last_place vs v.key → IsLinkedBy (links ++ o ∷ []) (vs ++ v ∷ [])
linked-push links vs o v long linked is i = elim (cases_lt i (length vs)) [
  | inl below ↦
      get_front links (o ∷ []) i (omega (arith, below, long))
      ∙ linked i
      ∙ ap (λ (x : Option KeyedVersion). option_map (λ (w : KeyedVersion). last_place (take i vs) w.key) x) (sym (get_front vs (v ∷ []) i below))
      ∙ ap (λ (ws : List KeyedVersion). option_map (λ (w : KeyedVersion). last_place ws w.key) (slice_get (vs ++ v ∷ []) i)) (sym (take-append-le i vs (v ∷ []) (omega (arith, below))))
  | inr from ↦ elim (cases_eq i (length vs)) [
    | inl same ↦ at_end (sym same)
    | inr apart ↦
        get_beyond links o i (omega (arith, from, apart, long))
        ∙ ap (λ (x : Option KeyedVersion). option_map (λ (w : KeyedVersion). last_place (take i (vs ++ v ∷ [])) w.key) x) (sym (get_beyond vs v i (omega (arith, from, apart))))
  ]
]
  where
    at_end : length vs ≡ i → slice_get (links ++ o ∷ []) i ≡ option_map (λ (w : KeyedVersion). last_place (take i (vs ++ v ∷ [])) w.key) (slice_get (vs ++ v ∷ []) i)
    at_end here =
        ap (slice_get (links ++ o ∷ [])) (sym here ∙ sym long)
        ∙ get_last links o
        ∙ ap Some (is ∙ ap (λ (ws : List KeyedVersion). last_place ws v.key) (sym (take_all i vs (omega (arith, here))) ∙ sym (take-append-le i vs (v ∷ []) (omega (arith, here)))))
        ∙ ap (λ (x : Option KeyedVersion). option_map (λ (w : KeyedVersion). last_place (take i (vs ++ v ∷ [])) w.key) x) (sym (get_last vs v) ∙ ap (slice_get (vs ++ v ∷ [])) here)

linked-map : (links : List (Option ℕ)) (vs : List KeyedVersion) (q : Key) (e : ℕ) → IsLinkedBy links vs → IsLinkedBy links (map (ended_at q e) vs)
linked-map links vs q e linked i =
    linked i
    ∙ step (slice_get vs i)
    ∙ ap (λ (x : Option KeyedVersion). option_map (λ (w : KeyedVersion). last_place (take i (map (ended_at q e) vs)) w.key) x) (sym (slice_get-map (ended_at q e) vs i))
  where
    step : (o : Option KeyedVersion) → option_map (λ (w : KeyedVersion). last_place (take i vs) w.key) o ≡ option_map (λ (w : KeyedVersion). last_place (take i (map (ended_at q e) vs)) w.key) (option_map (ended_at q e) o)
    step None = refl
    step (Some w) = ap Some (sym (last_place-map (take i vs) q w.key e) ∙ ap (λ (ws : List KeyedVersion). last_place ws w.key) (sym (take-map (ended_at q e) i vs)))

abbrev link : LinkedVersion → Option ℕ
link v = v.previous

abbrev ended_by : LinkedVersion → ℕ
ended_by v = v.ended_by

abbrev pub keyed : LinkedVersion → KeyedVersion
keyed v = v.keyed

-- a version of a key without a live version is not live
pub not_live : (vs : List KeyedVersion) (q : Key) (i : ℕ) (v : KeyedVersion) → has_live q vs ≡ false → slice_get vs i ≡ Some v → is_live q v ≡ true → ⊥
not_live [] q i v dead is live = absurd (cc)
not_live (w ∷ vs) q zero v dead is live = step (is_live q w) (let same : w ≡ v = cc in ap (is_live q) same ∙ live) dead
  where
    step : (t : Bool) → t ≡ true → (t || has_live q vs) ≡ false → ⊥
    step true yes' h = absurd (cc)
    step false yes' h = absurd (cc)
not_live (w ∷ vs) q (suc i) v dead is live = not_live vs q i v (step (is_live q w) dead) is live
  where
    step : (t : Bool) → (t || has_live q vs) ≡ false → has_live q vs ≡ false
    step true h = absurd (cc)
    step false h = h

-- ---- by when the versions before had ended

-- an end by a commit is one by each later commit
by_later : (v : KeyedVersion) (early late : ℕ) → early ≤ late → IsEndedBy early v → IsEndedBy late v
by_later v early late le ended = record { end = ended.end; has = ended.has; within = let within = ended.within in omega (arith, le, within) }

-- where a key has no live version, each of its versions has ended by a commit by which the last one and those before it have
ended_up_to : (l : List LinkedVersion) (q : Key) (commit : ℕ) (o : Option ℕ) → AreEndedInTurn l → has_live q (keyed_in l) ≡ false → last_place (keyed_in l) q ≡ o → IsEndedAfter l o commit
    → (j : ℕ) (w : KeyedVersion) → slice_get (keyed_in l) j ≡ Some w → w.key ≡ q → IsEndedBy commit w
ended_up_to l q commit None turns dead last ended j w w_is of_q =
    let none = subst (IsLastPlace (keyed_in l) q) last (IsLastPlace-last_place (keyed_in l) q) in
    absurd (none j w (slice_get_within (keyed_in l) j w w_is) (ap (λ (x : KeyedVersion). x.key) (get_or_from_slice_get (keyed_in l) j w w w_is) ∙ of_q))
ended_up_to l q commit (Some p) turns dead last ended j w w_is of_q = with_last (element l p (let below = last_place_below (keyed_in l) q p last in omega (arith, below, length-map l keyed)))
  where
    place : IsLastPlace (keyed_in l) q (Some p)
    place = subst (IsLastPlace (keyed_in l) q) last (IsLastPlace-last_place (keyed_in l) q)

    with_last : ((u : LinkedVersion) × (slice_get l p ≡ Some u)) → IsEndedBy commit w
    with_last (u, is) = elim (cases_lt p j) [
      | inl behind ↦ absurd (place.2 j w (omega (arith, behind)) (slice_get_within (keyed_in l) j w w_is) (ap (λ (x : KeyedVersion). x.key) (get_or_from_slice_get (keyed_in l) j w w w_is) ∙ of_q))
      | inr upto ↦ elim (cases_eq j p) [
        | inl same ↦ here w.version.end refl (some_is (sym w_is ∙ ap (slice_get (keyed_in l)) same ∙ keyed_is))
        | inr apart ↦ by_later w u.ended_by commit (ended p u refl is).before (turns p u is j u.keyed w (omega (arith, upto, apart)) keyed_is w_is (of_q ∙ sym own_key))
      ]
    ]
      where
        keyed_is : slice_get (keyed_in l) p ≡ Some u.keyed
        keyed_is = slice_get-map keyed l p ∙ ap (option_map keyed) is

        own_key : u.keyed.key ≡ q
        own_key = ap (λ (x : KeyedVersion). x.key) (sym (get_or_from_slice_get (keyed_in l) p u.keyed u.keyed keyed_is)) ∙ place.1 u.keyed

        some_is : Some w ≡ Some u.keyed → w ≡ u.keyed
        some_is e = cc

        here : (o : Option ℕ) → w.version.end ≡ o → w ≡ u.keyed → IsEndedBy commit w
        here None open' same = absurd (not_live (keyed_in l) q j w dead w_is (rw (key_itself q w.key (sym of_q), open') refl))
        here (Some e) closed same = record { end = e; has = closed; within = (ended p u refl is).own e (ap (λ (x : KeyedVersion). x.version.end) (sym same) ∙ closed) }

turns-push : (l : List LinkedVersion) (v : LinkedVersion) → AreEndedInTurn l → has_live v.keyed.key (keyed_in l) ≡ false → IsEndedAfter l (last_place (keyed_in l) v.keyed.key) v.ended_by → AreEndedInTurn (l ++ v ∷ [])
turns-push l v turns dead ended i u u_is j x w below x_is w_is same_key = elim (cases_lt i (length l)) [
  | inl inside ↦ turns i u (sym (get_front l (v ∷ []) i inside) ∙ u_is) j x w below (front i x inside x_is) (front j w (omega (arith, below, inside)) w_is) same_key
  | inr from ↦ elim (cases_eq i (length l)) [
    | inl last ↦ at_end (some_is (sym (get_last l v) ∙ ap (slice_get (l ++ v ∷ [])) (sym last) ∙ u_is)) last
    | inr apart ↦ absurd (let none = get_beyond l v i (omega (arith, from, apart)) in cc)
  ]
]
  where
    some_is : Some v ≡ Some u → v ≡ u
    some_is e = cc

    joined : keyed_in (l ++ v ∷ []) ≡ keyed_in l ++ v.keyed ∷ []
    joined = map-append keyed l (v ∷ [])

    front : (k : ℕ) (y : KeyedVersion) → k < length l → slice_get (keyed_in (l ++ v ∷ [])) k ≡ Some y → slice_get (keyed_in l) k ≡ Some y
    front k y inside is = sym (get_front (keyed_in l) (v.keyed ∷ []) k (omega (arith, inside, length-map l keyed))) ∙ ap (λ (ys : List KeyedVersion). slice_get ys k) (sym joined) ∙ is

    at_end : v ≡ u → i ≡ length l → IsEndedBy u.ended_by w
    at_end new last =
        let own : v.keyed ≡ x = keyed_is (sym (get_last (keyed_in l) v.keyed) ∙ ap (slice_get (keyed_in l ++ v.keyed ∷ [])) (length-map l keyed ∙ sym last) ∙ ap (λ (ys : List KeyedVersion). slice_get ys i) (sym joined) ∙ x_is) in
        rw (sym new) (ended_up_to l v.keyed.key v.ended_by (last_place (keyed_in l) v.keyed.key) turns dead refl ended j w (front j w (omega (arith, below, last)) w_is) (same_key ∙ ap (λ (y : KeyedVersion). y.key) (sym own)))
      where
        keyed_is : Some v.keyed ≡ Some x → v.keyed ≡ x
        keyed_is e = cc

-- a version that has ended stays so where another is ended
turns-end : (old new : List LinkedVersion) (q : Key) (e : ℕ) → AreEndedInTurn old → keyed_in new ≡ map (ended_at q e) (keyed_in old) → map ended_by new ≡ map ended_by old → AreEndedInTurn new
turns-end old new q e turns versions same i u u_is j x w below x_is w_is same_key = with_old (back i x x_is) (back j w w_is) (before i u u_is)
  where
    back : (k : ℕ) (y : KeyedVersion) → slice_get (keyed_in new) k ≡ Some y → (z : KeyedVersion) × (slice_get (keyed_in old) k ≡ Some z) × (ended_at q e z ≡ y)
    back k y is = step (slice_get (keyed_in old) k) refl (sym (slice_get-map (ended_at q e) (keyed_in old) k) ∙ ap (λ (ys : List KeyedVersion). slice_get ys k) (sym versions) ∙ is)
      where
        step : (o : Option KeyedVersion) → slice_get (keyed_in old) k ≡ o → option_map (ended_at q e) o ≡ Some y → (z : KeyedVersion) × (slice_get (keyed_in old) k ≡ Some z) × (ended_at q e z ≡ y)
        step None at has = absurd (cc)
        step (Some z) at has = (z, at, some_is has)
          where
            some_is : Some (ended_at q e z) ≡ Some y → ended_at q e z ≡ y
            some_is eq = cc

    before : (k : ℕ) (y : LinkedVersion) → slice_get new k ≡ Some y → (z : LinkedVersion) × (slice_get old k ≡ Some z) × (z.ended_by ≡ y.ended_by)
    before k y is = step (slice_get old k) refl (sym (slice_get-map ended_by old k) ∙ ap (λ (ys : List ℕ). slice_get ys k) (sym same) ∙ slice_get-map ended_by new k ∙ ap (option_map ended_by) is)
      where
        step : (o : Option LinkedVersion) → slice_get old k ≡ o → option_map ended_by o ≡ Some y.ended_by → (z : LinkedVersion) × (slice_get old k ≡ Some z) × (z.ended_by ≡ y.ended_by)
        step None at has = absurd (cc)
        step (Some z) at has = (z, at, some_is has)
          where
            some_is : Some z.ended_by ≡ Some y.ended_by → z.ended_by ≡ y.ended_by
            some_is eq = cc

    with_old : ((y : KeyedVersion) × (slice_get (keyed_in old) i ≡ Some y) × (ended_at q e y ≡ x)) → ((y : KeyedVersion) × (slice_get (keyed_in old) j ≡ Some y) × (ended_at q e y ≡ w)) → ((y : LinkedVersion) × (slice_get old i ≡ Some y) × (y.ended_by ≡ u.ended_by)) → IsEndedBy u.ended_by w
    with_old (y, y_is, y_ends) (z, z_is, z_ends) (t, t_is, t_by) =
        let ended = turns i t t_is j y z below y_is z_is (ap (λ (v : KeyedVersion). v.key) z_ends ∙ same_key ∙ ap (λ (v : KeyedVersion). v.key) (sym y_ends)) in
        subst (λ (n : ℕ). IsEndedBy n w) t_by record { end = ended.end; has = ap (λ (v : KeyedVersion). v.version.end) (sym z_ends) ∙ kept ended.end ended.has; within = ended.within }
      where
        kept : (n : ℕ) → z.version.end ≡ Some n → (ended_at q e z).version.end ≡ Some n
        kept n has = rw has (dead (is_of q z))
          where
            dead : (b : Bool) → cond (b && is_none (Some n)) (Some e) (Some n) ≡ Some n
            dead true = refl
            dead false = refl

-- ---- a version more

pub IsStored-push : (l : List LinkedVersion) (v : LinkedVersion) (old new : List (Key × ℕ)) (n : ℕ) → IsStored l old n → SetsOnly old new v.keyed.key (length l) → has_live v.keyed.key (keyed_in l) ≡ false → v.previous ≡ place_in old v.keyed.key → IsEndedAfter l v.previous v.ended_by → is_ended v.keyed ≡ false → IsStored (l ++ v ∷ []) new n
IsStored-push l v old new n ok sets dead previous ended live = record {
  indexed = rw (map-append keyed l (v ∷ [])) (IsIndexed-push (keyed_in l) v.keyed old new (rw (sym (length-map l keyed)) at sets) dead ok.indexed);
  links = rw (map-append keyed l (v ∷ []), map-append link l (v ∷ [])) (linked-push (map link l) (keyed_in l) v.previous v.keyed (length-map l link ∙ sym (length-map l keyed)) ok.links (previous ∙ ok.indexed.places v.keyed.key));
  turns = turns-push l v ok.turns dead (subst (λ (o : Option ℕ). IsEndedAfter l o v.ended_by) (previous ∙ ok.indexed.places v.keyed.key) ended);
  counted = ok.counted ∙ sym (counts is_ended (keyed_in l)) ∙ sym (how_many-push is_ended (keyed_in l) v.keyed live) ∙ counts is_ended (keyed_in l ++ v.keyed ∷ []) ∙ ap (count_by is_ended) (sym (map-append keyed l (v ∷ [])));
}

-- a version at which a key may be live is own, after a version more after the others
pub ready-push : (vs : List KeyedVersion) (v : KeyedVersion) (own : List Bool) (q : Key) → slice_index_or own (length vs) false ≡ true → ((place : ℕ) (w : KeyedVersion) → slice_get vs place ≡ Some w → is_live q w ≡ true → slice_index_or own place false ≡ true) → (place : ℕ) (w : KeyedVersion) → slice_get (vs ++ v ∷ []) place ≡ Some w → is_live q w ≡ true → slice_index_or own place false ≡ true
ready-push vs v own q here ready place w is live = elim (cases_lt place (length vs)) [
  | inl below ↦ ready place w (sym (get_front vs (v ∷ []) place below) ∙ is) live
  | inr from ↦ elim (cases_eq place (length vs)) [
    | inl same ↦ ap (λ n. slice_index_or own n false) same ∙ here
    | inr apart ↦ absurd (let none = get_beyond vs v place (omega (arith, from, apart)) in cc)
  ]
]

-- what is own stays so where one more is
pub own-more : (own : List Bool) (n : ℕ) → slice_index_or own n false ≡ true → slice_index_or (own ++ true ∷ []) n false ≡ true
own-more [] n is = absurd (cc)
own-more (b ∷ own) zero is = is
own-more (b ∷ own) (suc n) is = own-more own n is

-- ---- the live version of a key

-- the last version of a key is of the key
last_is_of : (vs : List KeyedVersion) (q : Key) (p : ℕ) (v : KeyedVersion) → last_place vs q ≡ Some p → slice_get vs p ≡ Some v → is_of q v ≡ true
last_is_of [] q p v last is = absurd (cc)
last_is_of (w ∷ vs) q p v last is = step (last_place vs q) (is_of q w) p refl refl last is (λ r. last_is_of vs q r v)
  where
    step : (o : Option ℕ) (s : Bool) (p : ℕ) → last_place vs q ≡ o → is_of q w ≡ s → one_on o s ≡ Some p → slice_get (w ∷ vs) p ≡ Some v → ((r : ℕ) → last_place vs q ≡ Some r → slice_get vs r ≡ Some v → is_of q v ≡ true) → is_of q v ≡ true
    step (Some r) s p o_is s_is is_p at rest =
        let one : r + 1 ≡ p = cc in
        let same : p ≡ suc r = omega (arith, one) in
        rest r o_is (ap (slice_get (w ∷ vs)) (sym same) ∙ at)
    step None true p o_is s_is is_p at rest =
        let first : 0 ≡ p = cc in
        let same : w ≡ v = some_is (ap (slice_get (w ∷ vs)) first ∙ at) in
        ap (is_of q) (sym same) ∙ s_is
      where
        some_is : Some w ≡ Some v → w ≡ v
        some_is e = cc
    step None false p o_is s_is is_p at rest = absurd (cc)

-- only the last version of a key can be live
pub live_is_last : (vs : List KeyedVersion) (q : Key) (i p : ℕ) (v : KeyedVersion) → AreEndedButLast vs → last_place vs q ≡ Some p → slice_get vs i ≡ Some v → is_live q v ≡ true → i ≡ p
live_is_last [] q i p v ended last is live = absurd (cc)
live_is_last (w ∷ vs) q zero p v ended last is live = step (last_place vs q) (is_of q w) p refl last
  where
    same : w ≡ v
    same = cc

    of : is_of q w ≡ true
    of = front (is_of q w) (is_none w.version.end) (ap (is_live q) same ∙ live)
      where
        front : (a b : Bool) → (a && b) ≡ true → a ≡ true
        front true b h = refl
        front false b h = absurd (cc)

    step : (o : Option ℕ) (s : Bool) (p : ℕ) → last_place vs q ≡ o → one_on o s ≡ Some p → 0 ≡ p
    step (Some r) s p o_is is_p = absurd (clash (is_of q w) w.version.end (ap (is_live q) same ∙ live) (rw (key_is w.key q of, o_is) at ended.0))
      where
        clash : (a : Bool) (o : Option ℕ) → (a && is_none o) ≡ true → (false || is_some o) ≡ true → ⊥
        clash true None h e = absurd (cc)
        clash true (Some x) h e = absurd (cc)
        clash false o h e = absurd (cc)
    step None true p o_is is_p = cc
    step None false p o_is is_p = absurd (cc)
live_is_last (w ∷ vs) q (suc i) p v ended last is live = step (last_place vs q) (is_of q w) p refl last (λ r r_is. live_is_last vs q i r v ended.1 r_is is live)
  where
    step : (o : Option ℕ) (s : Bool) (p : ℕ) → last_place vs q ≡ o → one_on o s ≡ Some p → ((r : ℕ) → last_place vs q ≡ Some r → i ≡ r) → suc i ≡ p
    step (Some r) s p o_is is_p rest =
        let before = rest r o_is in
        let same : r + 1 ≡ p = cc in
        omega (arith, before, same)
    step None s p o_is is_p rest = absurd (not_live vs q i v (dead_absent vs q o_is) is live)

-- what is stored stays so where every key keeps its place
pub IsStored-same : (l : List LinkedVersion) (old new : List (Key × ℕ)) (n : ℕ) → HaveSamePlaces old new → IsStored l old n → IsStored l new n
IsStored-same l old new n same ok = record { indexed = IsIndexed-same (keyed_in l) old new same ok.indexed; links = ok.links; turns = ok.turns; counted = ok.counted }

-- what the index finds for a key
module _ (l : List LinkedVersion) (pairs : List (Key × ℕ)) (n : ℕ) (ok : IsStored l pairs n) (q : Key) where
  pub none_found : place_in pairs q ≡ None → has_live q (keyed_in l) ≡ false
  none_found none = dead_absent (keyed_in l) q (absent (keyed_in l) pairs q ok.indexed none)

  pub last_there : (o : Option ℕ) → o ≡ place_in pairs q → IfSome o (λ (p : ℕ). p < length l)
  last_there None is = tt
  last_there (Some p) is = let below = last_place_below (keyed_in l) q p (sym (ok.indexed.places q) ∙ sym is) in omega (arith, below, length-map l keyed)

  module _ (p : ℕ) (found : place_in pairs q ≡ Some p) where
    last : last_place (keyed_in l) q ≡ Some p
    last = sym (ok.indexed.places q) ∙ found

    pub found_there : p < length l
    found_there = let below = last_place_below (keyed_in l) q p last in omega (arith, below, length-map l keyed)

    module _ (v : LinkedVersion) (is : slice_get l p ≡ Some v) where
      keyed_is : slice_get (keyed_in l) p ≡ Some v.keyed
      keyed_is = slice_get-map keyed l p ∙ ap (option_map keyed) is

      pub found_live : is_none v.keyed.version.end ≡ true → IsLiveAt (keyed_in l) q p
      found_live open' = record {
        last = last;
        live = λ w w_is.
            let of = last_is_of (keyed_in l) q p w last w_is in
            let same : v.keyed ≡ w = some_is (sym keyed_is ∙ w_is) in
            rw (of) (ap (λ (u : KeyedVersion). is_none u.version.end) (sym same) ∙ open');
      }
        where
          some_is : {w : KeyedVersion} → Some v.keyed ≡ Some w → v.keyed ≡ w
          some_is e = cc

      pub found_dead : is_none v.keyed.version.end ≡ false → has_live q (keyed_in l) ≡ false
      found_dead closed = live_at (keyed_in l) q p v.keyed ok.indexed.ended last ∙ ap (is_live q) (get_or_from_slice_get (keyed_in l) p v.keyed v.keyed keyed_is) ∙ dead (is_of q v.keyed)
        where
          dead : (t : Bool) → (t && is_none v.keyed.version.end) ≡ false
          dead true = closed
          dead false = refl

-- what it is to end the live version of a key
pub record IsEnding (old new : List LinkedVersion) (pairs : List (Key × ℕ)) (n : ℕ) (q : Key) (e : ℕ) : Type 0 where
  pub found : has_live q (keyed_in old) ≡ true
  pub versions : keyed_in new ≡ map (ended_at q e) (keyed_in old)
  pub stored : IsStored new pairs (n + 1)
  pub fewer : n + 1 ≤ length old

pub ending : (old new : List LinkedVersion) (pairs : List (Key × ℕ)) (n : ℕ) (q : Key) (e p : ℕ) → IsStored old pairs n → IsLiveAt (keyed_in old) q p → p < length old → ((v : LinkedVersion) → slice_get old p ≡ Some v → new ≡ set old p (linked_ended e v)) → IsEnding old new pairs n q e
ending old new pairs n q e p ok at there written = with_version (element old p there)
  where
    with_version : ((v : LinkedVersion) × (slice_get old p ≡ Some v)) → IsEnding old new pairs n q e
    with_version (v, is) = record { found = found; versions = versions; stored = stored; fewer = fewer }
      where
        keyed_is : slice_get (keyed_in old) p ≡ Some v.keyed
        keyed_is = slice_get-map keyed old p ∙ ap (option_map keyed) is

        read : get_or (keyed_in old) p v.keyed ≡ v.keyed
        read = get_or_from_slice_get (keyed_in old) p v.keyed v.keyed keyed_is

        live : is_live q v.keyed ≡ true
        live = at.live v.keyed keyed_is

        found : has_live q (keyed_in old) ≡ true
        found = live_at (keyed_in old) q p v.keyed ok.indexed.ended at.last ∙ ap (is_live q) read ∙ live

        ended : (linked_ended e v).keyed ≡ ended_at q e v.keyed
        ended = rw live refl

        new_is : new ≡ set old p (linked_ended e v)
        new_is = written v is

        versions : keyed_in new ≡ map (ended_at q e) (keyed_in old)
        versions =
            ap keyed_in new_is
            ∙ map-set keyed old p (linked_ended e v)
            ∙ ap (λ (w : KeyedVersion). set (keyed_in old) p w) (ended ∙ ap (ended_at q e) (sym read))
            ∙ sym (map_at (keyed_in old) q e p v.keyed ok.indexed.ended at.last)

        same_links : map link new ≡ map link old
        same_links = ap (map link) new_is ∙ map-set_same link old p (linked_ended e v) v (ap link (sym (get_or_from_slice_get old p v v is)))

        same_ends : map ended_by new ≡ map ended_by old
        same_ends = ap (map ended_by) new_is ∙ map-set_same ended_by old p (linked_ended e v) v (ap ended_by (sym (get_or_from_slice_get old p v v is)))

        unended : is_ended v.keyed ≡ false
        unended = open' v.keyed.version.end (back (is_of q v.keyed) (is_none v.keyed.version.end) live)
          where
            back : (a b : Bool) → (a && b) ≡ true → b ≡ true
            back true b h = h
            back false b h = absurd (cc)

            open' : (o : Option ℕ) → is_none o ≡ true → is_some o ≡ false
            open' None h = refl
            open' (Some x) h = absurd (cc)

        more : count_by is_ended (keyed_in new) ≡ count_by is_ended (keyed_in old) + 1
        more =
            sym (counts is_ended (keyed_in new))
            ∙ ap (how_many is_ended) (ap keyed_in new_is ∙ map-set keyed old p (linked_ended e v))
            ∙ how_many-set is_ended (keyed_in old) p v.keyed (linked_ended e v).keyed keyed_is unended refl
            ∙ ap (λ k. k + 1) (counts is_ended (keyed_in old))

        stored : IsStored new pairs (n + 1)
        stored = record {
          indexed = rw versions (IsIndexed-map (keyed_in old) pairs q e ok.indexed);
          links = rw (versions, same_links) (linked-map (map link old) (keyed_in old) q e ok.links);
          turns = turns-end old new q e ok.turns versions same_ends;
          counted = ap (λ k. k + 1) ok.counted ∙ sym more;
        }

        fewer : n + 1 ≤ length old
        fewer =
            let most = count_by-le-length is_ended (keyed_in new) in
            let long = ap length versions in
            omega (arith, most, long, more, ok.counted, length-map (keyed_in old) (ended_at q e), length-map old keyed)

-- what holds anyway holds where there is none
pub if_none : {A P : Type 0} (o : Option A) → P → IfNone o P
if_none None p = p
if_none (Some x) p = tt

-- the live version of a key that is ready is own
pub ready_place : (l : List LinkedVersion) (own : List Bool) (q : Key) (p : ℕ) → IsLiveAt (keyed_in l) q p → p < length l → ((place : ℕ) (v : KeyedVersion) → slice_get (keyed_in l) place ≡ Some v → is_live q v ≡ true → slice_index_or own place false ≡ true) → slice_index_or own p false ≡ true
ready_place l own q p at there ready = with_version (element (keyed_in l) p (omega (arith, there, length-map l keyed)))
  where
    with_version : ((v : KeyedVersion) × (slice_get (keyed_in l) p ≡ Some v)) → slice_index_or own p false ≡ true
    with_version (v, is) = ready p v is (at.live v is)

-- and a key is ready whose live version is own
pub ready_at : (l : List LinkedVersion) (pairs : List (Key × ℕ)) (n : ℕ) (own : List Bool) (q : Key) (p : ℕ) → IsStored l pairs n → IsLiveAt (keyed_in l) q p → slice_index_or own p false ≡ true → (place : ℕ) (v : KeyedVersion) → slice_get (keyed_in l) place ≡ Some v → is_live q v ≡ true → slice_index_or own place false ≡ true
ready_at l pairs n own q p ok at here place v is live = ap (λ k. slice_index_or own k false) (live_is_last (keyed_in l) q place p v ok.indexed.ended at.last is live) ∙ here

-- where a key has no live version, to end it changes nothing
pub unchanged : (vs : List KeyedVersion) (q : Key) (e : ℕ) → has_live q vs ≡ false → map (ended_at q e) vs ≡ vs
unchanged [] q e dead = refl
unchanged (v ∷ vs) q e dead = step (is_live q v) refl dead (unchanged vs q e)
  where
    step : (t : Bool) → is_live q v ≡ t → (t || has_live q vs) ≡ false → (has_live q vs ≡ false → map (ended_at q e) vs ≡ vs) → (ended_at q e v ∷ map (ended_at q e) vs) ≡ v ∷ vs
    step true is h rest = absurd (cc)
    step false is h rest = rw (is, rest h) refl

-- a key without a live version is ready
pub ready_dead : (vs : List KeyedVersion) (own : List Bool) (q : Key) → has_live q vs ≡ false → (place : ℕ) (v : KeyedVersion) → slice_get vs place ≡ Some v → is_live q v ≡ true → slice_index_or own place false ≡ true
ready_dead vs own q dead place v is live = absurd (not_live vs q place v dead is live)

-- the link of a version is the place of the one before, of its key
pub earlier_at : (l : List LinkedVersion) (i : ℕ) (u : LinkedVersion) → AreLinked l → slice_get l i ≡ Some u → IsEarlier (keyed_in l) i u.previous
earlier_at l i u links is v v_is = rw (step (slice_get (keyed_in l) i) v_is) (IsLastPlace-last_place (take i (keyed_in l)) v.key)
  where
    linked : Some u.previous ≡ option_map (λ (w : KeyedVersion). last_place (take i (keyed_in l)) w.key) (slice_get (keyed_in l) i)
    linked = sym (slice_get-map link l i ∙ ap (option_map link) is) ∙ links i

    step : (o : Option KeyedVersion) → slice_get (keyed_in l) i ≡ Some v → u.previous ≡ last_place (take i (keyed_in l)) v.key
    step o here = some_is (linked ∙ ap (option_map (λ (w : KeyedVersion). last_place (take i (keyed_in l)) w.key)) here)
      where
        some_is : Some u.previous ≡ Some (last_place (take i (keyed_in l)) v.key) → u.previous ≡ last_place (take i (keyed_in l)) v.key
        some_is e = cc

-- keys that are ready stay so where versions are ended
pub ready_ended : (vs : List KeyedVersion) (own : List Bool) (k q : Key) (e : ℕ) → ((place : ℕ) (v : KeyedVersion) → slice_get vs place ≡ Some v → is_live q v ≡ true → slice_index_or own place false ≡ true) → (place : ℕ) (v : KeyedVersion) → slice_get (map (ended_at k e) vs) place ≡ Some v → is_live q v ≡ true → slice_index_or own place false ≡ true
ready_ended vs own k q e ready place v is live = step (slice_get vs place) refl (sym (slice_get-map (ended_at k e) vs place) ∙ is)
  where
    was_live : (u : KeyedVersion) → ended_at k e u ≡ v → is_live q u ≡ true
    was_live u same = by (is_of q u) (is_live k u) u.version.end (ap (is_live q) same ∙ live)
      where
        by : (a b : Bool) (o : Option ℕ) → (a && is_none (cond b (Some e) o)) ≡ true → (a && is_none o) ≡ true
        by a false o h = h
        by true true o h = absurd (cc)
        by false true o h = absurd (cc)

    step : (o : Option KeyedVersion) → slice_get vs place ≡ o → option_map (ended_at k e) o ≡ Some v → slice_index_or own place false ≡ true
    step None o_is h = absurd (cc)
    step (Some u) o_is h = ready place u o_is (was_live u (some_is h))
      where
        some_is : Some (ended_at k e u) ≡ Some v → ended_at k e u ≡ v
        some_is eq = cc
