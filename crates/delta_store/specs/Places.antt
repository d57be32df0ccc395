-- What a delta store keeps true of its index and its links: the last place of each key, and for each version the place of
-- its key's version before.
use Rattle.std.specs.Prelude.{◌≡◌, ℕ, ◌+◌, ◌≤◌, List, [], ◌∷◌, map, take, slice_get, count_by, ◌||◌, Option, Some, None, is_none, Bool, true, false, if◌then◌else◌}
use Rattle.std.specs.Option.{option_map}
use Rattle.cs_types.specs.declared.Key.{Key}
use Rattle.delta_store.specs.declared.version.KeyedVersion.{KeyedVersion}
use Rattle.delta_store.specs.declared.version.LinkedVersion.{LinkedVersion}
use Rattle.delta_store.specs.Index.{place_in, is_between, AreInOrder}
use Rattle.delta_store.specs.Versions.{is_of, is_live, is_ended, AreEndedBefore}

-- one place further, or the first place where the test says so
abbrev pub one_on : Option ℕ → Bool → Option ℕ
one_on (Some place) here = Some (place + 1)
one_on None true = Some 0
one_on None false = None

-- the place of the last version of the key
abbrev pub last_place : List KeyedVersion → Key → Option ℕ
last_place [] key = None
last_place (v ∷ vs) key = one_on (last_place vs key) (is_of key v)

-- each version that is not the last one of its key has an end
abbrev pub AreEndedButLast : List KeyedVersion → Type 0
AreEndedButLast [] = Unit {0}
AreEndedButLast (v ∷ vs) = ((is_none (last_place vs v.key) || is_ended v) ≡ true) × AreEndedButLast vs

-- the index has the last place of each key, and each version but the last of its key has an end
pub record IsIndexed (versions : List KeyedVersion) (pairs : List (Key × ℕ)) : Type 0 where
  pub places : (key : Key) → place_in pairs key ≡ last_place versions key
  pub ended : AreEndedButLast versions

-- the keys from the least to the greatest that have a version, in their order, each with the place of its last one
pub record AreNewest (versions : List KeyedVersion) (least greatest : Key) (newest : List (Key × ℕ)) : Type 0 where
  pub order : AreInOrder newest
  pub places : (key : Key) → place_in newest key ≡ (if is_between least greatest key then last_place versions key else None)

-- the versions without their links
abbrev pub keyed_in : List LinkedVersion → List KeyedVersion
keyed_in linked = map (λ v. v.keyed) linked

-- each link is the place of the key's last version before
abbrev pub AreLinked : List LinkedVersion → Type 0
AreLinked linked =
    (i : ℕ)
    → slice_get (map (λ v. v.previous) linked) i
    ≡ option_map (λ v. last_place (take i (keyed_in linked)) v.key) (slice_get (keyed_in linked) i)

-- with each version stands a commit by which those of its key before it have ended
abbrev pub AreEndedInTurn : List LinkedVersion → Type 0
AreEndedInTurn linked = (i : ℕ) (v : LinkedVersion) → slice_get linked i ≡ Some v → AreEndedBefore (keyed_in linked) i v.ended_by

-- by this commit the versions of the version's key before it have ended, and it too if it has an end
pub record IsEndedThrough (v : LinkedVersion) (commit : ℕ) : Type 0 where
  pub before : v.ended_by ≤ commit
  pub own : (end : ℕ) → v.keyed.version.end ≡ Some end → end ≤ commit

-- the same of the version at a place, if there is one
abbrev pub IsEndedAfter : List LinkedVersion → Option ℕ → ℕ → Type 0
IsEndedAfter linked place commit = (at : ℕ) (v : LinkedVersion) → place ≡ Some at → slice_get linked at ≡ Some v → IsEndedThrough v commit

-- what is kept of stored versions: their index, their links, by when those before each had ended, and the number of those that
-- have an end
pub record IsStored (linked : List LinkedVersion) (pairs : List (Key × ℕ)) (ended : ℕ) : Type 0 where
  pub indexed : IsIndexed (keyed_in linked) pairs
  pub links : AreLinked linked
  pub turns : AreEndedInTurn linked
  pub counted : ended ≡ count_by is_ended (keyed_in linked)

-- the key's live version stands at the place: it is the key's last, and has no end
pub record IsLiveAt (versions : List KeyedVersion) (key : Key) (place : ℕ) : Type 0 where
  pub last : last_place versions key ≡ Some place
  pub live : (v : KeyedVersion) → slice_get versions place ≡ Some v → is_live key v ≡ true
