-- Versions that are read.
use Rattle.std.proofs.Common.{◌≡◌, ◌≢◌, ℕ, Bool, true, false, not, ◌&&◌, cond, List, [], ◌∷◌, get_or, refl, ap, ◌∙◌, arith}
use Rattle.std.specs.Prelude.{Option, None, Some, is_some, slice_get, unwrap_or}
use Rattle.std.specs.List.{AllByRecursion}
use Rattle.std.proofs.lemmas.List.Elements.{recursion_from_All}
use Rattle.std.specs.Option.{option_map, option_and_then}
use Rattle.std.proofs.lemmas.Option.{same_Some}
use Rattle.cs_types.specs.declared.Key.{Key}
use Rattle.cs_types.specs.Keys.{same_key}
use Rattle.write_set.specs.declared.write.Write.{Write}
use Rattle.write_set.specs.Writes.{IsFoundAt, IsPlaceOf}
use Rattle.edit_laws.specs.Edits.{writes_key}
use Rattle.group_book.specs.Book.{Version, is_visible}
use Rattle.group_book.proofs.Keys.{key_here, key_is}
use Rattle.group_book.proofs.Lists.{list_any-none, list_any-some}
use Rattle.group_view.specs.declared.view.GroupView.{GroupView}
use Rattle.group_view.specs.declared.view.Pinned.{Pinned}
use Rattle.group_view.specs.declared.parts.GroupPart.{GroupPart}
use Rattle.group_view.specs.Parts.{Rowed, rowed_in}
use Rattle.group_view.specs.Views.{buffer_of, version_at, is_shown}
use Rattle.batch_scan.specs.Reads.{read_key, rowed_at}

-- the version at a place, by the versions of its group
pub at_place : (view : GroupView) (group position : ℕ) → version_at view (record { group = group; position = position }) ≡ slice_get (rowed_at view group) position
at_place view group position = step (slice_get view.groups group)
  where
    step : (o : Option (ℕ × GroupPart)) → option_and_then (λ (part : ℕ × GroupPart). slice_get (rowed_in part.1) position) o ≡ slice_get (unwrap_or (option_map (λ (part : ℕ × GroupPart). rowed_in part.1) o) []) position
    step None = refl
    step (Some part) = refl

-- ---- own writes of a key

-- whether an own write is of the key
apart_by : (own : List Write) (key : Key) → AllByRecursion (λ (write : Write). write.key ≢ key) own → AllByRecursion (λ (write : Write). same_key key write.key ≡ false) own
apart_by [] key apart = tt
apart_by (w ∷ own) key apart = (step (same_key key w.key) refl, apart_by own key apart.1)
  where
    step : (t : Bool) → same_key key w.key ≡ t → t ≡ false
    step true is = absurd (apart.0 (key_is key w.key is))
    step false is = refl

pub no_key : (own : List Write) (key : Key) → IsPlaceOf own key None → writes_key own key ≡ false
no_key own key apart = list_any-none (λ (write : Write). same_key key write.key) own (apart_by own key (recursion_from_All (λ (write : Write). write.key ≢ key) own apart))

pub has_key : (own : List Write) (key : Key) (i : ℕ) (write : Write) → IsFoundAt own key i → writes_key own key ≡ true
has_key own key i write found = list_any-some (λ (w : Write). same_key key w.key) own i write found.within (key_here key (get_or own i write).key (found.is write))

-- the key of a version that is read, by what is found
pub key_of_read : (pinned : Pinned) (o : Option Rowed) (key : Key) (seen mine : Bool) → (rowed : Rowed) → o ≡ Some rowed → rowed.version.key ≡ key → is_shown pinned.view pinned.snapshot rowed ≡ seen → writes_key pinned.own key ≡ mine
    → option_and_then (read_key pinned) o ≡ cond (seen && not mine) (Some key) None
key_of_read pinned o key seen mine rowed at own shown written =
    ap (option_and_then (read_key pinned)) at
    ∙ ap (λ t. cond (t && not (writes_key pinned.own rowed.version.key)) (Some rowed.version.key) None) shown
    ∙ ap (λ k. cond (seen && not (writes_key pinned.own k)) (Some k) None) own
    ∙ ap (λ t. cond (seen && not t) (Some key) None) written

-- ---- keys that are read

version_key : (o : Option Rowed) (version : Version) → option_map (λ (rowed : Rowed). rowed.version) o ≡ Some version → (rowed : Rowed) × (o ≡ Some rowed) × (rowed.version ≡ version)
version_key None version is = cc
version_key (Some rowed) version is = (rowed, refl, same_Some rowed.version version is)

-- by the version that stands there
pub key_read_is : (pinned : Pinned) (o : Option Rowed) (version : Version) (seen mine : Bool) → option_map (λ (rowed : Rowed). rowed.version) o ≡ Some version → is_visible (buffer_of pinned.view) pinned.snapshot version ≡ seen → writes_key pinned.own version.key ≡ mine
    → option_and_then (read_key pinned) o ≡ cond (seen && not mine) (Some version.key) None
key_read_is pinned o version seen mine is shown written =
    let found = version_key o version is in
    key_of_read pinned o version.key seen mine found.0 found.1 (ap (λ (v : Version). v.key) found.2) (ap (is_visible (buffer_of pinned.view) pinned.snapshot) found.2 ∙ shown) written

-- whether an own write of the key was found
pub mine_by : (own : List Write) (key : Key) (o : Option ℕ) → IsPlaceOf own key o → writes_key own key ≡ is_some o
mine_by own key None none = no_key own key none
mine_by [] key (Some i) found = absurd (omega (arith, found.within))
mine_by (w ∷ own) key (Some i) found = has_key (w ∷ own) key i w found
