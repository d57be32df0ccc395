-- What is known of a group before its versions are read.
use Rattle.std.proofs.Common.{◌≡◌, ◌<◌, Bool, true, false, cond, List, length, get_or, map, refl, sym, ap, ◌∙◌, arith}
use Rattle.std.specs.Prelude.{Option, None, Some, slice_get}
use Rattle.std.specs.Option.{option_map, option_and_then}
use Rattle.std.proofs.lemmas.List.{get_or-map, length-map}
use Rattle.std.proofs.lemmas.Option.{get_or_from_slice_get, same_Some, slice_get_within}
use Rattle.group_book.specs.Book.{Version}
use Rattle.group_view.specs.declared.view.Pinned.{Pinned}
use Rattle.group_view.specs.declared.view.Place.{Place}
use Rattle.group_view.specs.Parts.{Rowed}
use Rattle.group_view.specs.Views.{version_at}
use Rattle.batch_scan.specs.declared.shown.Shown.{Shown}
use Rattle.batch_scan.specs.Reads.{is_read, AreShown}
use Rattle.row_work.specs.Reads.{read_key, rowed_at, IsKnown}
use Rattle.batch_scan.proofs.Seen.{at_place}
pub use Rattle.batch_scan.proofs.Lent.{packed_known}

-- ---- a position of a packed group

module _ (pinned : Pinned) (place : Place) (shown : Shown) (known : IsKnown pinned place.group (Some shown)) (t : Bool)
    (tells : (flags : List Bool) → AreShown flags shown → place.position < length flags → t ≡ get_or flags place.position false) where
  read_flag : (rowed : Rowed) → version_at pinned.view place ≡ Some rowed → is_read pinned rowed ≡ t
  read_flag rowed at =
      let versions = rowed_at pinned.view place.group in
      let here : slice_get versions place.position ≡ Some rowed = sym (at_place pinned.view place.group place.position) ∙ at in
      let there = slice_get_within versions place.position rowed here in
      let flag = get_or-map (is_read pinned) versions place.position rowed false there ∙ ap (is_read pinned) (get_or_from_slice_get versions place.position rowed rowed here) in
      sym (tells (map (is_read pinned) versions) known (omega (arith, there, length-map versions (is_read pinned))) ∙ flag)

  -- the key of the version there, where it is read
  pub some_read : t ≡ true → (o : Option Rowed) → version_at pinned.view place ≡ o → (version : Version) → option_map (λ (rowed : Rowed). rowed.version) o ≡ Some version → Some version.key ≡ option_and_then (read_key pinned) o
  some_read is None at version here = cc
  some_read is (Some rowed) at version here =
      ap (λ (v : Version). Some v.key) (sym (same_Some rowed.version version here)) ∙ sym (ap (λ (b : Bool). cond b (Some rowed.version.key) None) (read_flag rowed at ∙ is))

  -- none, where it is not
  pub none_read : t ≡ false → (o : Option Rowed) → version_at pinned.view place ≡ o → None ≡ option_and_then (read_key pinned) o
  none_read is None at = refl
  none_read is (Some rowed) at = sym (ap (λ (b : Bool). cond b (Some rowed.version.key) None) (read_flag rowed at ∙ is))
