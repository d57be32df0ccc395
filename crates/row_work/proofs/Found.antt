-- What is found of a key in the view and among the own writes.
use Rattle.std.proofs.Common.{◌≡◌, ℕ, ◌<◌, Bool, true, false, List, length, refl, sym, ap, ◌∙◌, subst}
use Rattle.std.specs.Prelude.{Option, None, Some, IfNone, IfSome, IsSome, is_some, slice_get, unwrap_or}
use Rattle.std.specs.Option.{option_map, option_and_then}
use Rattle.std.proofs.lemmas.Option.{none-some, same_Some, slice_get_within}
use Rattle.cs_types.specs.declared.Key.{Key}
use Rattle.cs_types.specs.declared.Value.{Value}
use Rattle.cs_model.specs.Obstacles.{has_row}
use Rattle.write_set.specs.declared.write.Write.{Write}
use Rattle.write_set.specs.Writes.{Ascend, IsFoundAt, IsPlaceOf}
use Rattle.edit_laws.specs.Edits.{edits_of}
use Rattle.edit_laws.proofs.Tables.{at, laid_is}
use Rattle.edit_laws.proofs.Writes.{ascends, found_at, none_at}
use Rattle.delta_store.specs.declared.version.KeyedVersion.{KeyedVersion}
use Rattle.cs_types.specs.declared.row.Version.{Version as Stored}
use Rattle.cs_types.specs.Rows.{padded}
use Rattle.cs_types.proofs.PaddedLemmas.{padded_itself}
use Rattle.row_group.specs.Groups.{Group, row_at}
use Rattle.group_view.specs.declared.view.Pinned.{Pinned}
use Rattle.group_view.specs.declared.view.Place.{Place}
use Rattle.group_view.specs.declared.parts.GroupPart.{GroupPart}
use Rattle.group_view.specs.declared.parts.GroupPart.TheVariants.{Packed, Store}
use Rattle.group_view.specs.declared.parts.GroupRef.TheVariants as lent
use Rattle.group_view.specs.Parts.{Rowed, packed_versions, rowed_in, IsBorrowed}
use Rattle.group_view.specs.Views.{version_at, HidesEach, Shows}
use Rattle.group_view.proofs.Versions.{packed_row, packed_within, stored_row}
use Rattle.group_view.proofs.Looked.{found_shown, none_shown}
use Rattle.row_work.specs.Reads.{read_by, shown_by, HasSnapshot}
use Rattle.row_work.specs.declared.choose.Source.TheVariants.{Shown, Own}
use Rattle.row_work.specs.Sources.{row_of}
use Rattle.row_work.proofs.Overlaid.{shown_ascends}
pub use Rattle.batch_scan.proofs.Seen.{at_place}

-- ---- in the view

some_step : (width : ℕ) (o : Option Rowed) (found : Option (List Value)) (shows : Rowed → Bool) → option_map (λ (rowed : Rowed). padded width rowed.row) o ≡ found → option_map shows o ≡ Some true → is_some found ≡ true
some_step width None found shows is shown = cc
some_step width (Some rowed) found shows is shown = ap is_some (sym is)

-- a key that shows has a row in the table of the snapshot
pub shows_row : (width : ℕ) (pinned : Pinned) (key : Key) (place : Place) → HasSnapshot pinned → Shows pinned.view key pinned.snapshot place → true ≡ has_row (shown_by width pinned) key
shows_row width pinned key place has shown =
    sym (some_step width (version_at pinned.view place) (at key (shown_by width pinned)) _ (found_shown width pinned.view key pinned.snapshot has.view has.from_floor has.to_clock place shown) shown)

-- and one that shows nowhere has none
pub hides_row : (width : ℕ) (pinned : Pinned) (key : Key) → HasSnapshot pinned → HidesEach pinned.view key pinned.snapshot → false ≡ has_row (shown_by width pinned) key
hides_row width pinned key has hidden = sym (ap is_some (none_shown width pinned.view key pinned.snapshot has.view has.from_floor has.to_clock hidden))

-- ---- among the own writes

read_is : (width : ℕ) (pinned : Pinned) (key : Key) → Ascend pinned.own → at key (read_by width pinned) ≡ unwrap_or (at key (edits_of pinned.own)) (at key (shown_by width pinned))
read_is width pinned key order = laid_is key (edits_of pinned.own) (shown_by width pinned) (shown_ascends width pinned) (ascends pinned.own order)

pub own_has_row : (width : ℕ) (pinned : Pinned) (key : Key) (i : ℕ) (write : Write) → Ascend pinned.own → IsFoundAt pinned.own key i → slice_get pinned.own i ≡ Some write → is_some write.row ≡ has_row (read_by width pinned) key
own_has_row width pinned key i write order found is =
    sym (ap is_some (read_is width pinned key order ∙ ap (λ o. unwrap_or o (at key (shown_by width pinned))) (found_at pinned.own key i write order found is)))

pub shown_has_row : (width : ℕ) (pinned : Pinned) (key : Key) → Ascend pinned.own → IsPlaceOf pinned.own key None → has_row (shown_by width pinned) key ≡ has_row (read_by width pinned) key
shown_has_row width pinned key order none =
    sym (ap is_some (read_is width pinned key order ∙ ap (λ o. unwrap_or o (at key (shown_by width pinned))) (none_at pinned.own key none)))

-- whether a look-up found the key
pub row_by_lookup : (width : ℕ) (pinned : Pinned) (key : Key) → HasSnapshot pinned → (o : Option Place) → IfSome o (Shows pinned.view key pinned.snapshot) → IfNone o (HidesEach pinned.view key pinned.snapshot) → is_some o ≡ has_row (shown_by width pinned) key
row_by_lookup width pinned key has None found none = hides_row width pinned key has none
row_by_lookup width pinned key has (Some place) found none = shows_row width pinned key place has found

-- ---- rows

some_within : {X : Type 0} (xs : List X) (position : ℕ) → IsSome (slice_get xs position) → position < length xs
some_within xs position there = step (slice_get xs position) refl there
  where
    step : (o : Option _) → slice_get xs position ≡ o → IsSome o → position < length xs
    step None is none = cc
    step (Some x) is some = slice_get_within xs position x is

-- the row of a store that is lent
pub lent_row : (width position : ℕ) (o : Option (ℕ × GroupPart)) (store : _) (stored : Stored) → IsSome (option_and_then (λ (group : ℕ × GroupPart). slice_get (rowed_in group.1) position) o) → IfSome o (λ (part : ℕ × GroupPart). IsBorrowed part.1 (lent.Store store))
    → option_map (λ (keyed : KeyedVersion). keyed.version) (slice_get store.now position) ≡ Some stored → length stored.row ≡ width
    → option_map (λ (rowed : Rowed). padded width rowed.row) (option_and_then (λ (group : ℕ × GroupPart). slice_get (rowed_in group.1) position) o) ≡ Some stored.row
lent_row width position None store stored there borrowed read wide = cc
lent_row width position (Some (id, Packed packed marks)) store stored there borrowed read wide = absurd borrowed
lent_row width position (Some (id, Store frozen)) store stored there borrowed read wide =
    stored_row width stored frozen.value position (ap (λ versions. option_map (λ (keyed : KeyedVersion). keyed.version) (slice_get versions position)) (sym borrowed) ∙ read)
    ∙ ap Some (sym (padded_itself width stored.row wide))

-- the row of a packed group, which is made
pub made_row : (width position : ℕ) (o : Option (ℕ × GroupPart)) (packed : _) (marks : _) → IsSome (option_and_then (λ (group : ℕ × GroupPart). slice_get (rowed_in group.1) position) o) → IfSome o (λ (part : ℕ × GroupPart). IsBorrowed part.1 (lent.Packed packed marks))
    → (position < length packed.now.rows) × (option_map (λ (rowed : Rowed). padded width rowed.row) (option_and_then (λ (group : ℕ × GroupPart). slice_get (rowed_in group.1) position) o) ≡ Some (padded width (row_at packed.now position).cells))
made_row width position None packed marks there borrowed = cc
made_row width position (Some (id, Store frozen)) packed marks there borrowed = absurd borrowed
made_row width position (Some (id, Packed shared ends)) packed marks there borrowed =
    let group = shared.value in
    let within = some_within (packed_versions group.key group.rows ends.value) position there in
    let rows = (packed_within group.key group.rows ends.value position within).0 in (
      subst (λ (g : Group). position < length g.rows) (sym borrowed.0) rows,
      packed_row group ends.value position within width ∙ ap (λ (g : Group). Some (padded width (row_at g position).cells)) (sym borrowed.0),
    )

-- ---- where the row stands that is read at a key

some_of : (o : Option (List Value)) → is_some o ≡ true → Some o ≡ option_map Some o
some_of None is = cc
some_of (Some row) is = refl

none_of : (o : Option (List Value)) → is_some o ≡ false → None ≡ option_map Some o
none_of None is = refl
none_of (Some row) is = cc

module _ (width : ℕ) (pinned : Pinned) (key : Key) (order : Ascend pinned.own) where
  own_row_is : (i : ℕ) (write : Write) → IsFoundAt pinned.own key i → slice_get pinned.own i ≡ Some write → at key (read_by width pinned) ≡ write.row
  own_row_is i write found is =
      read_is width pinned key order ∙ ap (λ o. unwrap_or o (at key (shown_by width pinned))) (found_at pinned.own key i write order found is)

  shown_row_is : IsPlaceOf pinned.own key None → at key (read_by width pinned) ≡ at key (shown_by width pinned)
  shown_row_is none = read_is width pinned key order ∙ ap (λ o. unwrap_or o (at key (shown_by width pinned))) (none_at pinned.own key none)

  pub own_source : (i : ℕ) (write : Write) → IsFoundAt pinned.own key i → slice_get pinned.own i ≡ Some write → is_some write.row ≡ true → Some (row_of width pinned (Own i)) ≡ option_map Some (at key (read_by width pinned))
  own_source i write found is some =
      ap (λ o. Some (option_and_then (λ (wrote : Write). wrote.row) o)) is ∙ some_of write.row some ∙ ap (option_map Some) (sym (own_row_is i write found is))

  pub own_gone : (i : ℕ) (write : Write) → IsFoundAt pinned.own key i → slice_get pinned.own i ≡ Some write → is_some write.row ≡ false → None ≡ option_map Some (at key (read_by width pinned))
  own_gone i write found is none = none_of write.row none ∙ ap (option_map Some) (sym (own_row_is i write found is))

  pub shown_source : (place : Place) → HasSnapshot pinned → IsPlaceOf pinned.own key None → Shows pinned.view key pinned.snapshot place → Some (row_of width pinned (Shown place)) ≡ option_map Some (at key (read_by width pinned))
  shown_source place has none shown =
      let found = found_shown width pinned.view key pinned.snapshot has.view has.from_floor has.to_clock place shown in
      ap Some found ∙ some_of (at key (shown_by width pinned)) (some_step width (version_at pinned.view place) (at key (shown_by width pinned)) _ found shown) ∙ ap (option_map Some) (sym (shown_row_is none))

  pub hidden_source : HasSnapshot pinned → IsPlaceOf pinned.own key None → HidesEach pinned.view key pinned.snapshot → None ≡ option_map Some (at key (read_by width pinned))
  hidden_source has none hidden =
      ap (option_map Some) (sym (shown_row_is none ∙ none_shown width pinned.view key pinned.snapshot has.view has.from_floor has.to_clock hidden))

-- a source where a row is read has the row
pub source_has : (o row : Option (List Value)) → Some o ≡ option_map Some row → IsSome o
source_has o None is = absurd (none-some o (sym is))
source_has o (Some row) is = subst IsSome (sym (same_Some o (Some row) is)) refl

pub source_row : (read : List Value) (o row : Option (List Value)) → o ≡ Some read → Some o ≡ option_map Some row → Some read ≡ row
source_row read o None has is = absurd (none-some o (sym is))
source_row read o (Some row) has is = sym has ∙ same_Some o (Some row) is

pub source_none : (row : Option (List Value)) → None ≡ option_map Some row → None ≡ row
source_none None is = refl
source_none (Some row) is = absurd (none-some (Some row) is)
