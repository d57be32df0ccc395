-- A group that is lent is the one of the view.
use Rattle.std.proofs.Common.{◌≡◌, ℕ, ◌<◌, inl, inr, ◌≤◌, [], length, get_or, refl, sym, ap, ◌∙◌, subst, arith}
use Rattle.std.specs.Prelude.{◌⊎◌, Option, None, Some, IfSome, IsSome, slice_get, unwrap_or}
use Rattle.std.specs.List.{All}
use Rattle.std.specs.Option.{option_map}
use Rattle.std.proofs.lemmas.Option.{get_or_from_slice_get, slice_get_cases, slice_get_within}
use Rattle.row_group.specs.Groups.{Group}
use Rattle.group_view.specs.declared.view.Pinned.{Pinned}
use Rattle.group_view.specs.declared.parts.GroupPart.{GroupPart}
use Rattle.group_view.specs.declared.parts.GroupPart.TheVariants.{Packed, Store}
use Rattle.group_view.specs.declared.parts.GroupRef.TheVariants as lent
use Rattle.group_view.specs.Parts.{packed_versions, rowed_in, stored_versions, IsBorrowed, IsFitting}
use Rattle.batch_scan.specs.Reads.{rowed_at}

module _ (pinned : Pinned) (group : ℕ) where
  fits_at : All (λ (part : ℕ × GroupPart). IsFitting part.1) pinned.view.groups → (o : Option (ℕ × GroupPart)) → slice_get pinned.view.groups group ≡ o → IfSome o (λ (part : ℕ × GroupPart). IsFitting part.1)
  fits_at all None at = tt
  fits_at all (Some part) at =
      subst (λ (p : ℕ × GroupPart). IsFitting p.1) (get_or_from_slice_get pinned.view.groups group part part at) (all group part (slice_get_within pinned.view.groups group part at))

  packed_step : (o : Option (ℕ × GroupPart)) (g : _) (m : _) → IfSome o (λ (part : ℕ × GroupPart). IsFitting part.1) → IsSome o → IfSome o (λ (part : ℕ × GroupPart). IsBorrowed part.1 (lent.Packed g m))
      → (length m.now ≡ length g.now.rows) × (unwrap_or (option_map (λ (part : ℕ × GroupPart). rowed_in part.1) o) [] ≡ packed_versions g.now.key g.now.rows m.now)
  packed_step None g m fits there is = cc
  packed_step (Some (id, Packed packed marks)) g m fits there is = (
    ap length is.1 ∙ fits ∙ sym (ap (λ (p : Group). length p.rows) is.0),
    ap (λ (p : Group). packed_versions p.key p.rows marks.value) (sym is.0) ∙ ap (packed_versions g.now.key g.now.rows) (sym is.1),
  )
  packed_step (Some (id, Store frozen)) g m fits there is = absurd is

  there_is : group < length pinned.view.groups → IsSome (slice_get pinned.view.groups group)
  there_is there = at (slice_get_cases pinned.view.groups group).1
    where
      at : ((part : ℕ × GroupPart) × (group < length pinned.view.groups) × (slice_get pinned.view.groups group ≡ Some part) × (get_or pinned.view.groups group part ≡ part)) ⊎ ((length pinned.view.groups ≤ group) × (slice_get pinned.view.groups group ≡ None))
          → IsSome (slice_get pinned.view.groups group)
      at (inl found) = subst IsSome (sym found.2) refl
      at (inr past) = absurd (omega (arith, there, past.0))

  -- a packed group that is lent is the group of the view
  pub packed_known : (g : _) (m : _) → group < length pinned.view.groups → All (λ (part : ℕ × GroupPart). IsFitting part.1) pinned.view.groups
      → IfSome (slice_get pinned.view.groups group) (λ (part : ℕ × GroupPart). IsBorrowed part.1 (lent.Packed g m))
      → (length m.now ≡ length g.now.rows) × (rowed_at pinned.view group ≡ packed_versions g.now.key g.now.rows m.now)
  packed_known g m there all is = packed_step (slice_get pinned.view.groups group) g m (fits_at all (slice_get pinned.view.groups group) refl) (there_is there) is

  stored_step : (o : Option (ℕ × GroupPart)) (store : _) → IsSome o → IfSome o (λ (part : ℕ × GroupPart). IsBorrowed part.1 (lent.Store store))
      → unwrap_or (option_map (λ (part : ℕ × GroupPart). rowed_in part.1) o) [] ≡ stored_versions store.now
  stored_step None store there is = cc
  stored_step (Some (id, Packed packed marks)) store there is = absurd is
  stored_step (Some (id, Store frozen)) store there is = ap stored_versions (sym is)

  -- a store that is lent is the store of the view
  pub stored_known : (store : _) → group < length pinned.view.groups → IfSome (slice_get pinned.view.groups group) (λ (part : ℕ × GroupPart). IsBorrowed part.1 (lent.Store store)) → rowed_at pinned.view group ≡ stored_versions store.now
  stored_known store there is = stored_step (slice_get pinned.view.groups group) store (there_is there) is
