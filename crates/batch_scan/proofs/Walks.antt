-- Rows that are read one by one.
use Rattle.std.proofs.Common.{◌≡◌, ℕ, suc, ◌+◌, List, [], ◌++◌, take, refl, ap, ◌∙◌, arith}
use Rattle.std.specs.Prelude.{Option, None, Some, slice_get, unwrap_or}
use Rattle.std.specs.List.{cons_option, filter_map, flat_map}
use Rattle.std.specs.Option.{option_and_then, option_map, option_to_list}
use Rattle.std.specs.Map.{values_of}
use Rattle.std.proofs.lemmas.List.{append-nil, map-append}
use Rattle.std.proofs.lemmas.List.Concat.{flat_map-append}
use Rattle.std.proofs.lemmas.List.Elements.{filter_map-append}
use Rattle.cs_types.specs.declared.Key.{Key}
use Rattle.cs_types.specs.declared.Value.{Value}
use Rattle.cs_model.specs.Changes.{Table}
use Rattle.edit_laws.proofs.Lists.{take_next}
use Rattle.group_view.specs.declared.parts.GroupPart.{GroupPart}
use Rattle.group_view.specs.declared.view.GroupView.{GroupView}
use Rattle.group_view.specs.Parts.{rowed_in}
use Rattle.batch_scan.specs.Reads.{rowed_at}

-- ---- one element more

one_of : {X Y : Type 0} (f : X → Option Y) (o : Option X) → filter_map f (option_to_list o) ≡ option_to_list (option_and_then f o)
one_of f None = refl
one_of f (Some x) = step (f x)
  where
    step : {Y : Type 0} (o : Option Y) → cons_option o [] ≡ option_to_list o
    step None = refl
    step (Some y) = refl

pub read_more : {X Y : Type 0} (f : X → Option Y) (xs : List X) (n : ℕ) → filter_map f (take (n + 1) xs) ≡ filter_map f (take n xs) ++ option_to_list (option_and_then f (slice_get xs n))
read_more f xs n =
    let next : n + 1 ≡ suc n = omega arith in
    ap (λ k. filter_map f (take k xs)) next ∙ ap (filter_map f) (take_next xs n) ∙ filter_map-append f (take n xs) (option_to_list (slice_get xs n))
    ∙ ap (λ l. filter_map f (take n xs) ++ l) (one_of f (slice_get xs n))

-- one group more
pub groups_more : (view : GroupView) (n : ℕ) → flat_map (λ (group : ℕ × GroupPart). rowed_in group.1) (take (n + 1) view.groups) ≡ flat_map (λ (group : ℕ × GroupPart). rowed_in group.1) (take n view.groups) ++ rowed_at view n
groups_more view n =
    let rows = λ (group : ℕ × GroupPart). rowed_in group.1 in
    let next : n + 1 ≡ suc n = omega arith in
    ap (λ k. flat_map rows (take k view.groups)) next ∙ ap (flat_map rows) (take_next view.groups n) ∙ flat_map-append rows (take n view.groups) (option_to_list (slice_get view.groups n))
    ∙ ap (λ l. flat_map rows (take n view.groups) ++ l) (one_group (slice_get view.groups n))
  where
    one_group : (o : Option (ℕ × GroupPart)) → flat_map (λ (group : ℕ × GroupPart). rowed_in group.1) (option_to_list o) ≡ unwrap_or (option_map (λ (part : ℕ × GroupPart). rowed_in part.1) o) []
    one_group None = refl
    one_group (Some part) = append-nil (rowed_in part.1)

-- ---- rows without their keys

pub values_append : (xs ys : Table) → values_of (xs ++ ys) ≡ values_of xs ++ values_of ys
values_append xs ys = map-append (λ (entry : Key × List Value). entry.1) xs ys
