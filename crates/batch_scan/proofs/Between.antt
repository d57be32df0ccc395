-- The groups of a view from one place up to another.
use Rattle.std.proofs.Common.{◌≡◌, ℕ, suc, ◌+◌, ◌<◌, ◌≤◌, List, [], ◌++◌, length, take, drop, refl, ap, ◌∙◌, arith}
use Rattle.std.specs.Prelude.{Option, None, Some, slice_get, unwrap_or}
use Rattle.std.specs.List.{flat_map}
use Rattle.std.specs.Option.{option_map, option_to_list}
use Rattle.std.proofs.lemmas.List.{append-nil, drop-append-le, length-take-le}
use Rattle.std.proofs.lemmas.List.Concat.{flat_map-append}
use Rattle.edit_laws.proofs.Lists.{take_next}
use Rattle.group_view.specs.declared.parts.GroupPart.{GroupPart}
use Rattle.group_view.specs.declared.view.GroupView.{GroupView}
use Rattle.group_view.specs.Parts.{Rowed, rowed_in}
use Rattle.batch_scan.specs.Reads.{rowed_at}
use Rattle.batch_scan.specs.Scans.{groups_between}

-- the versions of these groups
abbrev pub rowed_between : GroupView → ℕ → ℕ → List Rowed
rowed_between view from to = flat_map (λ (group : ℕ × GroupPart). rowed_in group.1) (groups_between view from to)

one_group : (o : Option (ℕ × GroupPart)) → flat_map (λ (group : ℕ × GroupPart). rowed_in group.1) (option_to_list o) ≡ unwrap_or (option_map (λ (part : ℕ × GroupPart). rowed_in part.1) o) []
one_group None = refl
one_group (Some part) = append-nil (rowed_in part.1)

-- one group more
pub between_more : (view : GroupView) (from n : ℕ) → from ≤ n → n < length view.groups → rowed_between view from (n + 1) ≡ rowed_between view from n ++ rowed_at view n
between_more view from n low there =
    let next : n + 1 ≡ suc n = omega arith in
    let rows = λ (group : ℕ × GroupPart). rowed_in group.1 in
    let front = take n view.groups in
    let last = option_to_list (slice_get view.groups n) in
    let counted : length front ≡ n = length-take-le n view.groups (omega (arith, there)) in
    ap (λ k. flat_map rows (drop from (take k view.groups))) next ∙ ap (λ l. flat_map rows (drop from l)) (take_next view.groups n)
    ∙ ap (flat_map rows) (drop-append-le from front last (omega (arith, counted, low)))
    ∙ flat_map-append rows (drop from front) last ∙ ap (λ l. flat_map rows (drop from front) ++ l) (one_group (slice_get view.groups n))
