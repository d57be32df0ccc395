use Rattle.std.proofs.Common.{take, length}
use Rattle.std.specs.List.{flat_map}
use Rattle.std.specs.Prelude.{ℕ}
use Rattle.group_view.specs.Parts.{rowed_in}
use Rattle.group_view.specs.Views.{buffer_of}
use Rattle.tuple_mover.specs.Kept.{kept_of, HasKept}
use Rattle.tuple_mover.proofs.kept.kept_rows.Given as goal

abbrev pub invariant-loop-place : goal.invariant-loop-place
invariant-loop-place l = HasKept (length l.claim.schema.value.columns) (kept_of l.claim.floor (buffer_of l.claim.view) (flat_map (λ (group : ℕ × _). rowed_in group.1) (take l.place l.claim.view.groups))) l.kept
