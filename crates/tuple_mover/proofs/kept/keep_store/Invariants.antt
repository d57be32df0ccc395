use Rattle.std.proofs.Common.{◌++◌, ℕ, List, take}
use Rattle.group_view.specs.Parts.{Rowed, stored_versions}
use Rattle.group_view.specs.Views.{endings_of}
use Rattle.tuple_mover.specs.Kept.{kept_of, HasKept}
use Rattle.tuple_mover.proofs.kept.keep_store.Given as goal

abbrev pub invariant-loop-position : goal.invariant-loop-position
invariant-loop-position l =
    (width : ℕ) (rowed : List Rowed) → HasKept width rowed l.initial.kept → HasKept width (rowed ++ kept_of l.floor (endings_of l.buffer) (take l.position (stored_versions l.store))) l.kept
