use Rattle.std.proofs.Common.{◌≡◌, ◌++◌, length}
use Rattle.std.specs.List.{All}
use Rattle.edit_laws.specs.Edits.{edits_of}
use Rattle.row_group.specs.Groups.{Group}
use Rattle.group_book.specs.Commits.{inserted_by}
use Rattle.group_view.specs.declared.claim.Parcel.{Parcel}
use Rattle.group_view.specs.Parcels.{IsParcelFor}
use Rattle.tuple_mover.specs.Inserts.{FitsIn}
use Rattle.tuple_mover.proofs.parcels.parcel_of.Given as goal

abbrev pub invariant-loop-left : goal.invariant-loop-left
invariant-loop-left l = record {
  left : l.left ≡ length (inserted_by (edits_of l.writes));
  fit : All (FitsIn l.schema) (edits_of l.writes);
  parcel : (tail : Parcel) → IsParcelFor l.schema (record { group_rows = l.group_rows; direct_rows = l.direct_rows }) (edits_of l.writes) tail
      → IsParcelFor l.schema (record { group_rows = l.group_rows; direct_rows = l.direct_rows }) (edits_of l.own) (record { groups = l.groups.items ++ tail.groups; rest = tail.rest });
  base : All (λ (group : Group). group.base ≡ 0) l.groups.items;
}

abbrev pub decreases-loop-left : goal.decreases-loop-left
decreases-loop-left l = l.left
