use Rattle.std.proofs.Common.{◌≡◌, ◌-◌, ◌≤◌, ◌++◌, List, drop, length}
use Rattle.std.specs.List.{All}
use Rattle.cs_types.specs.declared.Value.{Value}
use Rattle.cs_model.specs.Answers.{edits_of}
use Rattle.row_group.specs.Groups.{Group}
use Rattle.group_view.specs.declared.claim.Parcel.{Parcel}
use Rattle.group_view.specs.Parcels.{IsParcelFor}
use Rattle.tuple_mover.specs.Inserts.{AreRowsOf}
use Rattle.tuple_mover.proofs.column_parcels.parcel_in_parts.Given as goal

abbrev pub invariant-loop-from : goal.invariant-loop-from
invariant-loop-from l = record {
  within : l.from ≤ length l.keys;
  parcel : (rows : List (List Value)) → AreRowsOf l.schema l.keys l.columns rows → (tail : Parcel)
      → IsParcelFor l.schema (record { group_rows = l.group_rows; direct_rows = l.direct_rows }) (edits_of l.schema (drop l.from rows)) tail
      → IsParcelFor l.schema (record { group_rows = l.group_rows; direct_rows = l.direct_rows }) (edits_of l.schema rows) (record { groups = l.groups.items ++ tail.groups; rest = tail.rest });
  base : All (λ (group : Group). group.base ≡ 0) l.groups.items;
}

abbrev pub decreases-loop-from : goal.decreases-loop-from
decreases-loop-from l = length l.keys - l.from
