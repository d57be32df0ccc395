use Rattle.std.proofs.Common.{ℕ, sym, ap, subst, ◌∙◌, arith}
use Rattle.std.specs.List.{All, flat_map}
use Rattle.cs_types.specs.Schemas.{IsSchema}
use Rattle.edit_laws.specs.Edits.{edits_of}
use Rattle.group_view.specs.declared.parts.GroupPart.{GroupPart}
use Rattle.group_view.specs.declared.view.Pinned.{Pinned}
use Rattle.group_view.specs.Parts.{rowed_in, IsFitting}
use Rattle.row_work.specs.Reads.{MayRead}
use Rattle.desk_tests.proofs.Numbered.{may_read}
use Rattle.desk_tests.proofs.scan_workers_tests.pinned_of.Goals as goal

pub returns : goal.returns
returns c =
    let pinned : Pinned = record { view = record { groups = c.in_ok-from_vec.field-0; buffer = c.in_ok-copy.field-0; floor = 1; clock = 1 }; own = c.empty.result; snapshot = 1 } in
    let parts = c.in_ok-from_vec.ensures ∙ c.into_vec.ensures in
    λ schema is same.
    subst (λ s. MayRead s pinned) (sym same)
    (may_read pinned c.args.count (omega (arith, c.ranges.count.fits)) (ap (flat_map (λ (group : ℕ × GroupPart). rowed_in group.1)) parts ∙ c.in_ok-groups.ensures.rows)
    (subst (All (λ (group : ℕ × GroupPart). IsFitting group.1)) (sym parts) c.in_ok-groups.ensures.fitting) (ap edits_of c.empty.ensures) (omega arith) (omega arith) (subst IsSchema same is))
