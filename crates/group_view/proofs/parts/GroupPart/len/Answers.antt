use Rattle.group_view.proofs.Versions.{length-packed_versions}
use Rattle.group_view.proofs.parts.GroupPart.len.Goals as goal

pub returns-in-Packed : goal.returns-in-Packed
returns-in-Packed c =
    let fitting = rw c.in-Packed.is at c.requires in
    rw (c.in-Packed.is, length-packed_versions _ _ _ fitting) cc
