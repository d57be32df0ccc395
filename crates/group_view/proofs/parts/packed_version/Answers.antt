use Rattle.group_view.proofs.Versions.{packed_is, packed_within}
use Rattle.group_view.proofs.parts.packed_version.Goals as goal

pub key_at-requires : goal.key_at-requires
key_at-requires c = let group = c.args.packed.now in (packed_within group.key group.rows c.args.marks.now c.args.position c.requires).0

pub begin-requires : goal.begin-requires
begin-requires c = let group = c.args.packed.now in (packed_within group.key group.rows c.args.marks.now c.args.position c.requires).0

pub returns : goal.returns
returns c = packed_is c.args.packed.now c.args.marks.now c.args.position c.requires c.key_at.result c.begin.result c.end.result c.key_at.ensures c.begin.ensures c.end.ensures
