use Rattle.group_view.specs.Parts.{lived_version}
use Rattle.row_work.proofs.Stored.{read_there}
use Rattle.row_work.proofs.by_key.read_at_position.Goals as goal

pub returns : goal.returns
returns c = read_there c.args.width c.args.pinned.now c.args.place (lived_version c.version.result) c.in_ok-row.row.now c.requires c.version.ensures c.in_ok-row.ensures
