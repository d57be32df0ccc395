use Rattle.std.proofs.Common.{◌∙◌}
use Rattle.version_store.proofs.RunLaws.{searched}
use Rattle.group_directory.proofs.obstacles.is_one_of.Goals as goal

pub returns : goal.returns
returns c = let b = c.binary_search.ensures in c.is_ok.ensures.value ∙ searched c.args.keys.now c.requires c.args.key c.binary_search.result b.bound b.position
