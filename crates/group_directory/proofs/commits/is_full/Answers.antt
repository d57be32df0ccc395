use Rattle.group_directory.proofs.WholeLemmas.{past_is}
use Rattle.group_directory.proofs.commits.is_full.Goals as goal

pub returns : goal.returns
returns c = λ number replaced.
    past_is c.args.group_rows number replaced c.args.parcel.now c.args.list.now c.requires.rows c.requires.held c.len-2.result c.stores_needed-stores.result c.len.result c.is_past.result c.is_past.ensures c.len-2.ensures c.len.ensures c.stores_needed-stores.ensures
