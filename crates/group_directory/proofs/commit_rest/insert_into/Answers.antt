use Rattle.std.proofs.Common.{sym, ◌∙◌}
use Rattle.group_directory.proofs.EndLemmas.{live_same}
use Rattle.group_directory.proofs.commit_rest.insert_into.Goals as goal

pub insert-requires-clause-ended : goal.insert-requires-clause-ended
insert-requires-clause-ended c = let dead = rw c.in-Opened.is at c.requires.dead in sym (live_same c.args.key c.in-Opened.store.versions) ∙ dead
