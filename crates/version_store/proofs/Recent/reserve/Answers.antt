use Rattle.std.proofs.Common.{◌∙◌, ap}
use Rattle.version_store.specs.Newest.{Newest}
use Rattle.version_store.specs.Loads.{newest_first}
use Rattle.version_store.proofs.Laid.{same_changes, same_over}
use Rattle.version_store.proofs.Recent.reserve.Goals as goal

pub invariant_of-self-2 : goal.invariant_of-self-2
invariant_of-self-2 c = same_over c.self.inside.changes.entries c.reserve.new.self.entries (newest_first c.self.inside.runs.loads) (λ q. c.reserve.ensures.entries.2 q) c.self.invariant

pub returns-clause-changes : goal.returns-clause-changes
returns-clause-changes c =
    same_changes c.self.inside.changes.entries c.reserve.new.self.entries (newest_first c.self.inside.runs.loads) (λ q. c.reserve.ensures.entries.2 q)
    ∙ ap (λ (n : Newest). n.changes) c.self.view_is
