use Rattle.std.proofs.Common.{◌<◌, ◌∙◌, sym, ap, subst}
use Rattle.std.specs.Option.{ForSome}
use Rattle.std.specs.FinMap as map
use Rattle.version_store.specs.Newest.{Newest}
use Rattle.version_store.specs.Loads.{newest_first}
use Rattle.version_store.proofs.Laid.{one_change, one_over}
use Rattle.version_store.proofs.Recent.note.Goals as goal

pub invariant_of-self : goal.invariant_of-self
invariant_of-self c =
    one_over c.self.inside.changes.entries c.insert.new.self.entries (newest_first c.self.inside.runs.loads) c.args.key c.args.change (λ q. c.in-Ok.ensures.updates.0 q) c.self.invariant
    (subst (λ (n : Newest). ForSome (map.get n.changes c.args.key) (λ other. other.commit < c.args.change.commit)) (sym c.self.view_is) c.requires.newer)

pub returns-clause-changes : goal.returns-clause-changes
returns-clause-changes c =
    one_change c.self.inside.changes.entries c.insert.new.self.entries (newest_first c.self.inside.runs.loads) c.args.key c.args.change (λ q. c.in-Ok.ensures.updates.0 q)
    ∙ ap (λ (n : Newest). map.insert n.changes c.args.key c.args.change) c.self.view_is
