use Rattle.delta_store.specs.Places.{keyed_in}
use Rattle.delta_store.proofs.VersionLemmas.{IsLastPlace-last_place}
use Rattle.delta_store.proofs.frozen.Frozen.of_key.Goals as goal

pub returns : goal.returns
returns c = rw (← c.self.view_is, c.get.ensures, c.self.invariant.indexed.places c.args.key) (IsLastPlace-last_place (keyed_in c.self.inside.chunks.versions) c.args.key)
