use Rattle.std.proofs.Common.{ap, sym, ◌∙◌}
use Rattle.std.specs.Option.{option_or}
use Rattle.delta_store.specs.Index.{place_in}
use Rattle.delta_store.specs.Runs.{pairs_of}
use Rattle.delta_store.proofs.Pairs.{place_in-append}
use Rattle.delta_store.proofs.index.KeyIndex.get.Goals as goal

-- a key that the own run has has its place there
pub returns-in-Some : goal.returns-in-Some
returns-in-Some c = rw (← c.self.view_is) (sym (place_in-append c.self.inside.own.pairs (pairs_of c.self.inside.runs.items) c.args.key ∙ ap (λ o. option_or o (place_in (pairs_of c.self.inside.runs.items) c.args.key)) (sym c.in-Some.ensures)))

-- and any other that in the newest of the other runs
pub returns-in-None : goal.returns-in-None
returns-in-None c = rw (← c.self.view_is) (sym (place_in-append c.self.inside.own.pairs (pairs_of c.self.inside.runs.items) c.args.key ∙ ap (λ o. option_or o (place_in (pairs_of c.self.inside.runs.items) c.args.key)) (sym c.in-None.ensures) ∙ sym (rw c.deref.ensures.value at c.place_of.ensures)))
