use Rattle.std.proofs.Common.{◌++◌, ap, sym, ◌∙◌}
use Rattle.delta_store.specs.Runs.{pairs_of}
use Rattle.delta_store.proofs.index.KeyIndex.share.Goals as goal

-- the own run is empty, so the other runs have all pairs
pub returns-clause-shared : goal.returns-clause-shared
returns-clause-shared c =
    rw (c.new.ensures, c.in_ok-share.ensures, c.deref.ensures.value, ← c.self.view_is)
    (sym (ap (λ own. own ++ pairs_of c.seal.new.runs.items) c.in_ok-seal.ensures.own) ∙ c.seal.ensures.pairs)
