use Rattle.std.proofs.Common.{◌≡◌, ◌++◌, [], ap, ◌∙◌}
use Rattle.delta_store.specs.Index.{Index}
use Rattle.delta_store.specs.Runs.{pairs_of}
use Rattle.delta_store.proofs.RunLemmas.{pairs_of-push}
use Rattle.delta_store.proofs.runs.seal.Goals as goal

-- the own run stands after the others, and so first
pub returns-in-Ok : goal.returns-in-Ok
returns-in-Ok c =
    let runs = c.args.runs.now.items in
    let none : c.replace.new.dest.pairs ≡ [] = ap (λ (run : Index). run.pairs) c.replace.ensures.after ∙ c.new.ensures in
    let own : c.in-Ok.run'.value.pairs ≡ c.args.own.now.pairs = ap (λ (run : Index). run.pairs) (c.in-Ok.ensures.ok ∙ c.replace.ensures.value) in
    record {
      pairs = rw (none, c.push_reserved.ensures.items, c.reserve.ensures.items) (pairs_of-push runs c.in-Ok.run' ∙ ap (λ pairs. pairs ++ pairs_of runs) own);
      own = none;
    }
