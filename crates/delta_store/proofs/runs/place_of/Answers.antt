use Rattle.std.proofs.Common.{◌-◌, take, ap, sym, ◌∙◌, arith}
use Rattle.std.specs.Option.{option_or}
use Rattle.delta_store.specs.Index.{place_in}
use Rattle.delta_store.specs.Runs.{pairs_of}
use Rattle.delta_store.proofs.RunLemmas.{newest-place}
use Rattle.delta_store.proofs.runs.place_of.Goals as goal

pub returns-in-Some : goal.returns-in-Some
returns-in-Some c =
    let before = place_in (pairs_of (take (c.loop-older.older - 1) c.args.runs.now)) c.args.key in
    let newest = newest-place c.args.runs.now c.loop-older.older c.args.key c.index-runs-older.result c.deref.result.now c.loop-older-test.true c.loop-older.invariant.within c.index-runs-older.is c.deref.ensures in
    sym (c.loop-older.invariant.places ∙ newest ∙ ap (λ place. option_or place before) (sym c.get.ensures ∙ c.in-Some.is))

pub loop-older-preserved : goal.loop-older-preserved
loop-older-preserved c =
    let before = place_in (pairs_of (take (c.loop-older.older - 1) c.args.runs.now)) c.args.key in
    let newest = newest-place c.args.runs.now c.loop-older.older c.args.key c.index-runs-older.result c.deref.result.now c.loop-older-test.true c.loop-older.invariant.within c.index-runs-older.is c.deref.ensures in
    record {
      within = omega (arith, c.loop-older.invariant.within);
      places = c.loop-older.invariant.places ∙ newest ∙ ap (λ place. option_or place before) (sym c.get.ensures ∙ c.in_default.is);
    }
