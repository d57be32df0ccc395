use Rattle.std.proofs.Common.{◌∙◌, sym, ap, List, take, Option}
use Rattle.std.specs.Option.{option_or}
use Rattle.cs_types.specs.declared.Key.{Key}
use Rattle.version_store.specs.declared.NewestChange.{NewestChange}
use Rattle.version_store.specs.Loads.{found, newest_first, changes_of}
use Rattle.version_store.proofs.Laid.{found-append}
use Rattle.version_store.proofs.LoadLaws.{newest_first-taken}
use Rattle.version_store.proofs.runs.Runs.newest.Goals as goal

pub loop-run-preserved : goal.loop-run-preserved
loop-run-preserved c =
    let items = c.deref-run-items.result.now in
    let before = newest_first (take c.loop-run.run-index items) in
    c.or-newest.ensures
    ∙ ap (λ (o : Option NewestChange). option_or o c.loop-run.newest) c.newest.ensures
    ∙ ap (option_or (found (changes_of c.run-item.result) c.args.key)) c.loop-run.invariant
    ∙ sym (ap (λ (es : List (Key × NewestChange)). found es c.args.key) (newest_first-taken items c.loop-run.run-index c.run-item.result c.loop-run-test.true c.run-item.is) ∙ found-append (changes_of c.run-item.result) before c.args.key)
