use Rattle.std.proofs.Common.{◌≡◌, ◌+◌, ◌∙◌, sym, ap, subst, List, take, length, arith}
use Rattle.cs_types.specs.declared.Key.{Key}
use Rattle.version_store.specs.declared.NewestChange.{NewestChange}
use Rattle.version_store.specs.Newest.{IsApart}
use Rattle.version_store.specs.Loads.{Load, Loads, found, newest_first, changes_of}
use Rattle.version_store.proofs.Laid.{apart_both}
use Rattle.version_store.proofs.LoadLaws.{newest_first-taken, length-taken, fewer_taken}
use Rattle.version_store.proofs.runs.Runs.is_apart.Goals as goal

pub loop-run-preserved : goal.loop-run-preserved
loop-run-preserved c =
    let items = c.deref-run-items.result.now in
    subst (λ (es : List (Key × NewestChange)). IsApart c.args.least c.args.greatest (found es)) (sym (newest_first-taken items c.loop-run.run-index c.run-item.result c.loop-run-test.true c.run-item.is))
    (apart_both (changes_of c.run-item.result) (newest_first (take c.loop-run.run-index items)) c.args.least c.args.greatest (c.is_apart.ensures.apart c.if-not-is_apart.false) c.loop-run.invariant)

pub returns-then-not-is_apart-clause-none : goal.returns-then-not-is_apart-clause-none
returns-then-not-is_apart-clause-none c = λ none.
    let items = c.deref-run-items.result.now in
    let more = length-taken items c.loop-run.run-index c.run-item.result c.loop-run-test.true c.run-item.is in
    let fewer = fewer_taken (c.loop-run.run-index + 1) items in
    let whole : length (newest_first items) ≡ length (newest_first c.args.self.now.loads) = ap (λ (loads : List Load). length (newest_first loads)) c.deref-run-items.ensures.value ∙ ap (λ (l : Loads). length (newest_first l.loads)) c.self.view_is in
    let empty : length c.run-item.result.keys ≡ 0 = omega (arith, more, fewer, whole, none) in
    absurd (cc (c.is_apart.ensures.none empty, c.if-not-is_apart.true))
