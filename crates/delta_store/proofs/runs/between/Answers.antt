use Rattle.std.proofs.Common.{◌≡◌, ◌++◌, ◌+◌, ◌-◌, [], length, drop, ap, sym, ◌∙◌, subst, append_assoc, arith}
use Rattle.std.proofs.lemmas.List.{append-nil, drop_all}
use Rattle.delta_store.specs.Index.{IsCut}
use Rattle.delta_store.specs.Runs.{pairs_in, pairs_of}
use Rattle.delta_store.proofs.Cuts.{cut_none, pairs_of-drop}
use Rattle.delta_store.proofs.runs.between.Goals as goal

pub loop-older-init : goal.loop-older-init
loop-older-init c =
    let own = c.args.own.now.pairs in
    let runs = c.args.runs.now in
    let none = ap (λ l. own ++ pairs_of l) (drop_all (length runs) runs (omega arith)) ∙ append-nil own in
    record {
      within = omega arith;
      cut = subst (λ l. IsCut l c.args.least c.args.greatest c.in_ok-cut.cut.pairs) (sym none)
          (c.in_ok-cut.ensures [] (subst (IsCut [] c.args.least c.args.greatest) (sym c.new.ensures) (cut_none c.args.least c.args.greatest)));
    }

pub loop-older-preserved : goal.loop-older-preserved
loop-older-preserved c =
    let own = c.args.own.now.pairs in
    let runs = c.args.runs.now in
    let n = c.loop-older.older - 1 in
    let next : n + 1 ≡ c.loop-older.older = omega (arith, c.loop-older-test.true) in
    let run = c.index-runs-older.result in
    let older = pairs_in run in
    let held = ap (λ h. h.pairs) c.deref.ensures in
    let more =
    ap (λ l. own ++ l) (pairs_of-drop runs n run (omega (arith, c.loop-older.invariant.within, c.loop-older-test.true)) c.index-runs-older.is)
    ∙ sym (append_assoc own (pairs_of (drop (n + 1) runs)) older)
    ∙ ap (λ i. (own ++ pairs_of (drop i runs)) ++ older) next in
    record {
      within = omega (arith, c.loop-older.invariant.within);
      cut = subst (λ l. IsCut l c.args.least c.args.greatest c.in_ok-cut-2.cut.pairs) (sym more)
          (subst (λ l. IsCut ((own ++ pairs_of (drop c.loop-older.older runs)) ++ l) c.args.least c.args.greatest c.in_ok-cut-2.cut.pairs) held
          (c.in_ok-cut-2.ensures (own ++ pairs_of (drop c.loop-older.older runs)) c.loop-older.invariant.cut));
    }
