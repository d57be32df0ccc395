use Rattle.std.proofs.Common.{◌≡◌, ◌++◌, List, Bool, true, sym, subst}
use Rattle.std.specs.Prelude.{IfOk, Some}
use Rattle.std.proofs.lemmas.List.{append-nil}
use Rattle.batch_aggregate.specs.Standing.{StandsFor}
use Rattle.batch_scan.specs.Reads.{AreShown}
use Rattle.code_tallies.specs.Shown.{shown_rows}
use Rattle.row_work.proofs.Sieved.{shown_every, shown_no_row}
use Rattle.row_work.proofs.packed.tally_shown.Goals as goal

pub returns-in-Every-clause-tallied : goal.returns-in-Every-clause-tallied
returns-in-Every-clause-tallied c = λ flags rows are same stands.
    let group = c.args.packed.now in
    let all = subst (AreShown flags) c.in-Every.is are in
    subst (λ l. IfOk c.tally_kept.result (λ done. done ≡ true → StandsFor c.tally_kept.new.partial (rows ++ l))) (shown_every group flags all same) (c.tally_kept.ensures.tallied rows stands)

pub returns-in-Nowhere-clause-tallied : goal.returns-in-Nowhere-clause-tallied
returns-in-Nowhere-clause-tallied c = λ flags rows are same stands yes.
    let all = subst (AreShown flags) c.in-Nowhere.is are in
    subst (λ l. StandsFor c.args.partial.now (rows ++ l)) (sym (shown_no_row c.args.packed.now flags all same)) (subst (StandsFor c.args.partial.now) (sym (append-nil rows)) stands)

pub returns-in-Some-clause-tallied : goal.returns-in-Some-clause-tallied
returns-in-Some-clause-tallied c = λ flags rows are same stands.
    let is = subst (AreShown flags) c.in-Some.is are in
    subst (λ (l : List Bool). IfOk c.tally_kept-in-Some.result (λ done. done ≡ true → StandsFor c.tally_kept-in-Some.new.partial (rows ++ shown_rows c.args.packed.now (Some l)))) is (c.tally_kept-in-Some.ensures.tallied rows stands)
