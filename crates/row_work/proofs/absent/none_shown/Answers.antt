use Rattle.std.proofs.Common.{◌≡◌, ◌∙◌, List, get_or, take, pos, false, sym, subst}
use Rattle.std.specs.List.{All}
use Rattle.std.proofs.lemmas.List.{take_all, take_more}
use Rattle.std.proofs.lemmas.List.Elements.{All-push}
use Rattle.cs_types.specs.declared.Key.{Key}
use Rattle.cs_model.specs.Obstacles.{has_row}
use Rattle.row_work.specs.Reads.{shown_by}
use Rattle.row_work.proofs.absent.none_shown.Goals as goal

pub loop-key-preserved : goal.loop-key-preserved
loop-key-preserved c = λ width.
    let keys = c.args.keys.now in
    let i = c.loop-key.key-index in
    let absent = λ (key : Key). has_row (shown_by width c.args.pinned.now) key ≡ false in
    let d : Key = record { 0 = pos 0 } in
    subst (λ (list : List Key). All absent list) (sym (take_more keys i d c.loop-key-test.true))
    (All-push absent (take i keys) (get_or keys i d) (c.loop-key.invariant width) (sym (c.has_row_shown.ensures width) ∙ c.if-has_row_shown.false))

pub returns : goal.returns
returns c = λ yes width.
    let absent = λ (key : Key). has_row (shown_by width c.args.pinned.now) key ≡ false in
    subst (λ (list : List Key). All absent list) (take_all c.loop-key.key-index c.args.keys.now c.loop-key-test.false) (c.loop-key.invariant width)
