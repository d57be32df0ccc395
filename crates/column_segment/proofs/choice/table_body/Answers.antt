use Rattle.std.proofs.Common.{ℕ, List, ◌∙◌, subst, refl}
use Rattle.std.proofs.lemmas.Result.{IfOk-weaker}
use Rattle.column_segment.specs.Choices.{IsValueBody}
use Rattle.column_segment.proofs.Best.{IsLeastWidth-at}
use Rattle.column_segment.proofs.Scaled.{picked-one, picked-places}
use Rattle.column_segment.proofs.choice.table_body.Goals as goal

pub value_body-requires-clause-room : goal.value_body-requires-clause-room
value_body-requires-clause-room c =
    c.requires.room c.args.places.now (picked-places c.args.table.now c.args.places.now c.if-counts_up.ensures c.requires.within)

pub returns-then-counts_up : goal.returns-then-counts_up
returns-then-counts_up c =
    let table = c.args.table.now in
    let places = c.args.places.now in
    let here = picked-places table places c.if-counts_up.ensures c.requires.within in
    IfOk-weaker c.value_body.result _ _
    (λ body is codes picked. subst (λ (some : List ℕ). IsValueBody c.args.scale some c.args.costs body) (picked-one table places places codes here picked) is)
    c.value_body.ensures

pub value_body-requires-2-clause-room : goal.value_body-requires-2-clause-room
value_body-requires-2-clause-room c =
    IsLeastWidth-at c.in_ok-codes.codes.items c.as_slice.result.now c.args.costs.width c.args.costs.width c.as_slice.ensures.value refl
    (c.requires.room c.in_ok-codes.codes.items c.in_ok-codes.ensures)

pub returns : goal.returns
returns c =
    let table = c.args.table.now in
    let places = c.args.places.now in
    IfOk-weaker c.value_body-2.result _ _
    (λ body is codes picked. subst (λ (some : List ℕ). IsValueBody c.args.scale some c.args.costs body) (c.as_slice.ensures.value ∙ picked-one table places c.in_ok-codes.codes.items codes c.in_ok-codes.ensures picked) is)
    c.value_body-2.ensures
