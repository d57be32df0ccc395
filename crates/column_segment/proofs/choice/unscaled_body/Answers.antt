use Rattle.std.proofs.Common.{List, refl, subst}
use Rattle.std.proofs.lemmas.Result.{IfOk-weaker}
use Rattle.cs_types.specs.declared.Value.{Value}
use Rattle.column_segment.specs.declared.body.SegmentBody.{SegmentBody}
use Rattle.column_segment.specs.Bodies.{HasNoScale, IsBest}
use Rattle.column_segment.specs.Choices.{AreCosts, IsDictBody}
use Rattle.column_segment.specs.Dicts.{IsCoded}
use Rattle.column_segment.proofs.Dicts.{dict-neighbours}
use Rattle.column_segment.proofs.Best.{IsLeastWidth-at, best-unscaled, counts-runs}
use Rattle.column_segment.proofs.choice.unscaled_body.Goals as goal

pub dict_body-requires-clause-room : goal.dict_body-requires-clause-room
dict_body-requires-clause-room c =
    let coded = c.requires.1 in
    IsLeastWidth-at c.args.codes.now _ c.width_in.result _ refl c.costs_of-costs.ensures.0
    (c.width_in.ensures.width c.requires.0 c.args.codes.now coded.1 coded.2 coded.0)

pub returns : goal.returns
returns c =
    let Made : SegmentBody → Type 0 = IsDictBody c.args.dict c.args.codes.now c.costs_of-costs.result in
    let Wanted : SegmentBody → Type 0 = λ body. (cells : List Value) → IsCoded cells c.args.dict c.args.codes.now → HasNoScale cells → IsBest cells body in
    IfOk-weaker c.dict_body.result Made Wanted
    (λ body is cells coded unscaled.
    best-unscaled cells c.args.dict c.args.codes.now c.words_of.result c.width_in.result c.runs_in.result c.costs_of-costs.result
    unscaled coded.1 coded.2
    (c.width_in.ensures.width cells c.args.codes.now coded.1 coded.2 coded.0)
    c.width_in.ensures.most c.words_of.ensures.words (subst (λ n. AreCosts c.words_of.result n c.width_in.result c.runs_in.result c.costs_of-costs.result) coded.2.0 c.costs_of-costs.ensures)
    (counts-runs cells c.args.codes.now c.args.codes.now c.runs_in.result (dict-neighbours cells c.args.dict coded.1 c.args.codes.now coded.2) refl c.runs_in.ensures.runs)
    body is)
    c.dict_body.ensures
