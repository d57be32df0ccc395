use Rattle.std.proofs.Common.{◌∙◌, sym}
use Rattle.row_work.proofs.Found.{hidden_source, own_gone, own_source, shown_source}
use Rattle.row_work.proofs.lookup.source_at.Goals as goal

pub returns-then-is_some-clause-row : goal.returns-then-is_some-clause-row
returns-then-is_some-clause-row c = λ width. own_source width c.args.pinned.now c.args.key c.in-Some.ensures.order c.in-Some.i c.get.result.now c.in-Some.ensures.place c.get.ensures (sym c.is_some.ensures ∙ c.if-is_some.true)

pub returns-else-is_some-clause-row : goal.returns-else-is_some-clause-row
returns-else-is_some-clause-row c = λ width. own_gone width c.args.pinned.now c.args.key c.in-Some.ensures.order c.in-Some.i c.get.result.now c.in-Some.ensures.place c.get.ensures (sym c.is_some.ensures ∙ c.if-is_some.false)

pub returns-in-Some-lookup-clause-row : goal.returns-in-Some-lookup-clause-row
returns-in-Some-lookup-clause-row c = λ width. shown_source width c.args.pinned.now c.args.key c.in-None.ensures.order c.in-Some-lookup.place c.requires c.in-None.ensures.place c.in-Some-lookup.ensures.found

pub returns-in-None-lookup-clause-row : goal.returns-in-None-lookup-clause-row
returns-in-None-lookup-clause-row c = λ width. hidden_source width c.args.pinned.now c.args.key c.in-None.ensures.order c.requires c.in-None.ensures.place c.in-None-lookup.ensures.none
