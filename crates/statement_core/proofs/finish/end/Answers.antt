use Rattle.statement_core.proofs.finish.end.Goals as goal

pub returns-then-is_some-clause-step : goal.returns-then-is_some-clause-step
returns-then-is_some-clause-step c = λ begin changes. (c.requires.rests, c.roll_back.ensures.state changes)
