use Rattle.statement_core.proofs.movers.close_opened.Goals as goal

pub returns-clause-claims : goal.returns-clause-claims
returns-clause-claims c = c.close_opened.ensures.claims
