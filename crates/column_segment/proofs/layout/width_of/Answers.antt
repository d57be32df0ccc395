use Rattle.column_segment.proofs.Layouts.{IsLeastWidth-greatest}
use Rattle.column_segment.proofs.layout.width_of.Goals as goal

pub returns-clause-width : goal.returns-clause-width
returns-clause-width c = IsLeastWidth-greatest _ _ _ c.greatest_of.ensures.bound c.greatest_of.ensures.reached c.bits_of.ensures.room c.bits_of.ensures.least
