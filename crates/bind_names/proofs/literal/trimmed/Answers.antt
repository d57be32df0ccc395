use Rattle.std.proofs.Common.{◌∙◌, rules}
use Rattle.bind_names.proofs.Spaces.{without_space, with_other}
use Rattle.bind_names.proofs.literal.trimmed.Goals as goal

pub returns-then-last-ne32 : goal.returns-then-last-ne32
returns-then-last-ne32 c =
    with_other c.more.rest.now c.in-Some.front.now c.in-Some.last.now c.in-Some.ensures.cases.0 (search rules) ∙ c.more.invariant

pub more-preserved : goal.more-preserved
more-preserved c =
    without_space c.more.rest.now c.in-Some.front.now c.in-Some.last.now c.in-Some.ensures.cases.0 (search rules) ∙ c.more.invariant
