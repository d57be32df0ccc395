use Rattle.std.proofs.Common.{ap}
use Rattle.group_directory.proofs.LookLaws.{stands_closed}
use Rattle.group_directory.proofs.directory.Directory.close_opened.Goals as goal

pub returns-clause-stands : goal.returns-clause-stands
returns-clause-stands c = λ changes j. stands_closed c.args.self.now changes j c.close.new.list c.close.ensures.held c.close.ensures.book c.close.ensures.listed c.close.ensures.packed (ap (λ claims. claims.items) c.close.ensures.claims)

pub returns-clause-claims : goal.returns-clause-claims
returns-clause-claims c = ap (λ claims. claims.items) c.close.ensures.claims
