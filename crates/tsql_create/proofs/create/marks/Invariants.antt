use Rattle.std.proofs.Common.{◌≡◌, length}
use Rattle.tsql_grammar.specs.Forms.{many, with_front}
use Rattle.tsql_create.specs.Setup.{mark}
use Rattle.tsql_create.proofs.create.marks.Given as goal

abbrev pub invariant-more : goal.invariant-more
invariant-more l = with_front l.list ((many mark).reads l.reader.rest.now) ≡ (many mark).reads l.fn.reader.rest.now

abbrev pub decreases-more : goal.decreases-more
decreases-more l = length l.reader.rest.now
