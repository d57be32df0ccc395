use Rattle.std.proofs.Common.{◌≡◌, length, reverse}
use Rattle.script_reader.specs.Lines.{unblanked}
use Rattle.script_reader.proofs.form.stripped.Given as goal

-- without the blanks passed at its end the line is as before
abbrev pub invariant-more : goal.invariant-more
invariant-more l = unblanked (reverse l.rest) ≡ unblanked (reverse (unblanked l.fn.line))

abbrev pub decreases-more : goal.decreases-more
decreases-more l = length l.rest
