use Rattle.std.proofs.Common.{◌≡◌, length}
use Rattle.script_reader.specs.Lines.{unblanked}
use Rattle.script_reader.proofs.form.unblanked.Given as goal

-- without the blanks passed the line is as before
abbrev pub invariant-more : goal.invariant-more
invariant-more l = unblanked l.rest ≡ unblanked l.fn.line

abbrev pub decreases-more : goal.decreases-more
decreases-more l = length l.rest
